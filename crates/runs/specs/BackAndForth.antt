-- From the live events before some commands to those after them: first back, then forth.
use Rattle.std.specs.Prelude.{ℕ, suc, List, [], ◌∷◌, ◌++◌, cond}
use Rattle.system.specs.Expression.{is_in}
use Rattle.runs.specs.Live.{Live}
use Rattle.runs.specs.Choices.{choice_of}
use Rattle.runs.specs.Commands.{Command, Reply}

-- the tickets of live events
abbrev pub tickets : Live → List ℕ
tickets [] = []
tickets (x ∷ l) = x.0 ∷ tickets l

-- the part of l whose tickets are not in k
abbrev pub missing_from : Live → Live → Live
missing_from k [] = []
missing_from k (x ∷ l) = cond (is_in x.0 (tickets k)) (missing_from k l) (x ∷ missing_from k l)

-- an undo of each, from the greatest ticket down
abbrev pub undo_each : Live → List Command
undo_each [] = []
undo_each (x ∷ l) = undo_each l ++ Command.Undo x.0 ∷ []

-- what is then answered: each was that event
abbrev pub undone_each : Live → List Reply
undone_each [] = []
undone_each (x ∷ l) = undone_each l ++ Reply.Undone x.0 x.1 ∷ []

-- a step at the choice of each, in order of tickets
abbrev pub step_each : Live → List Command
step_each [] = []
step_each (x ∷ l) = Command.Step (choice_of x.1) ∷ step_each l

-- what is then answered: each makes that very event, under the tickets from n on
abbrev pub stepped_each : ℕ → Live → List Reply
stepped_each n [] = []
stepped_each n (x ∷ l) = Reply.Stepped n x.1 ∷ stepped_each (suc n) l

-- back from l to what it has in common with k, then forth to k
abbrev pub back_and_forth : Live → Live → List Command
back_and_forth l k = undo_each (missing_from k l) ++ step_each (missing_from l k)

-- what is then answered, where n is the next ticket
abbrev pub back_and_forth_replies : ℕ → Live → Live → List Reply
back_and_forth_replies n l k = undone_each (missing_from k l) ++ stepped_each n (missing_from l k)
