-- The reply to a command of a session: there is one, it is determined, and so is the desk after it.
use Rattle.std.specs.Prelude.{◌≡◌, ℕ, List, ◌++◌}
use Rattle.runs.specs.Choices.{choice_of}
use Rattle.runs.specs.ObjectLaws.{Grows}
use Rattle.runs.specs.Sound.{Sound}
use Rattle.runs.specs.declared.event.Event.{Event}
use Rattle.locked_execution.specs.AtDesk.{AtDesk, execution}
use Rattle.locked_execution.specs.Answered.{Answered}
use Rattle.locked_execution.specs.Performs.{Performs, Answers}
use Rattle.locked_execution.specs.declared.command.Command.{Command}
use Rattle.locked_execution.specs.declared.command.Reply.{Reply}

-- a command of a session has at most one reply, and that determines the desk after it
abbrev pub OneReply : Type 0
OneReply = (d p q : AtDesk) (session : ℕ) (command : Command) (reply other : Reply) → Sound (execution d) →
    Performs d session command reply p → Performs d session command other q → (reply ≡ other) × (p ≡ q)

-- each command of a session has a reply
abbrev pub SomeReply : Type 0
SomeReply = (d : AtDesk) (session : ℕ) (command : Command) → Sound (execution d) →
    (reply : Reply) × (d' : AtDesk) × Performs d session command reply d'

-- a step in a branch is the step of the event that it took
abbrev pub BranchIsStep : Type 0
BranchIsStep = (d d' : AtDesk) (session k t : ℕ) (e : Event) →
    Answers d session (Command.Branch k) (Reply.Stepped t e) d' →
    Performs d session (Command.Step (choice_of e)) (Reply.Stepped t e) d'

-- a list of commands that is answered, and then another, is the two joined
abbrev pub AnsweredJoins : Type 0
AnsweredJoins = (d m d' : AtDesk) (cs ds : List (ℕ × Command)) (rs qs : List Reply) →
    Answered d cs rs m → Answered m ds qs d' → Answered d (cs ++ ds) (rs ++ qs) d'

-- any commands of sessions leave a sound execution sound
abbrev pub SessionsKeepSound : Type 0
SessionsKeepSound = (d d' : AtDesk) (commands : List (ℕ × Command)) (replies : List Reply) → Sound (execution d) →
    Answered d commands replies d' → Sound (execution d')

-- and over them tickets only grow, and none names an event that is not the one it named
abbrev pub SessionsGrow : Type 0
SessionsGrow = (d d' : AtDesk) (commands : List (ℕ × Command)) (replies : List Reply) → Sound (execution d) →
    Answered d commands replies d' → Grows (execution d) (execution d')
