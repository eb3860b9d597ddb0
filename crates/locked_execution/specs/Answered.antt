-- Lists of commands of sessions, answered one after another.
use Rattle.std.specs.Prelude.{◌≡◌, ℕ, List, [], ◌∷◌}
use Rattle.locked_execution.specs.AtDesk.{AtDesk}
use Rattle.locked_execution.specs.Performs.{Answers}
use Rattle.locked_execution.specs.declared.command.Command.{Command}
use Rattle.locked_execution.specs.declared.command.Reply.{Reply}

-- the commands, each with its session, are answered in their order by these replies, one each, and leave d'
abbrev pub Answered : AtDesk → List (ℕ × Command) → List Reply → AtDesk → Type 0
Answered d [] replies d' = (replies ≡ []) × (d' ≡ d)
Answered d (x ∷ xs) replies d' =
    (reply : Reply) × (rest : List Reply) × (middle : AtDesk)
    × (replies ≡ reply ∷ rest) × Answers d x.0 x.1 reply middle × Answered middle xs rest d'
