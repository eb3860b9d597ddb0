-- What holds of whatever is done at a desk.
use Rattle.std.specs.Prelude.{ℕ, List, [], ◌∷◌}
use Rattle.locked_execution.specs.Answered.{Answered}
use Rattle.locked_execution.specs.declared.command.Command.{Command}
use Rattle.locked_execution.specs.declared.command.Reply.{Reply}
use Rattle.shell_desk.specs.AtBench.{AtBench}
use Rattle.shell_desk.specs.Does.{Does}
use Rattle.shell_desk.specs.declared.deed.Deed.{Deed}
use Rattle.shell_desk.specs.declared.deed.Done.{Done}

-- the commands, each with this session
abbrev pub of_session : ℕ → List Command → List (ℕ × Command)
of_session session [] = []
of_session session (c ∷ cs) = (session, c) ∷ of_session session cs

-- the desk of b' is what commands of the session leave
abbrev pub Leaves : ℕ → AtBench → AtBench → Type 0
Leaves session b b' =
    (cs : List Command) × (replies : List Reply) × Answered b.desk (of_session session cs) replies b'.desk

-- whatever is done, the desk is then what commands of the session leave
abbrev pub EachDeedIsCommands : Type 0
EachDeedIsCommands = (b b' : AtBench) (deed : Deed) (done : Done) → Does b deed done b' → Leaves b.session b b'
