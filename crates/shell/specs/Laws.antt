-- What holds after the lines of a session.
use Rattle.std.specs.Prelude.{ℕ, ◌≡◌, ◌⊎◌, List}
use Rattle.machine.specs.AtMachine.{AtMachine}
use Rattle.locked_execution.specs.AtDesk.{AtDesk, new_desk}
use Rattle.locked_execution.specs.Answered.{Answered}
use Rattle.locked_execution.specs.declared.command.Command.{Command}
use Rattle.locked_execution.specs.declared.command.Reply.{Reply}
use Rattle.shell_desk.specs.AtBench.{AtBench}
use Rattle.shell.specs.Beginning.{IsOfTrace}
use Rattle.shell_files.specs.Files.{Files}
use Rattle.shell.specs.Lines.{LinesLeave}

-- the desk is one, or a new one on an execution that a trace gives
abbrev pub IsOrLoaded : List ℕ → List ℕ → AtDesk → AtDesk → Type 0
IsOrLoaded source stimulus before d =
    (d ≡ before) ⊎ ((m : AtMachine) × IsOfTrace source stimulus m × (d ≡ new_desk m))

-- whatever lines come, the desk is then what a list of commands of sessions leaves of the one before, or of a new one
-- on an execution that was loaded
abbrev pub LinesAreCommands : Files → Type 0
LinesAreCommands files =
    (source stimulus : List ℕ) (b b' : AtBench) (lines : List (List ℕ)) → LinesLeave files source stimulus b lines b'
    → (d : AtDesk) × IsOrLoaded source stimulus b.desk d
    × ((commands : List (ℕ × Command)) × (replies : List Reply) × Answered d commands replies b'.desk)
