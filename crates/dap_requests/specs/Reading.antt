-- The commands that change nothing.
use Rattle.std.specs.Prelude.{Bool, true, false}
use Rattle.locked_execution.specs.declared.command.Command.{Command}

-- whether a command only reads
abbrev pub reads : Command → Bool
reads (Command.Blame x) = true
reads Command.Ready = true
reads (Command.Consequences t) = true
reads Command.Live = true
reads (Command.Value x) = true
reads _ = false
