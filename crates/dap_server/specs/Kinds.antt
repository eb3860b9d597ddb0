-- What requests may do.
use Rattle.std.specs.Prelude.{Bool, true, false}
use Rattle.dap_messages.specs.declared.kind.Kind.{Kind}

-- whether it asks a thread to move, or to stand
abbrev pub moves : Kind → Bool
moves Kind.Next = true
moves Kind.StepIn = true
moves Kind.StepOut = true
moves Kind.Continue = true
moves Kind.StepBack = true
moves Kind.ReverseContinue = true
moves Kind.Pause = true
moves _ = false
