use Rattle.std.proofs.Common.{take}
use Rattle.trace_file.specs.internal.Fields.{HasNone}
use Rattle.trace_file.proofs.line.cut_at.Given as goal

-- the bytes passed are others
abbrev pub invariant-loop-i : goal.invariant-loop-i
invariant-loop-i l = HasNone l.byte (take l.i l.text)
