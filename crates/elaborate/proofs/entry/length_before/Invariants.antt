use Rattle.std.proofs.Common.{take}
use Rattle.elaborate.specs.internal.CutAt.{Lacks}
use Rattle.elaborate.proofs.entry.length_before.Given as goal

-- the byte is not among those passed
abbrev pub invariant-loop-count : goal.invariant-loop-count
invariant-loop-count l = Lacks l.byte (take l.count l.text)
