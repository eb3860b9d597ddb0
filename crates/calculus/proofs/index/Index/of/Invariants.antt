use Rattle.std.proofs.Common.{take}
use Rattle.calculus.specs.internal.Comparing.{Indexes}
use Rattle.calculus.proofs.index.Index.of.Given as goal

abbrev pub invariant-loop-place : goal.invariant-loop-place
invariant-loop-place l = Indexes l.index (take l.place l.events)
