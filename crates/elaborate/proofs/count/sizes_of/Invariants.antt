use Rattle.std.proofs.Common.{◌≡◌, [], drop}
use Rattle.elaborate.specs.SourceSize.{sizes_onto}
use Rattle.elaborate.specs.internal.Limited.{limited}
use Rattle.elaborate.proofs.count.sizes_of.Given as goal

-- with the procedures that are left, the sizes are those of all
abbrev pub invariant-loop-procedure : goal.invariant-loop-procedure
invariant-loop-procedure l = sizes_onto limited l.sizes.items (drop l.procedure-index l.procedures) ≡ sizes_onto limited [] l.procedures
