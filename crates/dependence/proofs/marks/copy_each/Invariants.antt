use Rattle.std.proofs.Common.{◌≡◌, ◌++◌, drop}
use Rattle.dependence.specs.Shown.{tickets_marked}
use Rattle.dependence.proofs.marks.copy_each.Given as goal

abbrev pub invariant-loop-index : goal.invariant-loop-index
invariant-loop-index l =
    l.tickets.items ++ tickets_marked (drop l.index (drop l.base l.list.live)) (drop l.index l.marks) ≡ tickets_marked (drop l.base l.list.live) l.marks
