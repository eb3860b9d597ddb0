use Rattle.std.proofs.Common.{◌≡◌, ◌++◌}
use Rattle.std.specs.Vec.Iter.{into_iter_items}
use Rattle.rings.specs.internal.Ends.{under}
use Rattle.rings.proofs.ends.add_under.Given as goal

-- with those that are left, they are all
abbrev pub invariant-loop-other : goal.invariant-loop-other
invariant-loop-other l = l.ends.items ++ under l.entry (into_iter_items l.other-iterator) ≡ l.initial.ends.items ++ under l.entry l.fn.others.items
