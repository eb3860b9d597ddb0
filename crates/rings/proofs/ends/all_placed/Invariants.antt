use Rattle.std.proofs.Common.{◌≡◌, ◌++◌}
use Rattle.std.specs.Vec.Iter.{into_iter_items}
use Rattle.rings.proofs.ends.all_placed.Given as goal

-- with those that are left, they are all
abbrev pub invariant-loop-one : goal.invariant-loop-one
invariant-loop-one l = l.ends.items ++ into_iter_items l.one-iterator ≡ l.fn.found.items
