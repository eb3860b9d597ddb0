use Rattle.std.proofs.Common.{◌≡◌, ◌++◌, drop}
use Rattle.rings.specs.internal.Ends.{all_here}
use Rattle.rings.proofs.ends.add_all_here.Given as goal

-- with those that are left, they are all
abbrev pub invariant-loop-other : goal.invariant-loop-other
invariant-loop-other l = l.ends.items ++ all_here l.kind (drop l.other-index l.others) ≡ l.initial.ends.items ++ all_here l.kind l.others
