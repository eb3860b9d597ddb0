use Rattle.std.proofs.Common.{◌≡◌, ◌++◌, drop}
use Rattle.rings.specs.internal.Ends.{all_here, within}
use Rattle.rings.proofs.ends.add_each_here.Given as goal

-- with those that are left, they are all
abbrev pub invariant-loop-sought : goal.invariant-loop-sought
invariant-loop-sought l =
    l.ends.items ++ all_here l.kind (within (drop l.sought-index l.soughts)) ≡ l.initial.ends.items ++ all_here l.kind (within l.soughts)
