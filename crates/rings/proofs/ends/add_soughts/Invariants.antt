use Rattle.std.proofs.Common.{◌≡◌, ◌++◌, drop}
use Rattle.rings.specs.internal.Ends.{soughts}
use Rattle.rings.proofs.ends.add_soughts.Given as goal

-- with those that are left, they are all
abbrev pub invariant-loop-end : goal.invariant-loop-end
invariant-loop-end l = l.soughts.items ++ soughts (drop l.end-index l.ends) ≡ l.initial.soughts.items ++ soughts l.ends
