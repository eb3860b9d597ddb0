use Rattle.std.proofs.Common.{◌≡◌, ◌≤◌, drop, length, Some}
use Rattle.rings.specs.internal.Ends.{counted}
use Rattle.rings.proofs.among.among.Given as goal

abbrev pub invariant-ends : goal.invariant-ends
invariant-ends l = (l.below ≤ length l.fn.ends) × (l.partner ≡ counted l.sought (Some l.own) (drop l.below l.fn.ends))

abbrev pub decreases-ends : goal.decreases-ends
decreases-ends l = l.below
