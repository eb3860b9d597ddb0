use Rattle.std.proofs.Common.{◌≤◌, length}
use Rattle.rings.proofs.Tallied.{MovedFrom}
use Rattle.rings.proofs.counts.raise.Given as goal

abbrev pub invariant-groups : goal.invariant-groups
invariant-groups l = (l.below ≤ length l.fn.counts.items) × MovedFrom l.edges l.number l.below l.counts.items l.fn.counts.items

abbrev pub decreases-groups : goal.decreases-groups
decreases-groups l = l.below
