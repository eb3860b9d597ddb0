use Rattle.std.proofs.Common.{◌≤◌, length}
use Rattle.rings.specs.internal.Tally.{Puts}
use Rattle.rings.proofs.Tallied.{MovedFrom}
use Rattle.rings.proofs.counts.lower.Given as goal

abbrev pub invariant-groups : goal.invariant-groups
invariant-groups l =
    (l.below ≤ length l.fn.counts.items) × MovedFrom l.edges l.number l.below l.fn.counts.items l.counts.items
    × Puts l.waiters l.limit l.fn.counts.items l.counts.items l.fn.todo.items l.todo.items

abbrev pub decreases-groups : goal.decreases-groups
decreases-groups l = l.below
