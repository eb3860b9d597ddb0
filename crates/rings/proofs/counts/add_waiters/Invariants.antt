use Rattle.rings.proofs.Tallied.{AddsFrom}
use Rattle.rings.proofs.counts.add_waiters.Given as goal

abbrev pub invariant-waiters : goal.invariant-waiters
invariant-waiters l = AddsFrom l.waiters l.limit l.number l.below l.fn.todo.items l.todo.items

abbrev pub decreases-waiters : goal.decreases-waiters
decreases-waiters l = l.below
