use Rattle.std.proofs.Common.{◌-◌, length, heap_items}
use Rattle.trace_file.proofs.Taking.{Progress}
use Rattle.trace_file.proofs.canonical.canonical_order.Given as goal

-- the indexes of the events taken so far, and what is left
abbrev pub invariant-loop-next : goal.invariant-loop-next
invariant-loop-next l = Progress l.live.live l.order.items l.left.items (heap_items l.free)

abbrev pub decreases-loop-next : goal.decreases-loop-next
decreases-loop-next l = length l.live.live - length l.order.items
