use Rattle.std.proofs.Common.{◌≤◌, length}
use Rattle.past.specs.internal.Swept.{ListsDown, MarkedFrom}
use Rattle.past.proofs.sweep.sweep_down.Given as goal

abbrev pub invariant-loop-index : goal.invariant-loop-index
invariant-loop-index l = record {
  within : l.index ≤ length l.live.live;
  marked : MarkedFrom l.live.live l.ticket l.index l.marks;
  listed : ListsDown l.live.live l.ticket l.index l.events.items;
}

abbrev pub decreases-loop-index : goal.decreases-loop-index
decreases-loop-index l = l.index
