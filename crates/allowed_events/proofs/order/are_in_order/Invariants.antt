use Rattle.std.proofs.Common.{◌≤◌, ◌-◌, length, drop}
use Rattle.runs.specs.InOrder.{InOrder}
use Rattle.runs.specs.Ready.{Sooner}
use Rattle.allowed_events.proofs.order.are_in_order.Given as goal

abbrev pub invariant-loop-index : goal.invariant-loop-index
invariant-loop-index l = record {
  within : l.index ≤ length l.events;
  behind : InOrder Sooner (drop (l.index - 1) l.events);
}

abbrev pub decreases-loop-index : goal.decreases-loop-index
decreases-loop-index l = l.index
