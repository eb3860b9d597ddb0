use Rattle.std.proofs.Common.{length, drop, ◌-◌}
use Rattle.slots.specs.Places.{filled}
use Rattle.runs.specs.declared.event.Event.{Event}
use Rattle.dependence.specs.internal.Listed.{events_kept, seats}
use Rattle.dependence.specs.internal.Marking.{MarkedBelow, EndsAt}
use Rattle.dependence.proofs.consequences.mark_dependents.Given as goal

abbrev pub invariant-loop-index : goal.invariant-loop-index
invariant-loop-index l = record {
  below : (e : Event) → MarkedBelow (drop l.base (seats e l.slots.entries)) (events_kept (filled l.slots.entries)) l.ticket l.index l.marks;
  ended : EndsAt l.marks l.end;
}

abbrev pub decreases-loop-index : goal.decreases-loop-index
decreases-loop-index l = length l.fn.marks - l.index
