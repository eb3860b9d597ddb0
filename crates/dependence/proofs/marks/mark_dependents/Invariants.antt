use Rattle.std.proofs.Common.{length, ◌-◌}
use Rattle.dependence.specs.internal.Marking.{MarkedBelow, EndsAt}
use Rattle.dependence.proofs.marks.mark_dependents.Given as goal

abbrev pub invariant-loop-index : goal.invariant-loop-index
invariant-loop-index l = record {
  below : MarkedBelow l.list.live l.list.live l.ticket l.index l.marks;
  ended : EndsAt l.marks l.end;
}

abbrev pub decreases-loop-index : goal.decreases-loop-index
decreases-loop-index l = length l.fn.marks - l.index
