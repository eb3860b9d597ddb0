use Rattle.std.proofs.Common.{◌≤◌, length}
use Rattle.dependence.specs.internal.Marking.{UnmarkedFrom}
use Rattle.dependence.proofs.marks.end_below.Given as goal

abbrev pub invariant-loop-left : goal.invariant-loop-left
invariant-loop-left l = record {
  within : l.left ≤ length l.marks;
  none : UnmarkedFrom l.marks l.left;
}

abbrev pub decreases-loop-left : goal.decreases-loop-left
decreases-loop-left l = l.left
