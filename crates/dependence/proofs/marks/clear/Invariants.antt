use Rattle.dependence.specs.internal.Marking.{UnmarkedTo, UnmarkedFrom}
use Rattle.dependence.proofs.marks.clear.Given as goal

abbrev pub invariant-loop-index : goal.invariant-loop-index
invariant-loop-index l = record {
  low : UnmarkedTo l.marks l.index;
  high : UnmarkedFrom l.marks l.end;
}
