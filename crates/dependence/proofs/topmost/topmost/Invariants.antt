use Rattle.std.proofs.Common.{◌≤◌}
use Rattle.dependence.specs.internal.Sweeping.{Swept}
use Rattle.dependence.proofs.topmost.topmost.Given as goal

abbrev pub invariant-loop-index : goal.invariant-loop-index
invariant-loop-index l = record {
  low : l.low ≤ l.index;
  high : l.index ≤ l.high;
  swept : Swept l.list.live l.candidates l.high l.index l.flags.items l.kept.items;
}

abbrev pub decreases-loop-index : goal.decreases-loop-index
decreases-loop-index l = l.index
