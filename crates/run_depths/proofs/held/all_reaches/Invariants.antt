use Rattle.std.proofs.Common.{◌≤◌}
use Rattle.run_depths.specs.internal.Held.{GreatestOver}
use Rattle.run_depths.proofs.HeldLaws.{ReachesTo}
use Rattle.run_depths.proofs.held.all_reaches.Given as goal

abbrev pub invariant-loop-index : goal.invariant-loop-index
invariant-loop-index l = record {
  first : l.reach.first ≤ l.index;
  over : GreatestOver l.places l.reach.first l.index l.reach.most;
  reaches : ReachesTo l.places l.index l.reaches.items;
}
