use Rattle.std.proofs.Common.{◌≡◌, ◌≤◌, ◌⊎◌}
use Rattle.run_depths.specs.internal.Held.{GreatestOver}
use Rattle.run_depths.proofs.held.greatest_between.Given as goal

abbrev pub invariant-loop-end : goal.invariant-loop-end
invariant-loop-end l = record {
  within : l.end ≤ l.high;
  from : (l.low ≤ l.end) ⊎ (l.since ≡ 0);
  over : GreatestOver l.held.places.items l.end l.high l.since;
}

abbrev pub decreases-loop-end : goal.decreases-loop-end
decreases-loop-end l = l.end
