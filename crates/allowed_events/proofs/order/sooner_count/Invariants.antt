use Rattle.std.proofs.Common.{◌≡◌, ◌≤◌, false, length, drop}
use Rattle.syntax.specs.Lists.{Every}
use Rattle.allowed_events.specs.internal.Sorting.{is_sooner}
use Rattle.allowed_events.proofs.order.sooner_count.Given as goal

abbrev pub invariant-loop-index : goal.invariant-loop-index
invariant-loop-index l = record {
  within : l.index ≤ length l.sorted;
  past : Every (λ f. is_sooner f l.event ≡ false) (drop l.index l.sorted);
}

abbrev pub decreases-loop-index : goal.decreases-loop-index
decreases-loop-index l = l.index
