use Rattle.std.proofs.Common.{◌≤◌, length, take}
use Rattle.run_depths.specs.internal.PlacesHeld.{GreatestBehind}
use Rattle.run_depths.proofs.since.greatest_behind.Given as goal

abbrev pub invariant-loop-index : goal.invariant-loop-index
invariant-loop-index l = record {
  greatest : GreatestBehind l.depths (take l.index-index l.found) l.since;
  small : l.since ≤ length l.depths;
}
