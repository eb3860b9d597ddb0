use Rattle.std.proofs.Common.{◌≡◌, length}
use Rattle.run_depths.specs.internal.PlacesHeld.{HoldsTo, SinceTo}
use Rattle.run_depths.proofs.since.all_since.Given as goal

abbrev pub invariant-loop-index : goal.invariant-loop-index
invariant-loop-index l = record {
  counted : l.index ≡ length l.yielded;
  table : HoldsTo l.live.live l.index l.table;
  since : SinceTo l.live.live l.depths l.index l.since.items;
}
