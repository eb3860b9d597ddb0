use Rattle.std.proofs.Common.{◌≡◌, [], drop}
use Rattle.picture_lanes.specs.Lanes.{with_stops}
use Rattle.picture_lanes.specs.internal.Order.{InOrder}
use Rattle.picture_lanes.proofs.table.body_lanes.Given as goal

abbrev pub invariant-loop-stop : goal.invariant-loop-stop
invariant-loop-stop l = record {
  lanes : with_stops l.lanes.items (drop l.stop-index l.stops) ≡ with_stops [] l.stops;
  order : InOrder l.lanes.items;
}
