use Rattle.std.proofs.Common.{◌≡◌, drop}
use Rattle.picture_lanes.specs.Lanes.{with_all}
use Rattle.picture_lanes.specs.internal.Placing.{ArePlaced}
use Rattle.picture_lanes.proofs.table.add_all.Given as goal

abbrev pub invariant-loop-lane : goal.invariant-loop-lane
invariant-loop-lane l = record {
  lanes : with_all l.lanes (drop l.lane-index l.more) ≡ with_all l.initial.lanes l.more;
  placed : ArePlaced l.lanes l.places;
}
