use Rattle.std.proofs.Common.{◌≡◌, drop}
use Rattle.picture_lanes.specs.Lanes.{with_ports}
use Rattle.picture_lanes.specs.internal.Placing.{ArePlaced}
use Rattle.picture_lanes.proofs.table.add_ports.Given as goal

abbrev pub invariant-loop-index : goal.invariant-loop-index
invariant-loop-index l = record {
  lanes : with_ports l.takes l.index (drop l.index l.environment) l.lanes ≡ with_ports l.takes 0 l.environment l.initial.lanes;
  placed : ArePlaced l.lanes l.places;
}
