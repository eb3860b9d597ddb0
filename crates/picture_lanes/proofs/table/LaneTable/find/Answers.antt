use Rattle.std.proofs.Common.{◌∙◌, List, ap}
use Rattle.picture_lanes.specs.Lanes.{lane_index}
use Rattle.picture_lanes.specs.declared.lane.Lane.{Lane}
use Rattle.picture_lanes.proofs.Placed.{is_placed}
use Rattle.picture_lanes.proofs.table.LaneTable.find.Goals as goal

pub returns : goal.returns
returns c =
    c.find.ensures
    ∙ (is_placed c.self.inside.lanes c.self.inside.places c.args.path.now c.self.invariant
    ∙ ap (λ (lanes : List Lane). lane_index lanes c.args.path.now) c.self.view_is)
