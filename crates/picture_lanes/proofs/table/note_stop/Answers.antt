use Rattle.std.specs.Option.{option_copied}
use Rattle.picture_lanes.proofs.Stops.{stop_kept, stop_put}
use Rattle.picture_lanes.proofs.table.note_stop.Goals as goal

pub returns-then-is_along-clause-lanes : goal.returns-then-is_along-clause-lanes
returns-then-is_along-clause-lanes c =
    stop_kept c.args.lanes.now.items c.as_slice-standing.result.now c.args.stop.now c.as_slice-path.result.now c.leading-index.result (option_copied c.lane_at.result)
    c.as_slice-path.ensures c.as_slice-standing.ensures.value c.lane_at.ensures c.if-is_along.ensures

pub returns-clause-lanes : goal.returns-clause-lanes
returns-clause-lanes c =
    (stop_put c.args.lanes.now.items c.as_slice-standing.result.now c.insert.new.self.items c.args.stop.now c.as_slice-path.result.now c.leading-index.result
    (option_copied c.lane_at.result) c.in_ok-lane.lane c.requires c.as_slice-path.ensures c.as_slice-standing.ensures.value c.leading-index.ensures.count
    c.lane_at.ensures c.if-is_along.ensures c.in_ok-lane.ensures c.in_ok-insert.ensures.items).0

pub returns-clause-order : goal.returns-clause-order
returns-clause-order c =
    (stop_put c.args.lanes.now.items c.as_slice-standing.result.now c.insert.new.self.items c.args.stop.now c.as_slice-path.result.now c.leading-index.result
    (option_copied c.lane_at.result) c.in_ok-lane.lane c.requires c.as_slice-path.ensures c.as_slice-standing.ensures.value c.leading-index.ensures.count
    c.lane_at.ensures c.if-is_along.ensures c.in_ok-lane.ensures c.in_ok-insert.ensures.items).1
