use Rattle.std.proofs.Common.{codes, map, refl}
use Rattle.std.proofs.lemmas.Result.{on_ok_weaker}
use Rattle.picture_text.specs.DataText.{lane_text}
use Rattle.picture_text.proofs.Rows.{all-rows, listed-member}
use Rattle.picture_text.proofs.ground.add_lanes.Goals as goal

pub returns : goal.returns
returns c =
    on_ok_weaker c.close_list.result
    (λ is. listed-member c.args.json.now c.name.new.self c.open_list.new.self c.loop-lane.json c.close_list.new.self (codes "lanes")
    (map lane_text c.args.lanes.now) c.in_ok-name.ensures c.in_ok-open_list.ensures
    (all-rows lane_text c.args.lanes.now c.args.lanes.now c.loop-lane.lane-index c.loop-lane.json c.open_list.new.self refl c.loop-lane-test.false
    c.loop-lane.invariant) is)
    c.close_list.ensures
