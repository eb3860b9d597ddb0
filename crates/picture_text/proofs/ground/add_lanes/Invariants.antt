use Rattle.std.proofs.Common.{◌≡◌, drop, map}
use Rattle.json_text.specs.Values.{with_values}
use Rattle.picture_text.specs.DataText.{lane_text}
use Rattle.picture_text.proofs.ground.add_lanes.Given as goal

-- with those that are left, all are there
abbrev pub invariant-loop-lane : goal.invariant-loop-lane
invariant-loop-lane l =
    with_values l.json (map lane_text (drop l.lane-index l.lanes)) ≡ with_values l.initial.json (map lane_text l.lanes)
