-- The lane and the line of a place.
use Rattle.std.specs.Prelude.{ℕ, List, Option, None, Some}
use Rattle.address.specs.declared.Entry.{Entry}
use Rattle.branch_lanes.specs.Lanes.{lane_of}
use Rattle.runs.specs.Live.{events}
use Rattle.runs.specs.Moves.{Place}
use Rattle.dependence.specs.EventPlaces.{line_after}
use Rattle.machine.specs.AtMachine.{AtMachine}
use Rattle.picture_lanes.specs.Lanes.{lane_index}
use Rattle.picture_lanes.specs.declared.lane.Lane.{Lane}

-- the index of the lane of the place, if there is one
abbrev pub lane_at : List Lane → List Entry → Option ℕ
lane_at lanes a = lane_index lanes (lane_of a)

-- the line of the command at a place after the live events, 0 where there is none
abbrev pub line_or_zero : Option ℕ → ℕ
line_or_zero None = 0
line_or_zero (Some line) = line

abbrev pub line_of : AtMachine → Place → ℕ
line_of m place = line_or_zero (line_after (events m.live) m.checked place)
