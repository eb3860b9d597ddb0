-- The lanes from left to right: those of the ports that give, of the branches of the body in order of their paths, and
-- of the ports that take.
use Rattle.std.specs.Prelude.{ℕ, ◌+◌, List, [], ◌∷◌, ◌++◌, Bool, true, false, not, cond, Option, None, Some, nat_eq}
use Rattle.std.specs.Cmp.Lexicographic.{pointwise, slice_cmp}
use Rattle.std.specs.List.{insert}
use Rattle.std.specs.Ordering.{is_lt, nat_cmp}
use Rattle.system.specs.declared.system.Branch.{Branch}
use Rattle.system.specs.declared.system.System.{System}
use Rattle.picture_lanes.specs.Ports.{is_output, port_lane}
use Rattle.picture_lanes.specs.declared.lane.Lane.{Lane}
use Rattle.picture_lanes.specs.declared.lane.LaneKind.{LaneKind}
use Rattle.picture_lanes.specs.declared.walk.Stop.{Stop}

-- ---- lanes by their paths

abbrev pub same_path : List ℕ → List ℕ → Bool
same_path path other = pointwise nat_eq path other

-- the index of the first that has the path, where the first of all has the index n
abbrev pub index_from : ℕ → List Lane → List ℕ → Option ℕ
index_from n [] path = None
index_from n (lane ∷ lanes) path = cond (same_path lane.path path) (Some n) (index_from (n + 1) lanes path)

abbrev pub lane_index : List Lane → List ℕ → Option ℕ
lane_index lanes path = index_from 0 lanes path

-- ---- the lanes of the body

-- a path is before another: at the first number that differs it has the lesser, or it is its beginning
abbrev pub is_before : List ℕ → List ℕ → Bool
is_before path other = is_lt (slice_cmp nat_cmp path other)

-- how many of the lanes, from the first on, have a path before this one
abbrev pub leading : List ℕ → List Lane → ℕ
leading path [] = 0
leading path (lane ∷ lanes) = cond (is_before lane.path path) (leading path lanes + 1) 0

abbrev pub stop_lane : Stop → Lane
stop_lane s = record { path = s.path; line = s.line; kind = LaneKind.Body s.block }

-- unless there is one of its path
abbrev pub stop_if_new : Option ℕ → List Lane → Stop → List Lane
stop_if_new (Some k) lanes s = lanes
stop_if_new None lanes s = insert lanes (leading s.path lanes) (stop_lane s)

-- with the lane of a command, in order of paths
abbrev pub with_stop_lane : List Lane → Stop → List Lane
with_stop_lane lanes s = stop_if_new (lane_index lanes s.path) lanes s

-- with those of these commands: each has the line and block of the first command in it
abbrev pub with_stops : List Lane → List Stop → List Lane
with_stops lanes [] = lanes
with_stops lanes (s ∷ stops) = with_stops (with_stop_lane lanes s) stops

-- ---- all of them

abbrev pub lane_if_new : Option ℕ → List Lane → Lane → List Lane
lane_if_new (Some k) lanes lane = lanes
lane_if_new None lanes lane = lanes ++ lane ∷ []

-- one more at the right, unless there is one of its path
abbrev pub with_lane : List Lane → Lane → List Lane
with_lane lanes lane = lane_if_new (lane_index lanes lane.path) lanes lane

abbrev pub with_all : List Lane → List Lane → List Lane
with_all lanes [] = lanes
with_all lanes (lane ∷ more) = with_all (with_lane lanes lane) more

-- a port that takes what comes out, or one of the others
abbrev pub is_such : Bool → Branch → Bool
is_such true b = is_output b
is_such false b = not (is_output b)

-- with those of these ports, of which the first has the index n
abbrev pub with_ports : Bool → ℕ → List Branch → List Lane → List Lane
with_ports takes n [] lanes = lanes
with_ports takes n (b ∷ bs) lanes =
    with_ports takes (n + 1) bs (cond (is_such takes b) (with_lane lanes (port_lane n b)) lanes)

-- of the system, where these commands stand in its body
abbrev pub table_lanes : System → List Stop → List Lane
table_lanes system stops =
    with_ports true 0 system.environment
    (with_all (with_ports false 0 system.environment []) (with_stops [] stops))
