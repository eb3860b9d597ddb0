-- The ports of the environment: their lanes, uses of channels, and what they have to give.
use Rattle.std.specs.Prelude.{ℕ, ◌+◌, List, [], ◌∷◌, length, Bool, true, false, Option, None, Some}
use Rattle.system.specs.declared.system.Branch.{Branch}
use Rattle.system.specs.declared.system.Branch.TheVariants.{Feed, Drain, Syncs}
use Rattle.picture_lanes.specs.declared.lane.Lane.{Lane}
use Rattle.picture_lanes.specs.declared.lane.LaneKind.{LaneKind}
use Rattle.picture_lanes.specs.declared.walk.ChannelUse.{ChannelUse}
use Rattle.picture_lanes.specs.declared.walk.Way.TheVariants as way

abbrev pub port_kind : Branch → LaneKind
port_kind (Feed c w values) = LaneKind.Input c
port_kind (Drain c) = LaneKind.Output c
port_kind (Syncs c n) = LaneKind.Handshakes c

abbrev pub is_output : Branch → Bool
is_output (Feed c w values) = false
is_output (Drain c) = true
is_output (Syncs c n) = false

-- the port of index n has the branch number n + 1
abbrev pub port_path : ℕ → List ℕ
port_path n = (n + 1) ∷ []

abbrev pub port_lane : ℕ → Branch → Lane
port_lane n b = record { path = port_path n; line = 0; kind = port_kind b }

abbrev pub port_use : ℕ → Branch → ChannelUse
port_use n (Feed c w values) = record { channel = c; way = way.Sends; path = port_path n }
port_use n (Drain c) = record { channel = c; way = way.Receives; path = port_path n }
port_use n (Syncs c k) = record { channel = c; way = way.Syncs; path = port_path n }

-- how many values or handshakes it has to give, if it gives
abbrev pub fed_count : Branch → Option ℕ
fed_count (Feed c w values) = Some (length values)
fed_count (Drain c) = None
fed_count (Syncs c n) = Some n
