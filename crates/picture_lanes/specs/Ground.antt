-- What a picture is drawn on.
use Rattle.std.specs.Prelude.{◌≡◌, ℕ, ◌+◌, ◌-◌, List, [], ◌∷◌, ◌++◌, length, Option, None, Some, slice_get}
use Rattle.system.specs.declared.system.Branch.{Branch}
use Rattle.system.specs.declared.system.System.{System}
use Rattle.types.specs.declared.tree.Command.{out-Command}
use Rattle.types.specs.declared.tree.Procedure.{Procedure}
use Rattle.picture_lanes.specs.Lanes.{lane_index, table_lanes}
use Rattle.picture_lanes.specs.Ports.{fed_count, port_path, port_use}
use Rattle.picture_lanes.specs.Walk.{walked}
use Rattle.picture_lanes.specs.declared.ground.Ground.{Ground}
use Rattle.picture_lanes.specs.declared.lane.Feed.{Feed}
use Rattle.picture_lanes.specs.declared.lane.Instance.{Instance}
use Rattle.picture_lanes.specs.declared.lane.Lane.{Lane}
use Rattle.picture_lanes.specs.declared.walk.ChannelUse.{ChannelUse}
use Rattle.picture_lanes.specs.declared.walk.Found.{Found}

-- the block of the root, which has this number
abbrev pub root_instance : Procedure → ℕ → Instance
root_instance p number = record {
  procedure = p.name;
  number = number;
  prefix = [];
  parent = None;
  call_line = (out-Command p.body).line;
  line = (out-Command p.body).line;
  arguments = [];
}

-- what there is in the body of the system, by the root, if there is one
abbrev pub found_from : List Procedure → System → Option Procedure → Found
found_from procedures system None = record { instances = []; stops = []; uses = [] }
found_from procedures system (Some root) =
    walked procedures system.main root.body (0 ∷ []) 0
    (record { instances = root_instance root (length procedures - 1) ∷ []; stops = []; uses = [] })

-- the root is the last procedure
abbrev pub found_in : List Procedure → System → Found
found_in procedures system = found_from procedures system (slice_get procedures (length procedures - 1))

-- with the uses of channels by these ports, of which the first has the index n
abbrev pub with_port_uses : ℕ → List Branch → List ChannelUse → List ChannelUse
with_port_uses n [] uses = uses
with_port_uses n (b ∷ bs) uses = with_port_uses (n + 1) bs (uses ++ port_use n b ∷ [])

-- with what is fed in a lane, if there is one
abbrev pub feed_in : Option ℕ → ℕ → List Feed → List Feed
feed_in None count feeds = feeds
feed_in (Some lane) count feeds = feeds ++ record { lane = lane; count = count } ∷ []

abbrev pub feed_if : List Lane → ℕ → Option ℕ → List Feed → List Feed
feed_if lanes n None feeds = feeds
feed_if lanes n (Some count) feeds = feed_in (lane_index lanes (port_path n)) count feeds

-- with what the port of index n has to give, if it gives
abbrev pub with_feed : List Lane → ℕ → Branch → List Feed → List Feed
with_feed lanes n b feeds = feed_if lanes n (fed_count b) feeds

abbrev pub with_feeds : List Lane → ℕ → List Branch → List Feed → List Feed
with_feeds lanes n [] feeds = feeds
with_feeds lanes n (b ∷ bs) feeds = with_feeds lanes (n + 1) bs (with_feed lanes n b feeds)

-- the lanes of the system
abbrev pub lanes_of : List Procedure → System → List Lane
lanes_of procedures system = table_lanes system (found_in procedures system).stops

-- the uses of channels, those of the ports behind the others
abbrev pub uses_of : List Procedure → System → List ChannelUse
uses_of procedures system = with_port_uses 0 system.environment (found_in procedures system).uses

-- these are the blocks, lanes and ports of the system, which the procedures were elaborated to
pub record IsGround (procedures : List Procedure) (system : System) (g : Ground) : Type 0 where
  pub instances : g.instances ≡ (found_in procedures system).instances
  pub lanes : g.table ≡ lanes_of procedures system
  pub uses : g.uses ≡ uses_of procedures system
  pub feeds : g.feeds ≡ with_feeds g.table 0 system.environment []
