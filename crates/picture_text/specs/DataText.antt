-- The data of a picture as one JSON text, value by value.
use Rattle.std.specs.Prelude.{ℕ, ◌+◌, ◌==◌, ◌&&◌, List, [], ◌∷◌, ◌++◌, Bool, true, false, cond, Option, None, Some, map, codes, slice_get}
use Rattle.std.specs.Fmt.{decimal}
use Rattle.std.specs.List.{flat_map}
use Rattle.address.specs.Text.{text_of}
use Rattle.address.specs.declared.Entry.{Entry}
use Rattle.system.specs.declared.system.Channel.{Channel}
use Rattle.system.specs.declared.system.ChannelKind.{ChannelKind}
use Rattle.system.specs.declared.system.System.{System}
use Rattle.system.specs.declared.system.Variable.{Variable}
use Rattle.runs.specs.Choices.{choice_of}
use Rattle.runs.specs.Events.{acting}
use Rattle.runs.specs.Live.{Live}
use Rattle.runs.specs.declared.event.Event.{Event}
use Rattle.line_text.specs.EventText.{event_text}
use Rattle.picture_lanes.specs.declared.lane.Feed.{Feed}
use Rattle.picture_lanes.specs.declared.lane.Instance.{Instance}
use Rattle.picture_lanes.specs.declared.lane.Lane.{Lane}
use Rattle.picture_lanes.specs.declared.lane.LaneKind.{LaneKind}
use Rattle.json_text.specs.Values.{list_text, member_text, object_text, optional_text, string_text}
use Rattle.picture_data.specs.declared.picture.Picture.{Picture}
use Rattle.picture_data.specs.declared.places.Place.{Place}
use Rattle.picture_data.specs.declared.places.Role.{Role}
use Rattle.picture_data.specs.declared.places.Wanted.{Wanted}
use Rattle.run_depths.specs.declared.races.Race.{Race}
use Rattle.picture_data.specs.declared.actions.Actions.{Actions}
use Rattle.picture_data.specs.declared.steps.Steps.{Steps}
use Rattle.waiting.specs.declared.progress.Progress.{Progress}

-- 1 for true, and 0 for false
abbrev pub flag : Bool → ℕ
flag is = cond is 1 0

-- a list of numbers
abbrev pub numbers_text : List ℕ → List ℕ
numbers_text numbers = list_text (map decimal numbers)

-- ---- the system

-- its name, its width in bits, and whether it is shared
abbrev pub variable_text : Variable → List ℕ
variable_text v = list_text (string_text v.name ∷ decimal v.width ∷ decimal (flag v.shared) ∷ [])

-- the width of what passes, 0 where nothing does
abbrev pub channel_width : ChannelKind → ℕ
channel_width (ChannelKind.Data width) = width
channel_width ChannelKind.Sync = 0

abbrev pub channel_text : Channel → List ℕ
channel_text c = list_text (string_text c.name ∷ decimal (channel_width c.kind) ∷ [])

-- ---- blocks, lanes and ports

abbrev pub instance_text : Instance → List ℕ
instance_text i =
    list_text (string_text i.procedure ∷ string_text i.prefix ∷ optional_text i.parent ∷ decimal i.call_line
    ∷ decimal i.line ∷ string_text i.arguments ∷ [])

-- a slash before each number
abbrev pub path_text : List ℕ → List ℕ
path_text path = flat_map (λ (n : ℕ). 47 ∷ decimal n) path

-- the block of a lane of the body
abbrev pub block_of : LaneKind → Option ℕ
block_of (LaneKind.Body block) = Some block
block_of _ = None

abbrev pub action_of : LaneKind → List ℕ
action_of (LaneKind.Input c) = codes "in"
action_of (LaneKind.Output c) = codes "out"
action_of (LaneKind.Handshakes c) = codes "sync"
action_of (LaneKind.Body block) = codes "body"

-- the channel of the port of a lane of the environment
abbrev pub port_of : LaneKind → Option ℕ
port_of (LaneKind.Input c) = Some c
port_of (LaneKind.Output c) = Some c
port_of (LaneKind.Handshakes c) = Some c
port_of (LaneKind.Body block) = None

abbrev pub lane_text : Lane → List ℕ
lane_text l =
    list_text (string_text (path_text l.path) ∷ optional_text (block_of l.kind) ∷ decimal l.line
    ∷ string_text (action_of l.kind) ∷ optional_text (port_of l.kind) ∷ [])

-- a port's lane, and how much it has to give
abbrev pub feed_text : Feed → List ℕ
feed_text f = list_text (decimal f.lane ∷ decimal f.count ∷ [])

-- ---- the live events

-- the tickets are n, n + 1 and so on
abbrev pub are_counted : ℕ → Live → Bool
are_counted n [] = true
are_counted n (x ∷ l) = (x.0 == n) && are_counted (n + 1) l

abbrev pub ticket_texts : Live → List (List ℕ)
ticket_texts l = map (λ (x : ℕ × Event). decimal x.0) l

-- the tickets, or 1 where they are 1, 2 and so on
abbrev pub tickets_text : Live → List ℕ
tickets_text l = cond (are_counted 1 l) (decimal 1) (list_text (ticket_texts l))

-- the lanes and the lines of an event
abbrev pub action_texts : Option Actions → List (List ℕ)
action_texts None = []
action_texts (Some s) =
    optional_text s.first_lane ∷ optional_text s.second_lane ∷ decimal s.first_line ∷ decimal s.second_line ∷ []

-- how much further on its followers stand
abbrev pub ahead_text : Option (List ℕ) → List ℕ
ahead_text None = list_text []
ahead_text (Some row) = numbers_text row

-- from which depth on it stood at each of its two places
abbrev pub depths_texts : Option (ℕ × ℕ) → List (List ℕ)
depths_texts None = []
depths_texts (Some since) = list_text (decimal since.0 ∷ decimal since.1 ∷ []) ∷ []

-- only of an event with two places
abbrev pub since_texts : Option (List Entry) → Option (ℕ × ℕ) → List (List ℕ)
since_texts None since = []
since_texts (Some second) since = depths_texts since

-- the event of index n: its text, where it stands, its depth, what it writes and reads, and who follows it
abbrev pub event_row : System → Steps → ℕ → Event → List ℕ
event_row system steps n e =
    list_text (string_text (event_text system e)
    ∷ (action_texts (slice_get steps.actions.items n)
    ++ optional_text (slice_get steps.depths.items n)
    ∷ optional_text e.written
    ∷ numbers_text e.read
    ∷ ahead_text (slice_get steps.ahead n)
    ∷ since_texts e.second (slice_get steps.since.items n)))

-- of these events, of which the first has index n
abbrev pub event_rows : System → Steps → ℕ → Live → List (List ℕ)
event_rows system steps n [] = []
event_rows system steps n (x ∷ l) = event_row system steps n x.1 ∷ event_rows system steps (n + 1) l

-- an order that only a shared variable makes
abbrev pub race_text : Race → List ℕ
race_text r = list_text (decimal r.cause ∷ decimal r.event ∷ decimal r.variable ∷ [])

-- ---- the end

-- the line of a script that takes the event
abbrev pub step_text : Event → List ℕ
step_text e = codes "step " ++ text_of (acting e) ++ 32 ∷ decimal (choice_of e).arm

-- the event of index n that can be taken
abbrev pub ready_row : System → List Actions → ℕ → Event → List ℕ
ready_row system actions n e =
    list_text (string_text (event_text system e)
    ∷ (action_texts (slice_get actions n) ++ string_text (step_text e) ∷ []))

abbrev pub ready_rows : System → List Actions → ℕ → List Event → List (List ℕ)
ready_rows system actions n [] = []
ready_rows system actions n (e ∷ es) = ready_row system actions n e ∷ ready_rows system actions (n + 1) es

abbrev pub role_text : Role → List ℕ
role_text Role.Sends = codes "send"
role_text Role.Receives = codes "receive"
role_text Role.Syncs = codes "sync"
role_text Role.Opens = codes "open"
role_text Role.Held = codes "held"
role_text Role.Closes = codes "close"
role_text Role.Goes = codes "go"

-- a channel on which a place waits, the lanes for which it does, and whether a partner can still come
abbrev pub wanted_text : Wanted → List ℕ
wanted_text w = list_text (decimal w.channel ∷ numbers_text w.lanes.items ∷ decimal (flag w.can_come) ∷ [])

abbrev pub place_row : Place → List ℕ
place_row p =
    list_text (optional_text p.lane ∷ string_text (text_of p.place) ∷ decimal p.line ∷ string_text (role_text p.role)
    ∷ list_text (map wanted_text p.wanted.items) ∷ decimal (flag p.is_ready) ∷ [])

-- of the rings of places that wait for one another one is told, if there is one: a list of it, or of none
abbrev pub rings_text : List ℕ → List ℕ
rings_text [] = list_text []
rings_text (i ∷ ring) = list_text (numbers_text (i ∷ ring) ∷ [])

-- one that is stuck, and whether it lacks nothing but input
abbrev pub stuck_text : Bool → List ℕ
stuck_text true = codes "out of input"
stuck_text false = codes "stuck"

-- how the run stands, in the words of `waiting`
abbrev pub progress_text : Progress → Bool → List ℕ
progress_text Progress.GoesOn lacks = codes "goes on"
progress_text Progress.Done lacks = codes "done"
progress_text Progress.Stuck lacks = stuck_text lacks

-- ---- all of it

abbrev pub head_members : List ℕ → List ℕ → List ℕ → List ℕ → List (List ℕ)
head_members file stimulus trace source =
    member_text (codes "picture") (decimal 1)
    ∷ member_text (codes "files") (list_text (string_text file ∷ string_text stimulus ∷ string_text trace ∷ []))
    ∷ member_text (codes "source") (string_text source)
    ∷ []

abbrev pub system_members : System → Picture → List (List ℕ)
system_members system p =
    member_text (codes "variables") (list_text (map variable_text system.variables))
    ∷ member_text (codes "channels") (list_text (map channel_text system.channels))
    ∷ member_text (codes "instances") (list_text (map instance_text p.instances.items))
    ∷ member_text (codes "lanes") (list_text (map lane_text p.lanes.items))
    ∷ member_text (codes "feeds") (list_text (map feed_text p.feeds.items))
    ∷ []

abbrev pub run_members : System → Live → Picture → List (List ℕ)
run_members system l p =
    member_text (codes "tickets") (tickets_text l)
    ∷ member_text (codes "events") (list_text (event_rows system p.steps 0 l))
    ∷ member_text (codes "races") (list_text (map race_text p.steps.races.items))
    ∷ member_text (codes "ready") (list_text (ready_rows system p.end.ready_actions.items 0 p.end.ready))
    ∷ member_text (codes "places") (list_text (map place_row p.end.places.items))
    ∷ member_text (codes "rings") (rings_text p.end.ring.items)
    ∷ member_text (codes "progress") (string_text (progress_text p.end.progress p.end.lacks_input))
    ∷ []

-- of the run of these live events, with the source, and the names of the three files
abbrev pub data_text : System → Live → Picture → List ℕ → List ℕ → List ℕ → List ℕ → List ℕ
data_text system l p source file stimulus trace =
    object_text (head_members file stimulus trace source ++ (system_members system p ++ run_members system l p))
