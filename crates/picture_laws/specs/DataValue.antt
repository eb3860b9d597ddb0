-- The value of JSON that the data of a picture are.
use Rattle.std.specs.Prelude.{ℕ, ◌+◌, List, [], ◌∷◌, ◌++◌, cond, Option, None, Some, map, codes, slice_get}
use Rattle.std.specs.Fmt.{decimal}
use Rattle.bstr.specs.Utf8.{lossy_chars}
use Rattle.address.specs.Text.{text_of}
use Rattle.address.specs.declared.Entry.{Entry}
use Rattle.system.specs.declared.system.Channel.{Channel}
use Rattle.system.specs.declared.system.System.{System}
use Rattle.system.specs.declared.system.Variable.{Variable}
use Rattle.runs.specs.Live.{Live}
use Rattle.runs.specs.declared.event.Event.{Event}
use Rattle.line_text.specs.EventText.{event_text}
use Rattle.json_text.specs.Json.{Elements, Json, Members, element, list, member}
use Rattle.json_text.specs.Json.{no_elements, no_members, number, object, string}
use Rattle.run_depths.specs.declared.races.Race.{Race}
use Rattle.picture_lanes.specs.declared.lane.Feed.{Feed}
use Rattle.picture_lanes.specs.declared.lane.Instance.{Instance}
use Rattle.picture_lanes.specs.declared.lane.Lane.{Lane}
use Rattle.picture_data.specs.declared.actions.Actions.{Actions}
use Rattle.picture_data.specs.declared.picture.Picture.{Picture}
use Rattle.picture_data.specs.declared.places.Place.{Place}
use Rattle.picture_data.specs.declared.places.Wanted.{Wanted}
use Rattle.picture_data.specs.declared.steps.Steps.{Steps}
use Rattle.picture_text.specs.DataText.{action_of, are_counted, block_of, channel_width, flag}
use Rattle.picture_text.specs.DataText.{path_text, port_of, progress_text, role_text, step_text}

-- ---- values

-- bytes as a string of their characters
abbrev pub string_value : List ℕ → Json
string_value bytes = string (lossy_chars bytes)

abbrev pub number_value : ℕ → Json
number_value n = number (decimal n)

-- a number, or -1
abbrev pub optional_value : Option ℕ → Json
optional_value None = number (45 ∷ 49 ∷ [])
optional_value (Some n) = number_value n

abbrev pub elements : List Json → Elements
elements [] = no_elements
elements (v ∷ vs) = element v (elements vs)

abbrev pub list_value : List Json → Json
list_value vs = list (elements vs)

abbrev pub numbers_value : List ℕ → Json
numbers_value ns = list_value (map number_value ns)

-- values with their names
abbrev pub members : List (List ℕ × Json) → Members
members [] = no_members
members (m ∷ ms) = member (lossy_chars m.0) m.1 (members ms)

-- ---- the system

abbrev pub variable_value : Variable → Json
variable_value v =
    list_value (string_value v.name ∷ number_value v.width ∷ number_value (flag v.shared) ∷ [])

abbrev pub channel_value : Channel → Json
channel_value c = list_value (string_value c.name ∷ number_value (channel_width c.kind) ∷ [])

-- ---- blocks, lanes and ports

abbrev pub instance_value : Instance → Json
instance_value i =
    list_value (string_value i.procedure ∷ string_value i.prefix ∷ optional_value i.parent ∷ number_value i.call_line
    ∷ number_value i.line ∷ string_value i.arguments ∷ [])

abbrev pub lane_value : Lane → Json
lane_value l =
    list_value (string_value (path_text l.path) ∷ optional_value (block_of l.kind) ∷ number_value l.line
    ∷ string_value (action_of l.kind) ∷ optional_value (port_of l.kind) ∷ [])

abbrev pub feed_value : Feed → Json
feed_value f = list_value (number_value f.lane ∷ number_value f.count ∷ [])

-- ---- the live events

-- the tickets, or 1 where they are 1, 2 and so on
abbrev pub tickets_value : Live → Json
tickets_value l =
    cond (are_counted 1 l) (number_value 1) (list_value (map (λ (x : ℕ × Event). number_value x.0) l))

-- the lanes and the lines of an event
abbrev pub action_values : Option Actions → List Json
action_values None = []
action_values (Some s) =
    optional_value s.first_lane ∷ optional_value s.second_lane ∷ number_value s.first_line
    ∷ number_value s.second_line ∷ []

abbrev pub ahead_value : Option (List ℕ) → Json
ahead_value None = list_value []
ahead_value (Some row) = numbers_value row

abbrev pub depths_values : Option (ℕ × ℕ) → List Json
depths_values None = []
depths_values (Some since) = list_value (number_value since.0 ∷ number_value since.1 ∷ []) ∷ []

-- only of an event with two places
abbrev pub since_values : Option (List Entry) → Option (ℕ × ℕ) → List Json
since_values None since = []
since_values (Some second) since = depths_values since

-- the event of index n
abbrev pub event_value : System → Steps → ℕ → Event → Json
event_value system steps n e =
    list_value (string_value (event_text system e)
    ∷ (action_values (slice_get steps.actions.items n)
    ++ optional_value (slice_get steps.depths.items n)
    ∷ optional_value e.written
    ∷ numbers_value e.read
    ∷ ahead_value (slice_get steps.ahead n)
    ∷ since_values e.second (slice_get steps.since.items n)))

abbrev pub event_values : System → Steps → ℕ → Live → List Json
event_values system steps n [] = []
event_values system steps n (x ∷ l) = event_value system steps n x.1 ∷ event_values system steps (n + 1) l

abbrev pub race_value : Race → Json
race_value r = list_value (number_value r.cause ∷ number_value r.event ∷ number_value r.variable ∷ [])

-- ---- the end

-- the event of index n that can be taken
abbrev pub ready_value : System → List Actions → ℕ → Event → Json
ready_value system actions n e =
    list_value (string_value (event_text system e)
    ∷ (action_values (slice_get actions n) ++ string_value (step_text e) ∷ []))

abbrev pub ready_values : System → List Actions → ℕ → List Event → List Json
ready_values system actions n [] = []
ready_values system actions n (e ∷ es) = ready_value system actions n e ∷ ready_values system actions (n + 1) es

abbrev pub wanted_value : Wanted → Json
wanted_value w =
    list_value (number_value w.channel ∷ numbers_value w.lanes.items ∷ number_value (flag w.can_come) ∷ [])

abbrev pub place_value : Place → Json
place_value p =
    list_value (optional_value p.lane ∷ string_value (text_of p.place) ∷ number_value p.line
    ∷ string_value (role_text p.role) ∷ list_value (map wanted_value p.wanted.items)
    ∷ number_value (flag p.is_ready) ∷ [])

-- a list of the ring that is told, or of none
abbrev pub rings_value : List ℕ → Json
rings_value [] = list_value []
rings_value (i ∷ ring) = list_value (numbers_value (i ∷ ring) ∷ [])

-- ---- all of it

abbrev pub head_values : List ℕ → List ℕ → List ℕ → List ℕ → List (List ℕ × Json)
head_values file stimulus trace source =
    (codes "picture", number_value 1)
    ∷ (codes "files", list_value (string_value file ∷ string_value stimulus ∷ string_value trace ∷ []))
    ∷ (codes "source", string_value source)
    ∷ []

abbrev pub system_values : System → Picture → List (List ℕ × Json)
system_values system p =
    (codes "variables", list_value (map variable_value system.variables))
    ∷ (codes "channels", list_value (map channel_value system.channels))
    ∷ (codes "instances", list_value (map instance_value p.instances.items))
    ∷ (codes "lanes", list_value (map lane_value p.lanes.items))
    ∷ (codes "feeds", list_value (map feed_value p.feeds.items))
    ∷ []

abbrev pub run_values : System → Live → Picture → List (List ℕ × Json)
run_values system l p =
    (codes "tickets", tickets_value l)
    ∷ (codes "events", list_value (event_values system p.steps 0 l))
    ∷ (codes "races", list_value (map race_value p.steps.races.items))
    ∷ (codes "ready", list_value (ready_values system p.end.ready_actions.items 0 p.end.ready))
    ∷ (codes "places", list_value (map place_value p.end.places.items))
    ∷ (codes "rings", rings_value p.end.ring.items)
    ∷ (codes "progress", string_value (progress_text p.end.progress p.end.lacks_input))
    ∷ []

-- of the run of these live events, with the source, and the names of the three files
abbrev pub data_value : System → Live → Picture → List ℕ → List ℕ → List ℕ → List ℕ → Json
data_value system l p source file stimulus trace =
    object (members (head_values file stimulus trace source ++ (system_values system p ++ run_values system l p)))
