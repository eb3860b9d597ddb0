-- The data of a picture are JSON, of the value that they are.
use Rattle.std.proofs.Common.{ℕ, ◌+◌, List, [], ◌∷◌, ◌++◌, map, Bool, true, false, cond, Option, None, Some, refl}
use Rattle.std.specs.Prelude.{codes, slice_get}
use Rattle.std.specs.Fmt.{decimal}
use Rattle.address.specs.Text.{text_of}
use Rattle.address.specs.declared.Entry.{Entry}
use Rattle.json_text.specs.Json.{AreMembersOf, AreTextsOf, IsTextOf, Json, TextsHaveOneValue}
use Rattle.json_text.specs.Values.{list_text, optional_text, string_text}
use Rattle.json_text.proofs.public.Texts.{bytes-read-back, minus-one, number-of}
use Rattle.system.specs.declared.system.Channel.{Channel}
use Rattle.system.specs.declared.system.System.{System}
use Rattle.system.specs.declared.system.Variable.{Variable}
use Rattle.runs.specs.Live.{Live}
use Rattle.runs.specs.declared.event.Event.{Event}
use Rattle.line_text.specs.EventText.{event_text}
use Rattle.run_depths.specs.declared.races.Race.{Race}
use Rattle.picture_lanes.specs.declared.lane.Feed.{Feed}
use Rattle.picture_lanes.specs.declared.lane.Instance.{Instance}
use Rattle.picture_lanes.specs.declared.lane.Lane.{Lane}
use Rattle.picture_data.specs.declared.actions.Actions.{Actions}
use Rattle.picture_data.specs.declared.picture.Picture.{Picture}
use Rattle.picture_data.specs.declared.places.Place.{Place}
use Rattle.picture_data.specs.declared.places.Wanted.{Wanted}
use Rattle.picture_data.specs.declared.steps.Steps.{Steps}
use Rattle.picture_text.specs.DataText.{action_of, action_texts, ahead_text, are_counted, block_of, channel_text, channel_width, data_text, depths_texts, event_row, event_rows, feed_text, flag, head_members, instance_text, lane_text, numbers_text, path_text, place_row, port_of, progress_text, race_text, ready_row, ready_rows, rings_text, role_text, run_members, since_texts, step_text, system_members, ticket_texts, tickets_text, variable_text, wanted_text}
use Rattle.picture_laws.specs.DataRead.{DataAreReadBack}
use Rattle.picture_laws.specs.DataValue.{action_values, ahead_value, channel_value, data_value, depths_values, elements, event_value, event_values, feed_value, head_values, instance_value, lane_value, list_value, members, number_value, numbers_value, optional_value, place_value, race_value, ready_value, ready_values, rings_value, run_values, since_values, string_value, system_values, tickets_value, variable_value, wanted_value}

-- ---- strings, numbers and lists

a-string : (bytes : List ℕ) → IsTextOf (string_value bytes) (string_text bytes)
a-string bytes = bytes-read-back bytes

a-number : (n : ℕ) → IsTextOf (number_value n) (decimal n)
a-number n = (refl, number-of n)

an-optional : (o : Option ℕ) → IsTextOf (optional_value o) (optional_text o)
an-optional None = (refl, minus-one)
an-optional (Some n) = a-number n

each-of : {X : Type 0} (g : X → Json) (f : X → List ℕ) (xs : List X) → ((x : X) → IsTextOf (g x) (f x))
    → AreTextsOf (elements (map g xs)) (map f xs)
each-of g f [] h = tt
each-of g f (x ∷ xs) h = (h x, each-of g f xs h)

listed : {X : Type 0} (g : X → Json) (f : X → List ℕ) (xs : List X) → ((x : X) → IsTextOf (g x) (f x))
    → IsTextOf (list_value (map g xs)) (list_text (map f xs))
listed g f xs h = (map f xs, refl, each-of g f xs h)

numbers : (ns : List ℕ) → IsTextOf (numbers_value ns) (numbers_text ns)
numbers ns = listed number_value decimal ns a-number

joined : (vs ws : List Json) (ts us : List (List ℕ)) → AreTextsOf (elements vs) ts → AreTextsOf (elements ws) us
    → AreTextsOf (elements (vs ++ ws)) (ts ++ us)
joined [] ws [] us h k = k
joined [] ws (t ∷ ts) us h k = absurd h
joined (v ∷ vs) ws [] us h k = absurd h
joined (v ∷ vs) ws (t ∷ ts) us h k = (h.0, joined vs ws ts us h.1 k)

-- ---- the system

variable : (v : Variable) → IsTextOf (variable_value v) (variable_text v)
variable v = (
  string_text v.name ∷ decimal v.width ∷ decimal (flag v.shared) ∷ [],
  refl,
  (a-string v.name, (a-number v.width, (a-number (flag v.shared), tt))),
)

channel : (c : Channel) → IsTextOf (channel_value c) (channel_text c)
channel c = (
  string_text c.name ∷ decimal (channel_width c.kind) ∷ [],
  refl,
  (a-string c.name, (a-number (channel_width c.kind), tt)),
)

instance : (i : Instance) → IsTextOf (instance_value i) (instance_text i)
instance i = (
  string_text i.procedure ∷ string_text i.prefix ∷ optional_text i.parent ∷ decimal i.call_line ∷ decimal i.line ∷ string_text i.arguments ∷ [],
  refl,
  (a-string i.procedure, (a-string i.prefix, (an-optional i.parent, (a-number i.call_line, (a-number i.line, (a-string i.arguments, tt)))))),
)

lane : (l : Lane) → IsTextOf (lane_value l) (lane_text l)
lane l = (
  string_text (path_text l.path) ∷ optional_text (block_of l.kind) ∷ decimal l.line ∷ string_text (action_of l.kind) ∷ optional_text (port_of l.kind) ∷ [],
  refl,
  (a-string (path_text l.path), (an-optional (block_of l.kind), (a-number l.line, (a-string (action_of l.kind), (an-optional (port_of l.kind), tt))))),
)

feed : (f : Feed) → IsTextOf (feed_value f) (feed_text f)
feed f = (decimal f.lane ∷ decimal f.count ∷ [], refl, (a-number f.lane, (a-number f.count, tt)))

-- ---- the events

tickets-by : (counted : Bool) (l : Live) →
    IsTextOf (cond counted (number_value 1) (list_value (map (λ (x : ℕ × Event). number_value x.0) l)))
    (cond counted (decimal 1) (list_text (ticket_texts l)))
tickets-by true l = a-number 1
tickets-by false l =
    listed (λ (x : ℕ × Event). number_value x.0) (λ (x : ℕ × Event). decimal x.0) l (λ x. a-number x.0)

tickets : (l : Live) → IsTextOf (tickets_value l) (tickets_text l)
tickets l = tickets-by (are_counted 1 l) l

actions : (o : Option Actions) → AreTextsOf (elements (action_values o)) (action_texts o)
actions None = tt
actions (Some s) =
    (an-optional s.first_lane, (an-optional s.second_lane, (a-number s.first_line, (a-number s.second_line, tt))))

ahead : (o : Option (List ℕ)) → IsTextOf (ahead_value o) (ahead_text o)
ahead None = ([], refl, tt)
ahead (Some row) = numbers row

depths : (o : Option (ℕ × ℕ)) → AreTextsOf (elements (depths_values o)) (depths_texts o)
depths None = tt
depths (Some since) =
    ((decimal since.0 ∷ decimal since.1 ∷ [], refl, (a-number since.0, (a-number since.1, tt))), tt)

since : (second : Option (List Entry)) (o : Option (ℕ × ℕ)) → AreTextsOf (elements (since_values second o)) (since_texts second o)
since None o = tt
since (Some place) o = depths o

row : (system : System) (steps : Steps) (n : ℕ) (e : Event) → IsTextOf (event_value system steps n e) (event_row system steps n e)
row system steps n e =
    let stands : List (List ℕ) = action_texts (slice_get steps.actions.items n) in
    let behind : List (List ℕ) =
    optional_text (slice_get steps.depths.items n) ∷ optional_text e.written ∷ numbers_text e.read ∷ ahead_text (slice_get steps.ahead n)
    ∷ since_texts e.second (slice_get steps.since.items n) in
    let values : List Json =
    optional_value (slice_get steps.depths.items n) ∷ optional_value e.written ∷ numbers_value e.read ∷ ahead_value (slice_get steps.ahead n)
    ∷ since_values e.second (slice_get steps.since.items n) in (
      string_text (event_text system e) ∷ (stands ++ behind),
      refl,
      (
        a-string (event_text system e),
        joined (action_values (slice_get steps.actions.items n)) values stands behind (actions (slice_get steps.actions.items n))
            (an-optional (slice_get steps.depths.items n), (an-optional e.written, (numbers e.read, (ahead (slice_get steps.ahead n), since e.second (slice_get steps.since.items n))))),
      ),
    )

rows : (system : System) (steps : Steps) (n : ℕ) (l : Live) → AreTextsOf (elements (event_values system steps n l)) (event_rows system steps n l)
rows system steps n [] = tt
rows system steps n (x ∷ l) = (row system steps n x.1, rows system steps (n + 1) l)

race : (r : Race) → IsTextOf (race_value r) (race_text r)
race r = (
  decimal r.cause ∷ decimal r.event ∷ decimal r.variable ∷ [],
  refl,
  (a-number r.cause, (a-number r.event, (a-number r.variable, tt))),
)

-- ---- the end

ready : (system : System) (stood : List Actions) (n : ℕ) (e : Event) → IsTextOf (ready_value system stood n e) (ready_row system stood n e)
ready system stood n e =
    let stands : List (List ℕ) = action_texts (slice_get stood n) in
    let line : List (List ℕ) = string_text (step_text e) ∷ [] in (
      string_text (event_text system e) ∷ (stands ++ line),
      refl,
      (
        a-string (event_text system e),
        joined (action_values (slice_get stood n)) (string_value (step_text e) ∷ []) stands line (actions (slice_get stood n)) (a-string (step_text e), tt),
      ),
    )

all-ready : (system : System) (stood : List Actions) (n : ℕ) (es : List Event) → AreTextsOf (elements (ready_values system stood n es)) (ready_rows system stood n es)
all-ready system stood n [] = tt
all-ready system stood n (e ∷ es) = (ready system stood n e, all-ready system stood (n + 1) es)

wanted : (w : Wanted) → IsTextOf (wanted_value w) (wanted_text w)
wanted w = (
  decimal w.channel ∷ numbers_text w.lanes.items ∷ decimal (flag w.can_come) ∷ [],
  refl,
  (a-number w.channel, (numbers w.lanes.items, (a-number (flag w.can_come), tt))),
)

place : (p : Place) → IsTextOf (place_value p) (place_row p)
place p = (
  optional_text p.lane ∷ string_text (text_of p.place) ∷ decimal p.line ∷ string_text (role_text p.role) ∷ list_text (map wanted_text p.wanted.items)
      ∷ decimal (flag p.is_ready) ∷ [],
  refl,
  (an-optional p.lane, (a-string (text_of p.place), (a-number p.line, (a-string (role_text p.role), (listed wanted_value wanted_text p.wanted.items wanted, (a-number (flag p.is_ready), tt)))))),
)

rings : (ring : List ℕ) → IsTextOf (rings_value ring) (rings_text ring)
rings [] = ([], refl, tt)
rings (i ∷ ring) = (numbers_text (i ∷ ring) ∷ [], refl, (numbers (i ∷ ring), tt))

-- ---- all of it

joined-members : (ms ns : List (List ℕ × Json)) (ts us : List (List ℕ)) → AreMembersOf (members ms) ts → AreMembersOf (members ns) us
    → AreMembersOf (members (ms ++ ns)) (ts ++ us)
joined-members [] ns [] us h k = k
joined-members [] ns (t ∷ ts) us h k = absurd h
joined-members (m ∷ ms) ns [] us h k = absurd h
joined-members (m ∷ ms) ns (t ∷ ts) us h k = (h.0, h.1, h.2, h.3, h.4, joined-members ms ns ts us h.5 k)

head-of : (source file stimulus trace : List ℕ) → AreMembersOf (members (head_values file stimulus trace source)) (head_members file stimulus trace source)
head-of source file stimulus trace = (string_text (codes "picture"), decimal 1, refl, a-string (codes "picture"), a-number 1, (string_text (codes "files"), list_text (string_text file ∷ string_text stimulus ∷ string_text trace ∷ []), refl, a-string (codes "files"), (string_text file ∷ string_text stimulus ∷ string_text trace ∷ [], refl, (a-string file, (a-string stimulus, (a-string trace, tt)))), (string_text (codes "source"), string_text source, refl, a-string (codes "source"), a-string source, tt)))

system-of : (system : System) (p : Picture) → AreMembersOf (members (system_values system p)) (system_members system p)
system-of system p = (string_text (codes "variables"), list_text (map variable_text system.variables), refl, a-string (codes "variables"), listed variable_value variable_text system.variables variable, (string_text (codes "channels"), list_text (map channel_text system.channels), refl, a-string (codes "channels"), listed channel_value channel_text system.channels channel, (string_text (codes "instances"), list_text (map instance_text p.instances.items), refl, a-string (codes "instances"), listed instance_value instance_text p.instances.items instance, (string_text (codes "lanes"), list_text (map lane_text p.lanes.items), refl, a-string (codes "lanes"), listed lane_value lane_text p.lanes.items lane, (string_text (codes "feeds"), list_text (map feed_text p.feeds.items), refl, a-string (codes "feeds"), listed feed_value feed_text p.feeds.items feed, tt)))))

run-of : (system : System) (l : Live) (p : Picture) → AreMembersOf (members (run_values system l p)) (run_members system l p)
run-of system l p = (string_text (codes "tickets"), tickets_text l, refl, a-string (codes "tickets"), tickets l, (string_text (codes "events"), list_text (event_rows system p.steps 0 l), refl, a-string (codes "events"), (event_rows system p.steps 0 l, refl, rows system p.steps 0 l), (string_text (codes "races"), list_text (map race_text p.steps.races.items), refl, a-string (codes "races"), listed race_value race_text p.steps.races.items race, (string_text (codes "ready"), list_text (ready_rows system p.end.ready_actions.items 0 p.end.ready), refl, a-string (codes "ready"), (ready_rows system p.end.ready_actions.items 0 p.end.ready, refl, all-ready system p.end.ready_actions.items 0 p.end.ready), (string_text (codes "places"), list_text (map place_row p.end.places.items), refl, a-string (codes "places"), listed place_value place_row p.end.places.items place, (string_text (codes "rings"), rings_text p.end.ring.items, refl, a-string (codes "rings"), rings p.end.ring.items, (string_text (codes "progress"), string_text (progress_text p.end.progress p.end.lacks_input), refl, a-string (codes "progress"), a-string (progress_text p.end.progress p.end.lacks_input), tt)))))))

data-of : (system : System) (l : Live) (p : Picture) (source file stimulus trace : List ℕ)
    → IsTextOf (data_value system l p source file stimulus trace) (data_text system l p source file stimulus trace)
data-of system l p source file stimulus trace = (
  head_members file stimulus trace source ++ (system_members system p ++ run_members system l p),
  refl,
  joined-members (head_values file stimulus trace source) (system_values system p ++ run_values system l p) (head_members file stimulus trace source)
      (system_members system p ++ run_members system l p) (head-of source file stimulus trace)
      (joined-members (system_values system p) (run_values system l p) (system_members system p) (run_members system l p) (system-of system p) (run-of system l p)),
)

pub data-are-read-back : TextsHaveOneValue → DataAreReadBack
data-are-read-back one system l p source file stimulus trace =
    let read = data-of system l p source file stimulus trace in
    (read, λ w h. one w (data_value system l p source file stimulus trace) (data_text system l p source file stimulus trace) h read)
