-- What is shown of the places that wait, and of those of the events that can be taken.
use Rattle.std.specs.Prelude.{◌≡◌, ℕ, ◌+◌, ◌||◌, List, [], ◌∷◌, ◌++◌, Bool, true, false, cond, Option, None, Some}
use Rattle.std.specs.Prelude.{◌-◌, length, map, option_map, slice_get}
use Rattle.std.specs.List.{flat_map}
use Rattle.std.specs.Option.{option_to_list}
use Rattle.value.specs.Word.{Word}
use Rattle.runs.specs.Live.{Live}
use Rattle.runs.specs.Moves.{Place}
use Rattle.runs.specs.Steps.{State}
use Rattle.runs.specs.Tests.{same_place}
use Rattle.runs.specs.declared.event.Event.{Event}
use Rattle.runs.specs.declared.event.Kind.{Kind}
use Rattle.runs.specs.declared.event.Kind.TheVariants as kind
use Rattle.machine.specs.AtMachine.{AtMachine}
use Rattle.run_depths.specs.Since.{IsSince}
use Rattle.local_actions.specs.declared.action.LocalAction.{LocalAction}
use Rattle.local_actions.specs.declared.action.ActionKind.{ActionKind}
use Rattle.local_actions.specs.declared.action.ActionKind.TheVariants as action
use Rattle.rings.specs.declared.partner.Partner.{Partner}
use Rattle.rings.specs.declared.partner.Partner.TheVariants as partner
use Rattle.rings.specs.Rings.{EachOnce}
use Rattle.waiting.specs.Rings.{IsRingIn}
use Rattle.waiting.specs.declared.waiting.Waiting.{Waiting}
use Rattle.picture_data.specs.Lines.{lane_at}
use Rattle.picture_data.specs.Wanted.{Around, Seen, wanted_lanes}
use Rattle.picture_data.specs.declared.places.Place.{Place as Shown}
use Rattle.picture_data.specs.declared.places.Role.{Role}
use Rattle.picture_data.specs.declared.places.Role.TheVariants as role
use Rattle.picture_data.specs.declared.places.Wanted.{Wanted}

-- a channel on which a place waits, with the lanes for which it does, and whether a partner can still come
pub record Want : Type 0 where
  pub channel : ℕ
  pub lanes : List ℕ
  pub can_come : Bool

-- a place, but for the depth from which on it may be stood at
pub record Spot : Type 0 where
  pub lane : Option ℕ
  pub place : Place
  pub line : ℕ
  pub role : Role
  -- one for each channel on which it waits
  pub wanted : List Want
  pub is_ready : Bool

abbrev pub want_of : Wanted → Want
want_of w = record { channel = w.channel; lanes = w.lanes.items; can_come = w.can_come }

abbrev pub spot_of : Shown → Spot
spot_of p = record {
  lane = p.lane;
  place = p.place;
  line = p.line;
  role = p.role;
  wanted = map want_of p.wanted.items;
  is_ready = p.is_ready;
}

-- what stands at a place in its lane and at its line
abbrev pub made_spot : Seen → Place → Role → List Want → Bool → Spot
made_spot m a what wanted ready = record {
  lane = lane_at m.around.lanes a;
  place = a;
  line = m.line a;
  role = what;
  wanted = wanted;
  is_ready = ready;
}

-- the same, which waits on nothing yet
abbrev pub spot_at : Seen → Place → Role → Spot
spot_at m a what = made_spot m a what [] false

-- ---- the places that wait

-- what an action does
abbrev pub role_of : ActionKind → Role
role_of (action.Sends c v xs) = role.Sends
role_of (action.Receives c x) = role.Receives
role_of (action.Syncs c) = role.Syncs
role_of (action.Opens c k) = role.Opens
role_of (action.Releases c) = role.Held
role_of (action.Closes c) = role.Closes
role_of (action.Assigns x v xs) = role.Goes
role_of (action.Tests k xs) = role.Goes
role_of action.Turns = role.Goes

-- the channel that it is on
abbrev pub channel_of : ActionKind → Option ℕ
channel_of (action.Sends c v xs) = Some c
channel_of (action.Receives c x) = Some c
channel_of (action.Syncs c) = Some c
channel_of (action.Opens c k) = Some c
channel_of (action.Releases c) = Some c
channel_of (action.Closes c) = Some c
channel_of (action.Assigns x v xs) = None
channel_of (action.Tests k xs) = None
channel_of action.Turns = None

-- whether the partner can still come
abbrev pub can_come : Option Partner → Bool
can_come (Some partner.Gone) = false
can_come (Some (partner.Behind a)) = true
can_come (Some partner.Open) = true
can_come None = true

-- the place waits on this channel, too, if there is one, for an action of this role with this partner
abbrev pub waiting_on : Around → Spot → Role → Option Partner → Option ℕ → Spot
waiting_on around s r p None = s
waiting_on around s r p (Some c) = record s {
  wanted =
      s.wanted ++ record { channel = c; lanes = wanted_lanes around p s.lane c r; can_come = can_come p } ∷ [];
}

-- and for what the action waits for, which has this partner
abbrev pub waiting_with : Around → Spot → LocalAction → Option Partner → Spot
waiting_with around s x p = waiting_on around s (role_of x.action) p (channel_of x.action)

-- the places with one more action, which has this partner: it stands at the last of them, or is a place of its own
-- behind them
abbrev pub with_side : Seen → List Spot → LocalAction → Option Partner → List Spot
with_side m [] x p = waiting_with m.around (spot_at m x.place (role_of x.action)) x p ∷ []
with_side m (s ∷ []) x p =
    cond (same_place s.place x.place) (waiting_with m.around s x p ∷ [])
    (s ∷ waiting_with m.around (spot_at m x.place (role_of x.action)) x p ∷ [])
with_side m (s ∷ t ∷ spots) x p = s ∷ with_side m (t ∷ spots) x p

-- with these actions, of which the first has the partner of number n
abbrev pub with_sides : Seen → List Spot → List Partner → ℕ → List LocalAction → List Spot
with_sides m spots partners n [] = spots
with_sides m spots partners n (x ∷ xs) = with_sides m (with_side m spots x (slice_get partners n)) partners (n + 1) xs

abbrev pub waiting_spots : Seen → Waiting → List Spot
waiting_spots m w = with_sides m [] w.partners.items 0 w.actions

-- for each of these actions the index of its place
abbrev pub places_of_sides : Seen → List Spot → List Partner → ℕ → List LocalAction → List ℕ
places_of_sides m spots partners n [] = []
places_of_sides m spots partners n (x ∷ xs) =
    (length (with_side m spots x (slice_get partners n)) - 1)
    ∷ places_of_sides m (with_side m spots x (slice_get partners n)) partners (n + 1) xs

-- ---- the places of the events that can be taken

-- what the first place of an event does
abbrev pub first_role : Kind → Option Word → Role
first_role kind.Meet v = role.Sends
first_role kind.Open (Some v) = role.Sends
first_role kind.Open None = role.Syncs
first_role kind.Sync v = role.Syncs
first_role kind.Close v = role.Held
first_role kind.Assign v = role.Goes
first_role kind.Test v = role.Goes
first_role kind.Turn v = role.Goes

-- what the second does
abbrev pub second_role : Kind → Role
second_role kind.Meet = role.Receives
second_role kind.Open = role.Opens
second_role kind.Sync = role.Syncs
second_role kind.Close = role.Closes
second_role kind.Assign = role.Goes
second_role kind.Test = role.Goes
second_role kind.Turn = role.Goes

-- on a channel it waits for none
abbrev pub want_on : ℕ → Want
want_on c = record { channel = c; lanes = []; can_come = true }

abbrev pub on_channel : Option ℕ → List Want
on_channel None = []
on_channel (Some c) = want_on c ∷ []

abbrev pub is_second : Place → Option Place → Bool
is_second a None = false
is_second a (Some b) = same_place b a

-- whether one of the two places of the event is this
abbrev pub has_place : Place → Event → Bool
has_place a e = same_place e.first a || is_second a e.second

-- whether one of the events has the place
abbrev pub is_met : Place → List Event → Bool
is_met a [] = false
is_met a (e ∷ es) = has_place a e || is_met a es

-- the channel of the event, if it has the place
abbrev pub channel_if : Place → Event → Option ℕ
channel_if a e = cond (has_place a e) e.channel None

abbrev pub channel_at : Place → Event → List Want
channel_at a e = on_channel (channel_if a e)

-- a place at which these events can be taken, on the channel of each
abbrev pub ready_spot : Seen → List Event → Place → Role → Spot
ready_spot m es a what = made_spot m a what (flat_map (channel_at a) es) true

-- the place of an event, unless one of the events before has it, too; the event and those behind it are es
abbrev pub spot_if_new : Seen → List Event → List Event → Place → Role → List Spot
spot_if_new m before es a what = cond (is_met a before) [] (ready_spot m es a what ∷ [])

abbrev pub second_spots : Seen → List Event → List Event → Event → Option Place → List Spot
second_spots m before es e None = []
second_spots m before es e (Some b) = spot_if_new m before es b (second_role e.kind)

abbrev pub event_spots : Seen → List Event → List Event → Event → List Spot
event_spots m before es e =
    spot_if_new m before es e.first (first_role e.kind e.value) ++ second_spots m before es e e.second

-- those of events behind others
abbrev pub spots_behind : Seen → List Event → List Event → List Spot
spots_behind m before [] = []
spots_behind m before (e ∷ es) = event_spots m before (e ∷ es) e ++ spots_behind m (before ++ e ∷ []) es

-- each place once, where it is met first
abbrev pub ready_spots : Seen → List Event → List Spot
ready_spots m es = spots_behind m [] es

-- ---- all of them

-- the places that wait, and behind them those of these events
abbrev pub AreSpots : Seen → Waiting → List Event → List Shown → Type 0
AreSpots m w ready places = map spot_of places ≡ waiting_spots m w ++ ready_spots m ready

-- live events with their depths
pub record Deep : Type 0 where
  pub live : Live
  pub depths : List ℕ

-- each is told with the depth from which on it may be stood at
abbrev pub StandsSince : Deep → Shown → Type 0
StandsSince d p = IsSince d.live d.depths p.place p.since

-- ---- a ring

-- the places of the actions of a ring, by the indexes of the places
abbrev pub ring_of : List ℕ → List ℕ → List ℕ
ring_of found ring = flat_map (λ (i : ℕ). option_to_list (slice_get found i)) ring

-- the place of this index
abbrev pub place_at : List Shown → ℕ → Option Place
place_at places k = option_map (λ (p : Shown). p.place) (slice_get places k)

-- the places of these indexes are a ring of places that wait, each once; or there is no ring, and none is told
abbrev pub ShowsRing : AtMachine → State → List Shown → List ℕ → Type 0
ShowsRing m S places [] = (ring : List Place) → IsRingIn m S ring → ⊥
ShowsRing m S places (k ∷ rest) =
    (ring : List Place) × (map (place_at places) (k ∷ rest) ≡ map (λ (a : Place). Some a) ring) × IsRingIn m S ring
    × EachOnce ring
