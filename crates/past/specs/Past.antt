-- The past of an event: the live events that it depends on. (Danos and Krivine 2004: its causes.)
use Rattle.std.specs.Prelude.{◌↔◌, ◌<◌, ◌≡◌, ◌≢◌, ◌⊎◌, ℕ, ◌+◌, ◌==◌, List, length, Bool, true, ◌||◌, is_some, Some, slice_get, map}
use Rattle.syntax.specs.Lists.{In, Every}
use Rattle.runs.specs.InOrder.{InOrder}
use Rattle.runs.specs.Live.{Live, LiveAt, IsLive, DependsOn}
use Rattle.runs.specs.declared.event.Event.{Event}
use Rattle.past.specs.declared.past.Past.{Past}
use Rattle.past.specs.declared.past.PastEvent.{PastEvent}

-- whether an event carried a value: an assignment, a meeting, or an open on a channel with data
abbrev pub carries : Event → Bool
carries e = is_some e.value

-- whether an event of ticket u is told in the past of that of ticket t: each is where all are asked for, else one that
-- carried a value, and that of t itself
abbrev pub is_told : Bool → ℕ → ℕ → Event → Bool
is_told all t u e = (all || carries e) || (u == t)

-- the live event of ticket u is in the past of that of ticket t, which is the same or depends on it, and is told
abbrev pub IsInPast : Bool → Live → ℕ → ℕ → Type 0
IsInPast all l t u = (e : Event) × LiveAt l u e × DependsOn l u t × (is_told all t u e ≡ true)

-- exactly the tickets of those that are told, in order
pub record ListsTickets (all : Bool) (l : Live) (t : ℕ) (tickets : List ℕ) : Type 0 where
  pub exactly : (u : ℕ) → In u tickets ↔ IsInPast all l t u
  pub in_order : InOrder ◌<◌ tickets

-- so many more are in the past than these
abbrev pub LeavesOut : Live → ℕ → List ℕ → ℕ → Type 0
LeavesOut l t tickets count = (whole : List ℕ) × ListsTickets true l t whole × (length whole ≡ length tickets + count)

-- the tickets of events
abbrev pub tickets_of : List PastEvent → List ℕ
tickets_of events = map (λ p. p.ticket) events

-- p tells of the live event that stands at its index: its ticket, and whether it carried a value
pub record Tells (l : Live) (p : PastEvent) : Type 0 where
  pub event : Event
  pub stands : slice_get l p.index ≡ Some (p.ticket, event)
  pub carries : p.carries ≡ carries event

-- in the past of that of ticket t, the event of ticket u is a nearest cause of that of ticket s: it is another, it is
-- told, that of ticket s depends on it, and no other that is told lies between
pub record NearestCause (all : Bool) (l : Live) (t s u : ℕ) : Type 0 where
  pub told : IsInPast all l t u
  pub other : u ≢ s
  pub cause : DependsOn l u s
  pub next : (v : ℕ) → IsInPast all l t v → DependsOn l u v → DependsOn l v s → (v ≡ u) ⊎ (v ≡ s)

-- exactly the tickets of its nearest causes, falling
pub record ListsCauses (all : Bool) (l : Live) (t s : ℕ) (tickets : List ℕ) : Type 0 where
  pub exactly : (u : ℕ) → In u tickets ↔ NearestCause all l t s u
  pub falling : InOrder (λ (a : ℕ) (b : ℕ). b < a) tickets

-- exactly the told events in the past of the live one of ticket t, in order of tickets, each with its nearest causes,
-- and how many are left out
pub record ListsPast (all : Bool) (l : Live) (t : ℕ) (past : Past) : Type 0 where
  pub live : IsLive l t
  pub tickets : ListsTickets all l t (tickets_of past.events)
  pub tells : Every (Tells l) past.events
  pub causes : Every (λ p. ListsCauses all l t p.ticket p.causes) past.events
  pub left_out : LeavesOut l t (tickets_of past.events) past.left_out
