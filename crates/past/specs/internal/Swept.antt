-- The sweep down over the live events, and the whole past that it lists.
-- No reader has to believe it: the proof of `past_of` ties it to `ListsPast`.
use Rattle.std.specs.Prelude.{◌≡◌, ◌↔◌, ℕ, ◌≤◌, ◌<◌, List, Bool, true, Some, slice_get}
use Rattle.syntax.specs.Lists.{In, Every}
use Rattle.runs.specs.InOrder.{InOrder}
use Rattle.runs.specs.Live.{Live, DependsOn}
use Rattle.runs.specs.declared.event.Event.{Event}
use Rattle.dependence.specs.Followers.{Follower, ListsLeads}
use Rattle.dependence.specs.internal.Tables.{StandsAt}
use Rattle.dependence.specs.internal.Marking.{MarkedAt}
use Rattle.past.specs.Past.{ListsTickets, Tells, tickets_of}
use Rattle.past.specs.declared.past.PastEvent.{PastEvent}

-- t and only what it depends on is marked, and what is followed by all that is marked from the index on
pub record MarkedFrom (l : Live) (t index : ℕ) (marks : List Bool) : Type 0 where
  pub sound : (u : ℕ) → MarkedAt l marks u → DependsOn l u t
  pub start : MarkedAt l marks t
  pub onward : (s u i : ℕ) → StandsAt l s i → index ≤ i → MarkedAt l marks s → Follower l u s → MarkedAt l marks u

-- with each event are the tickets of those that it follows
abbrev pub FollowsAt : Live → PastEvent → Type 0
FollowsAt l p = ListsLeads l p.ticket p.causes

-- t depends on that of ticket u, which stands at the index or behind it
pub record FromIndex (l : Live) (t index u : ℕ) : Type 0 where
  pub place : ℕ
  pub event : Event
  pub stands : slice_get l place ≡ Some (u, event)
  pub behind : index ≤ place
  pub depends : DependsOn l u t

-- exactly what t depends on from the index on is listed, the last first
pub record ListsDown (l : Live) (t index : ℕ) (events : List PastEvent) : Type 0 where
  pub exactly : (u : ℕ) → In u (tickets_of events) ↔ FromIndex l t index u
  pub falling : InOrder (λ (a : ℕ) (b : ℕ). b < a) (tickets_of events)
  pub tells : Every (Tells l) events
  pub follows : Every (FollowsAt l) events

-- the whole past of t, in order of tickets
pub record IsWhole (l : Live) (t : ℕ) (events : List PastEvent) : Type 0 where
  pub tickets : ListsTickets true l t (tickets_of events)
  pub tells : Every (Tells l) events
  pub follows : Every (FollowsAt l) events
