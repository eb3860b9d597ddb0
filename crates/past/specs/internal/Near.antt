-- Nearest causes by their places in the whole past.
-- No reader has to believe it: the proof of `told_past` ties it to `ListsPast`.
use Rattle.std.specs.Prelude.{◌≡◌, ◌↔◌, ◌<◌, ℕ, ◌+◌, List, [], ◌∷◌, length, cond, Bool, true, false, ◌||◌, ◌==◌, ◌++◌, map, Some, slice_get, slice_index}
use Rattle.syntax.specs.Lists.{Every, In}
use Rattle.runs.specs.InOrder.{InOrder}
use Rattle.runs.specs.Live.{Live}
use Rattle.dependence.specs.Followers.{Follower}
use Rattle.past.specs.Past.{NearestCause, ListsCauses, Tells, tickets_of}
use Rattle.past.specs.declared.past.PastEvent.{PastEvent}

-- each list has only lesser places than its own
abbrev pub LeadDown : List (List ℕ) → Type 0
LeadDown near = (q p : ℕ) (places : List ℕ) → slice_get near q ≡ Some places → In p places → p < q

-- whether an event is told in the past of t where not all are
abbrev pub told : ℕ → PastEvent → Bool
told t p = p.carries || (p.ticket == t)

-- the places fall
abbrev pub Falling : List ℕ → Type 0
Falling places = InOrder (λ (a : ℕ) (b : ℕ). b < a) places

-- exactly the places of the events that that of ticket s follows, falling
pub record AreLeads (l : Live) (tickets : List ℕ) (s : ℕ) (places : List ℕ) : Type 0 where
  pub exactly : (p : ℕ) → In p places ↔ ((u : ℕ) × (slice_get tickets p ≡ Some u) × Follower l u s)
  pub falling : Falling places

-- the event at the place q is told, or it is not
abbrev pub ToldAt : ℕ → List PastEvent → ℕ → Bool → Type 0
ToldAt t whole q b = (x : PastEvent) × (slice_get whole q ≡ Some x) × (told t x ≡ b)

-- each of the places has the list of those of the events that it follows
pub record AllLeads (l : Live) (tickets : List ℕ) (leads : List (List ℕ)) : Type 0 where
  pub size : length leads ≡ length tickets
  pub lists : (q s : ℕ) (places : List ℕ) → slice_get tickets q ≡ Some s → slice_get leads q ≡ Some places
      → AreLeads l tickets s places

-- exactly the places of its nearest causes in the past of t, falling
pub record IsNear (l : Live) (t : ℕ) (tickets : List ℕ) (s : ℕ) (places : List ℕ) : Type 0 where
  pub exactly : (p : ℕ) → In p places ↔ ((u : ℕ) × (slice_get tickets p ≡ Some u) × NearestCause false l t s u)
  pub falling : Falling places

-- each of the places where an event is told has such a list
pub record AllNear (l : Live) (t : ℕ) (whole : List PastEvent) (near : List (List ℕ)) : Type 0 where
  pub size : length near ≡ length whole
  pub lists : (p s : ℕ) (places : List ℕ) → ToldAt t whole p true → slice_get (tickets_of whole) p ≡ Some s
      → slice_get near p ≡ Some places → IsNear l t (tickets_of whole) s places

-- these are the places of the tickets, in the same order
abbrev pub ArePlaces : List ℕ → List ℕ → List ℕ → Type 0
ArePlaces tickets [] [] = Unit {0}
ArePlaces tickets [] (p ∷ places) = ⊥
ArePlaces tickets (u ∷ some) [] = ⊥
ArePlaces tickets (u ∷ some) (p ∷ places) = (slice_get tickets p ≡ Some u) × ArePlaces tickets some places

-- the tickets of those that are told, and how many are not
abbrev pub told_tickets : ℕ → List PastEvent → List ℕ
told_tickets t [] = []
told_tickets t (x ∷ xs) = cond (told t x) (x.ticket ∷ told_tickets t xs) (told_tickets t xs)

abbrev pub untold : ℕ → List PastEvent → ℕ
untold t [] = 0
untold t (x ∷ xs) = cond (told t x) (untold t xs) (untold t xs + 1)

-- the tickets at these places
abbrev pub tickets_at : List ℕ → List ℕ → List ℕ
tickets_at tickets places = map (λ p. slice_index tickets p) places

-- of the events before a place those that are told are listed, beside those that are left
pub record Told (l : Live) (t : ℕ) (whole left : List PastEvent) (events : List PastEvent) (n : ℕ) : Type 0 where
  pub tickets : tickets_of events ++ told_tickets t left ≡ told_tickets t whole
  pub tells : Every (Tells l) events
  pub causes : Every (λ p. ListsCauses false l t p.ticket p.causes) events
  pub left_out : n + untold t left ≡ untold t whole
