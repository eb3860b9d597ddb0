-- A sweep up over a whole past for the told events of a block: which of them each event is or leads down to, and of
-- which of these it is not the nearest that is told.
-- No reader has to believe it: the proof of `told_past` ties it to `NearestCause`.
use Rattle.std.specs.Prelude.{◌≡◌, ◌≢◌, ◌↔◌, ℕ, ◌≤◌, ◌<◌, List, Bool, true, length, Some, slice_get}
use Rattle.syntax.specs.Lists.{In}
use Rattle.past.specs.declared.blocks.Mark.{Mark}
use Rattle.past.specs.declared.past.PastEvent.{PastEvent}
use Rattle.past.specs.internal.Lanes.{AddsLanes, AreThose, has}
use Rattle.past.specs.internal.Near.{Falling, ToldAt}

-- p is q, or the lists of leads lead from q down to it
pub data Down (leads : List (List ℕ)) (p : ℕ) : ℕ → Type 0 where
  stays : Down leads p p
  leads_on : {f q : ℕ} (places : List ℕ) → Down leads p f → slice_get leads q ≡ Some places → In f places → Down leads p q

-- the event at p is told, and that at q is it or leads down to it
abbrev pub Reaches : ℕ → List PastEvent → List (List ℕ) → ℕ → ℕ → Type 0
Reaches t whole leads p q = ToldAt t whole p true × Down leads p q

-- and another that is told is that at q, or lies between
abbrev pub IsBehind : ℕ → List PastEvent → List (List ℕ) → ℕ → ℕ → Type 0
IsBehind t whole leads p q =
    ToldAt t whole p true × ((v : ℕ) × ToldAt t whole v true × (v ≢ p) × Down leads p v × Down leads v q)

-- the same where that at q itself does not count
abbrev pub ReachesBelow : ℕ → List PastEvent → List (List ℕ) → ℕ → ℕ → Type 0
ReachesBelow t whole leads p q = ToldAt t whole p true × (p ≢ q) × Down leads p q

abbrev pub IsBehindBelow : ℕ → List PastEvent → List (List ℕ) → ℕ → ℕ → Type 0
IsBehindBelow t whole leads p q =
    ToldAt t whole p true × ((v : ℕ) × ToldAt t whole v true × (v ≢ p) × (v ≢ q) × Down leads p v × Down leads v q)

-- no other that is told lies between
abbrev pub IsOpen : ℕ → List PastEvent → List (List ℕ) → ℕ → ℕ → Type 0
IsOpen t whole leads p q = ReachesBelow t whole leads p q × (IsBehindBelow t whole leads p q → ⊥)

-- what the marks of the event at q say
pub record IsMarked (t : ℕ) (whole : List PastEvent) (leads : List (List ℕ)) (first end q : ℕ) (m : Mark) : Type 0 where
  pub reached : AreThose m.reached first end (λ p. Reaches t whole leads p q)
  pub behind : AreThose m.behind first end (λ p. IsBehind t whole leads p q)

-- the same where that at q itself does not count
pub record IsBelow (t : ℕ) (whole : List PastEvent) (leads : List (List ℕ)) (first end q : ℕ) (m : Mark) : Type 0 where
  pub reached : AreThose m.reached first end (λ p. ReachesBelow t whole leads p q)
  pub behind : AreThose m.behind first end (λ p. IsBehindBelow t whole leads p q)

-- the marks from `first` up to a place are right
abbrev pub AreMarked : ℕ → List PastEvent → List (List ℕ) → ℕ → ℕ → ℕ → List Mark → Type 0
AreMarked t whole leads first end place marks =
    (q : ℕ) (m : Mark) → first ≤ q → q < place → slice_get marks q ≡ Some m → IsMarked t whole leads first end q m

-- the marks at the place f, which is not before the block, have the lane in this part
abbrev pub OneHas : (Mark → ℕ) → List Mark → ℕ → ℕ → ℕ → Type 0
OneHas part marks first k f = (first ≤ f) × ((m : Mark) × (slice_get marks f ≡ Some m) × (has (part m) k ≡ true))

-- those at one of some places
abbrev pub AnyHas : (Mark → ℕ) → List Mark → ℕ → List ℕ → ℕ → Type 0
AnyHas part marks first places k = (f : ℕ) × In f places × OneHas part marks first k f

-- exactly the places from `first` on at which an event is told, with no other between, falling
pub record ListsOpen (t : ℕ) (whole : List PastEvent) (leads : List (List ℕ)) (first q : ℕ) (places : List ℕ) : Type 0 where
  pub exactly : (p : ℕ) → In p places ↔ ((first ≤ p) × IsOpen t whole leads p q)
  pub falling : Falling places

-- each told event has such a list
abbrev pub AllOpen : ℕ → List PastEvent → List (List ℕ) → ℕ → List (List ℕ) → Type 0
AllOpen t whole leads first near =
    (q : ℕ) (places : List ℕ) → ToldAt t whole q true → slice_get near q ≡ Some places
    → ListsOpen t whole leads first q places

-- those before a place have it with the block that begins at `first`, the others from its end on
abbrev pub OpenUpTo : ℕ → List PastEvent → List (List ℕ) → ℕ → ℕ → ℕ → List (List ℕ) → Type 0
OpenUpTo t whole leads first end place near =
    (q : ℕ) (places : List ℕ) → ToldAt t whole q true → slice_get near q ≡ Some places
    → (q < place → ListsOpen t whole leads first q places) × (place ≤ q → ListsOpen t whole leads end q places)

-- to the list at a place the lanes are added, if that is so, and nothing else changes
pub record AddsAt (near : List (List ℕ)) (place : ℕ) (is_so : Bool) (lanes first end : ℕ) (new : List (List ℕ)) : Type 0 where
  pub size : length new ≡ length near
  pub other : (q : ℕ) → q ≢ place → slice_get new q ≡ slice_get near q
  pub added : is_so ≡ true → (before after : List ℕ) → slice_get near place ≡ Some before
      → slice_get new place ≡ Some after → AddsLanes lanes first end before after

-- beside each place stands a place behind all of which it is a lead
pub record AreLasts (leads : List (List ℕ)) (lasts : List ℕ) : Type 0 where
  pub size : length lasts ≡ length leads
  pub behind : (q p last : ℕ) (places : List ℕ) → slice_get leads q ≡ Some places → In p places
      → slice_get lasts p ≡ Some last → q < last
  pub most : (p last : ℕ) → slice_get lasts p ≡ Some last → last ≤ length leads

-- what of the block has no other behind it at a place before this one, is handed on only to places before `until`
abbrev pub IsHandedOn : ℕ → List PastEvent → List (List ℕ) → ℕ → ℕ → ℕ → ℕ → Type 0
IsHandedOn t whole leads first end place until =
    (p f q : ℕ) (places : List ℕ) → first ≤ p → p < end → f < place → Reaches t whole leads p f
    → (IsBehind t whole leads p f → ⊥) → slice_get leads q ≡ Some places → In f places → q < until
