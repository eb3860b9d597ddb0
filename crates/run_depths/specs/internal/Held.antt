-- The places of live events in order, with the depths behind them. No reader has to believe it: the contract of
-- `since_now` speaks of the live events alone.
use Rattle.std.specs.Prelude.{◌≡◌, ◌⊎◌, ℕ, ◌+◌, ◌<◌, ◌≤◌, List, Some, length, slice_get, slice_index}
use Rattle.std.specs.declared.cmp.Ordering.TheVariants.{Less}
use Rattle.address.specs.Order.{order_of}
use Rattle.address.specs.Places.{Before}
use Rattle.syntax.specs.Lists.{In}
use Rattle.runs.specs.Events.{places}
use Rattle.runs.specs.Live.{Live}
use Rattle.runs.specs.Moves.{Place}
use Rattle.runs.specs.declared.event.Event.{Event}
use Rattle.run_depths.specs.Since.{IsPlaceAt}
use Rattle.run_depths.specs.declared.held.HeldPlace.{HeldPlace}
use Rattle.run_depths.specs.declared.held.HeldPlaces.{HeldPlaces}
use Rattle.run_depths.specs.declared.held.Reach.{Reach}

-- p is a place of a live event, and is one deeper than it
abbrev pub IsHeld : Live → List ℕ → HeldPlace → Type 0
IsHeld l depths p = (i : ℕ) × IsPlaceAt l i p.place.now × (p.behind ≡ slice_index depths i + 1)

-- the place a is there, with this depth behind it
abbrev pub IsHeldAt : List HeldPlace → Place → ℕ → Type 0
IsHeldAt ps a d = (p : HeldPlace) × In p ps × (p.place.now ≡ a) × (p.behind ≡ d)

-- exactly the places of the first n events
pub record AllHeld (l : Live) (depths : List ℕ) (n : ℕ) (ps : List HeldPlace) : Type 0 where
  pub each : (p : HeldPlace) → In p ps → IsHeld l depths p
  pub all : (i : ℕ) (a : Place) → i < n → IsPlaceAt l i a → IsHeldAt ps a (slice_index depths i + 1)

-- the places of one event more
pub record IsHeldFor (e : Event) (d : ℕ) (old new : List HeldPlace) : Type 0 where
  pub each : (p : HeldPlace) → In p new → In p old ⊎ (In p.place.now (places e) × (p.behind ≡ d))
  pub kept : (p : HeldPlace) → In p old → In p new
  pub all : (a : Place) → In a (places e) → IsHeldAt new a d

-- none is less than one before it
abbrev pub IsOrdered : List HeldPlace → Type 0
IsOrdered ps =
    (i j : ℕ) (p q : HeldPlace) → i ≤ j → slice_get ps i ≡ Some p → slice_get ps j ≡ Some q →
    order_of q.place.now p.place.now ≡ Less → ⊥

-- d is the greatest `behind` of those from index low on and before index high, and 0 where there are none
pub record GreatestOver (ps : List HeldPlace) (low high d : ℕ) : Type 0 where
  pub above : (k : ℕ) (p : HeldPlace) → low ≤ k → k < high → slice_get ps k ≡ Some p → p.behind ≤ d
  pub reached : (d ≡ 0)
      ⊎ ((k : ℕ) × (p : HeldPlace) × (low ≤ k) × (k < high) × (slice_get ps k ≡ Some p) × (d ≡ p.behind))

-- the same of those before a
pub record GreatestBefore (ps : List HeldPlace) (a : Place) (d : ℕ) : Type 0 where
  pub above : (k : ℕ) (p : HeldPlace) → slice_get ps k ≡ Some p → Before p.place.now a → p.behind ≤ d
  pub reached : (d ≡ 0)
      ⊎ ((k : ℕ) × (p : HeldPlace) × (slice_get ps k ≡ Some p) × Before p.place.now a × (d ≡ p.behind))

-- r ends before index n
abbrev pub IsReach : List HeldPlace → ℕ → Reach → Type 0
IsReach ps n r = (r.first < n) × GreatestOver ps r.first n r.most

-- one ends with each
pub record AreReaches (ps : List HeldPlace) (rs : List Reach) : Type 0 where
  pub size : length rs ≡ length ps
  pub each : (i : ℕ) (r : Reach) → slice_get rs i ≡ Some r → IsReach ps (i + 1) r

-- the first n are less than a, and no others
pub record CountsLess (ps : List HeldPlace) (a : Place) (n : ℕ) : Type 0 where
  pub within : n ≤ length ps
  pub below : (k : ℕ) (p : HeldPlace) → k < n → slice_get ps k ≡ Some p → order_of p.place.now a ≡ Less
  pub above : (k : ℕ) (p : HeldPlace) → n ≤ k → slice_get ps k ≡ Some p → order_of p.place.now a ≡ Less → ⊥

-- a is less than all but the first n
pub record CountsTo (ps : List HeldPlace) (a : Place) (n : ℕ) : Type 0 where
  pub below : (k : ℕ) (p : HeldPlace) → k < n → slice_get ps k ≡ Some p → order_of a p.place.now ≡ Less → ⊥
  pub above : (k : ℕ) (p : HeldPlace) → n ≤ k → slice_get ps k ≡ Some p → order_of a p.place.now ≡ Less

pub record IsInOrder (h : HeldPlaces) : Type 0 where
  pub ordered : IsOrdered h.places.items
  pub reaches : AreReaches h.places.items h.reaches.items

-- the places of all live events, in order
pub record HoldsPlaces (l : Live) (depths : List ℕ) (h : HeldPlaces) : Type 0 where
  pub all : AllHeld l depths (length l) h.places.items
  pub order : IsInOrder h
