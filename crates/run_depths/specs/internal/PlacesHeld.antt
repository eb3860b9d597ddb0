-- The places of events in a table, while they are put there. No reader has to believe it: the contract of `all_since`
-- speaks of live events alone.
use Rattle.std.specs.Prelude.{◌≡◌, ◌⊎◌, ◌↔◌, ℕ, ◌+◌, ◌<◌, List, [], Some, length, slice_get, slice_index}
use Rattle.syntax.specs.Lists.{In}
use Rattle.dependence.specs.LastEvents.{IsAt, LastBefore}
use Rattle.dependence.specs.declared.places.PlaceTable.{PlaceTable}
use Rattle.runs.specs.Live.{Live}
use Rattle.runs.specs.Moves.{Place}
use Rattle.runs.specs.declared.event.Event.{Event}
use Rattle.run_depths.specs.Since.{IsEventSince, IsPlaceAt}

-- the table has exactly the places of the first n live events, by their indexes
abbrev pub HoldsTo : Live → ℕ → PlaceTable → Type 0
HoldsTo l n table = (a : Place) (i : ℕ) → IsAt table a i ↔ (IsPlaceAt l i a × (i < n))

-- d is one more than the greatest depth of those of these indexes, and 0 where there are none
pub record GreatestBehind (depths found : List ℕ) (d : ℕ) : Type 0 where
  pub above : (i : ℕ) → In i found → slice_index depths i < d
  pub reached : (d ≡ 0) ⊎ ((i : ℕ) × In i found × (d ≡ slice_index depths i + 1))

-- of the last events before the place
abbrev pub BehindLast : PlaceTable → List ℕ → Place → ℕ → Type 0
BehindLast table depths a d = (found : List ℕ) × LastBefore table a [] found × GreatestBehind depths found d

-- of the first n events
pub record SinceTo (l : Live) (depths : List ℕ) (n : ℕ) (since : List (ℕ × ℕ)) : Type 0 where
  pub size : length since ≡ n
  pub each : (i t : ℕ) (e : Event) (s : ℕ × ℕ) → i < n → slice_get l i ≡ Some (t, e) →
      slice_get since i ≡ Some s → IsEventSince l depths e s
