-- From which depth on a place may be stood at. (Own: an action that waits is drawn from there on.)
use Rattle.std.specs.Prelude.{◌≡◌, ◌⊎◌, ℕ, ◌+◌, ◌<◌, List, Option, None, Some, length, slice_get, slice_index}
use Rattle.address.specs.Places.{Before}
use Rattle.syntax.specs.Lists.{In}
use Rattle.runs.specs.Events.{places}
use Rattle.runs.specs.Live.{Live}
use Rattle.runs.specs.Moves.{Place}
use Rattle.runs.specs.declared.event.Event.{Event}

-- a is a place of the live event of index i
abbrev pub IsPlaceAt : Live → ℕ → Place → Type 0
IsPlaceAt l i a = (t : ℕ) × (e : Event) × (slice_get l i ≡ Some (t, e)) × In a (places e)

-- d is one more than the greatest depth of a live event with a place before a, and 0 where there is none
pub record IsSince (l : Live) (depths : List ℕ) (a : Place) (d : ℕ) : Type 0 where
  pub above : (i : ℕ) (b : Place) → IsPlaceAt l i b → Before b a → slice_index depths i < d
  pub reached : (d ≡ 0) ⊎ ((i : ℕ) × (b : Place) × IsPlaceAt l i b × Before b a × (d ≡ slice_index depths i + 1))

-- of a second place, if there is one, and else as that of the first
abbrev pub IsSecondSince : Live → List ℕ → Option Place → ℕ → ℕ → Type 0
IsSecondSince l depths None first d = d ≡ first
IsSecondSince l depths (Some b) first d = IsSince l depths b d

-- of both places of an event
abbrev pub IsEventSince : Live → List ℕ → Event → ℕ × ℕ → Type 0
IsEventSince l depths e s = IsSince l depths e.first s.0 × IsSecondSince l depths e.second s.0 s.1

-- of each event, at its index
pub record AreSince (l : Live) (depths : List ℕ) (since : List (ℕ × ℕ)) : Type 0 where
  pub size : length since ≡ length l
  pub each : (i t : ℕ) (e : Event) (s : ℕ × ℕ) → slice_get l i ≡ Some (t, e) → slice_get since i ≡ Some s →
      IsEventSince l depths e s
