-- What a drawing marks where an event is asked for: its causes, and its consequences, which are what `roll` takes back.
use Rattle.std.specs.Prelude.{◌≡◌, ℕ, Option, Some, None, true}
use Rattle.runs.specs.Live.{Live, IsLive, NoneAt, ConsequencesList}
use Rattle.past.specs.Past.{ListsTickets}
use Rattle.picture_drawing.specs.declared.cones.Asked.{Asked}
use Rattle.picture_drawing.specs.declared.cones.Cones.{Cones}

-- the causes of the live event of ticket t are exactly the live events on which it depends, and its consequences those
-- that depend on it, in order, itself among both
pub record AreCones (l : Live) (t : ℕ) (cones : Cones) : Type 0 where
  pub live : IsLive l t
  pub ticket : cones.ticket ≡ t
  pub causes : ListsTickets true l t cones.causes.items
  pub consequences : ConsequencesList l t cones.consequences.items

-- the event that is asked for is live, if there is one
abbrev pub IsThere : Live → Option ℕ → Type 0
IsThere l None = Unit {0}
IsThere l (Some t) = IsLive l t

-- an event is asked for, and is not live
abbrev pub IsMissing : Live → Option ℕ → Type 0
IsMissing l None = ⊥
IsMissing l (Some t) = NoneAt l t

-- what there is of the event that is asked for
abbrev pub IsAnswered : Live → Option ℕ → Asked → Type 0
IsAnswered l event Asked.Nothing = event ≡ None
IsAnswered l event (Asked.Event cones) = (t : ℕ) × (event ≡ Some t) × AreCones l t cones
IsAnswered l event Asked.Missing = (t : ℕ) × (event ≡ Some t) × NoneAt l t
