-- How a new event stands to the live ones, as it does where they run.
use Rattle.std.specs.Prelude.{◌≡◌, ◌⊎◌, ℕ, Some}
use Rattle.address.specs.Places.{Before, Apart}
use Rattle.syntax.specs.Lists.{In}
use Rattle.runs.specs.Dependence.{SomeBefore, OnOneChannel}
use Rattle.runs.specs.Events.{places}
use Rattle.runs.specs.Live.{Live, LiveAt}
use Rattle.runs.specs.Moves.{Place}
use Rattle.runs.specs.declared.event.Event.{Event}

-- each address of a live event is before each address of f or apart from it, the two of f are apart, and a live event
-- on the channel of f has an address before one of f
pub record ComesBehind (l : Live) (f : Event) : Type 0 where
  pub placed : (t : ℕ) (e : Event) (a b : Place) → LiveAt l t e → In a (places e) → In b (places f) → Before a b
      ⊎ Apart a b
  pub own : (b : Place) → f.second ≡ Some b → Apart f.first b
  pub channel : (t : ℕ) (e : Event) → LiveAt l t e → OnOneChannel e f → SomeBefore e f
