-- The one live event that acts at a place.
use Rattle.std.specs.Prelude.{◌≡◌, ℕ}
use Rattle.runs.specs.Events.{acting}
use Rattle.runs.specs.Live.{Live, LiveAt}
use Rattle.runs.specs.Moves.{Place}
use Rattle.runs.specs.declared.event.Event.{Event}

-- e is the live event that acts at the place, and no other does
pub record ActsAlone (l : Live) (p : Place) (e : Event) : Type 0 where
  pub ticket : ℕ
  pub live : LiveAt l ticket e
  pub acts : acting e ≡ p
  pub alone : (u : ℕ) (f : Event) → LiveAt l u f → acting f ≡ p → (u ≡ ticket) × (f ≡ e)

-- no live event acts at the place
abbrev pub NoneActs : Live → Place → Type 0
NoneActs l p = (u : ℕ) (f : Event) → LiveAt l u f → acting f ≡ p → ⊥
