-- The races of the first events, while they are listed. No reader has to believe it: the contract of `races_of` speaks
-- of all.
use Rattle.std.specs.Prelude.{◌≡◌, ◌⊎◌, ℕ, ◌<◌, List, Some, slice_get}
use Rattle.syntax.specs.Lists.{In}
use Rattle.runs.specs.InOrder.{InOrder}
use Rattle.runs.specs.Live.{Live}
use Rattle.runs.specs.declared.event.Event.{Event}
use Rattle.run_depths.specs.Depths.{StandsAt}
use Rattle.run_depths.specs.Races.{ByVariable, IsEarlierRace, IsRace}
use Rattle.run_depths.specs.declared.races.Race.{Race}

-- the races whose later event has an index less than n
pub record RacesTo (l : Live) (n : ℕ) (races : List Race) : Type 0 where
  pub each : (r : Race) → In r races → IsRace l r × (r.event < n)
  pub all : (i j t u : ℕ) (e f : Event) → j < n → slice_get l i ≡ Some (t, e) → slice_get l j ≡ Some (u, f) →
      ByVariable l t u e f →
      (x : ℕ) × In (record { cause = i; event = j; variable = x }) races
  pub in_order : InOrder IsEarlierRace races

-- the ticket of the earlier event is among these
abbrev pub CauseAmong : Live → List ℕ → Race → Type 0
CauseAmong l seen r = (t : ℕ) × In t seen × StandsAt l t r.cause

-- those, and of the event of index n the races with the events of these tickets
pub record RacesWith (l : Live) (n : ℕ) (seen : List ℕ) (races : List Race) : Type 0 where
  pub each : (r : Race) → In r races → IsRace l r × ((r.event < n) ⊎ ((r.event ≡ n) × CauseAmong l seen r))
  pub all : (i j t u : ℕ) (e f : Event) → (j < n) ⊎ ((j ≡ n) × In t seen) → slice_get l i ≡ Some (t, e) →
      slice_get l j ≡ Some (u, f) →
      ByVariable l t u e f → (x : ℕ) × In (record { cause = i; event = j; variable = x }) races
  pub in_order : InOrder IsEarlierRace races
