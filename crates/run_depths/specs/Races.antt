-- Orders that only a shared variable makes. (Own: what is drawn as a link of its own.)
use Rattle.std.specs.Prelude.{◌≡◌, ◌⊎◌, ℕ, ◌<◌, List, Some, slice_get}
use Rattle.syntax.specs.Lists.{In}
use Rattle.runs.specs.Dependence.{OnOneChannel, SomeBefore}
use Rattle.runs.specs.InOrder.{InOrder}
use Rattle.runs.specs.Live.{Live}
use Rattle.runs.specs.declared.event.Event.{Event}
use Rattle.dependence.specs.Followers.{Follower}
use Rattle.run_depths.specs.declared.races.Race.{Race}

-- x is a variable that the earlier event e writes and the later event f reads
abbrev pub ReadsAfter : Event → Event → ℕ → Type 0
ReadsAfter e f x = (e.written ≡ Some x) × In x f.read

-- x is a variable that f writes and e reads or writes
abbrev pub WritesAfter : Event → Event → ℕ → Type 0
WritesAfter e f x = (f.written ≡ Some x) × (In x e.read ⊎ (e.written ≡ Some x))

-- x is the variable that orders the two: one that f reads after e wrote it goes before one that f writes
abbrev pub OrdersBy : Event → Event → ℕ → Type 0
OrdersBy e f x = ReadsAfter e f x ⊎ (((y : ℕ) → ReadsAfter e f y → ⊥) × WritesAfter e f x)

-- f, of ticket u, follows e, of ticket t, and neither their places nor a channel makes that order
pub record ByVariable (l : Live) (t u : ℕ) (e f : Event) : Type 0 where
  pub follows : Follower l t u
  pub places : SomeBefore e f → ⊥
  pub channels : OnOneChannel e f → ⊥

-- these two live events, by their indexes, with the variable that orders them
abbrev pub IsRace : Live → Race → Type 0
IsRace l r =
    (t : ℕ) × (u : ℕ) × (e : Event) × (f : Event) × (slice_get l r.cause ≡ Some (t, e))
    × (slice_get l r.event ≡ Some (u, f))
    × ByVariable l t u e f × OrdersBy e f r.variable

-- in the order of the later events, and of one in the order of the earlier
abbrev pub IsEarlierRace : Race → Race → Type 0
IsEarlierRace r s = (r.event < s.event) ⊎ ((r.event ≡ s.event) × (r.cause < s.cause))

-- exactly the orders that only a variable makes, each once, in order
pub record AreRaces (l : Live) (races : List Race) : Type 0 where
  pub each : (r : Race) → In r races → IsRace l r
  pub all : (i j t u : ℕ) (e f : Event) → slice_get l i ≡ Some (t, e) → slice_get l j ≡ Some (u, f) →
      ByVariable l t u e f →
      (x : ℕ) × In (record { cause = i; event = j; variable = x }) races
  pub in_order : InOrder IsEarlierRace races
