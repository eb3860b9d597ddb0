-- Sets of lanes, each a bit of a word, which stand for the places of a block.
-- No reader has to believe it.
use Rattle.std.specs.Prelude.{◌≡◌, ◌⊎◌, ◌↔◌, ℕ, ◌+◌, ◌-◌, ◌≤◌, ◌<◌, List, Bool, true, ◌==◌}
use Rattle.std.specs.Int.{bit_at}
use Rattle.syntax.specs.Lists.{In}
use Rattle.past.specs.internal.Near.{Falling}

-- the lane is in the set
abbrev pub has : ℕ → ℕ → Bool
has lanes lane = bit_at lanes lane == 1

-- of the places of a block, which begins at `first` and ends before `end`, the lanes of exactly those are in the set
abbrev pub AreThose : ℕ → ℕ → ℕ → (ℕ → Type 0) → Type 0
AreThose lanes first end P = (k : ℕ) → first + k < end → (has lanes k ≡ true) ↔ P (first + k)

-- p is a place of the block whose lane is in the set
abbrev pub IsSet : ℕ → ℕ → ℕ → ℕ → Type 0
IsSet lanes first end p = (first ≤ p) × (p < end) × (has lanes (p - first) ≡ true)

-- behind some places those of the set are listed, all falling
pub record AddsLanes (lanes first end : ℕ) (before after : List ℕ) : Type 0 where
  pub exactly : (p : ℕ) → In p after ↔ (In p before ⊎ IsSet lanes first end p)
  pub falling : Falling after
