-- Marks beside the live events, at the same indexes.
-- No reader has to believe it: the proof of `mark_dependents` ties it to `ConsequencesList` of `runs`, and that of
-- `Live::last_marked` to `Greatest`.
use Rattle.std.specs.Prelude.{◌≡◌, ℕ, ◌-◌, ◌<◌, ◌≤◌, List, Bool, true, Some, slice_get}
use Rattle.syntax.specs.Lists.{In}
use Rattle.runs.specs.Live.{Live, DependsOn}
use Rattle.dependence.specs.Followers.{Follower}
use Rattle.dependence.specs.Shown.{tickets_marked}
use Rattle.dependence.specs.internal.Tables.{StandsAt}

-- the event of ticket t is marked
abbrev pub MarkedAt : Live → List Bool → ℕ → Type 0
MarkedAt l marks t = (i : ℕ) × StandsAt l t i × (slice_get marks i ≡ Some true)

-- none of the first n marks is set
abbrev pub UnmarkedTo : List Bool → ℕ → Type 0
UnmarkedTo marks n = (i : ℕ) → i < n → slice_get marks i ≡ Some true → ⊥

-- no mark is set from the index n on
abbrev pub UnmarkedFrom : List Bool → ℕ → Type 0
UnmarkedFrom marks n = (i : ℕ) → n ≤ i → slice_get marks i ≡ Some true → ⊥

-- the marks that are set end at n: just below it one is, unless it is 0, and none from it on
pub record EndsAt (marks : List Bool) (n : ℕ) : Type 0 where
  pub none : UnmarkedFrom marks n
  pub last : 0 < n → slice_get marks (n - 1) ≡ Some true

-- no event of a lesser ticket than t is marked
abbrev pub NoneLess : Live → List Bool → ℕ → Type 0
NoneLess l marks t = (u : ℕ) → In u (tickets_marked l marks) → t ≤ u

-- d are the last of the live events l, beside which the marks stand: t and only what depends on it is marked, and the
-- followers of all that is marked below the index
pub record MarkedBelow (d l : Live) (t index : ℕ) (marks : List Bool) : Type 0 where
  pub sound : (u : ℕ) → MarkedAt d marks u → DependsOn l t u
  pub start : MarkedAt d marks t
  pub onward : (s u i : ℕ) → StandsAt d s i → i < index → MarkedAt d marks s → Follower l s u → MarkedAt d marks u
