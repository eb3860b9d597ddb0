-- The depths of live events, and how far on their followers stand. (Depth: the length of the longest chain of causes.)
use Rattle.std.specs.Prelude.{◌≡◌, ◌⊎◌, ℕ, ◌+◌, ◌<◌, ◌≤◌, List, length, Some, slice_get, slice_index}
use Rattle.syntax.specs.Lists.{In}
use Rattle.runs.specs.InOrder.{InOrder}
use Rattle.runs.specs.Live.{Live}
use Rattle.runs.specs.declared.event.Event.{Event}
use Rattle.dependence.specs.Followers.{Follower}

-- the live event of ticket t stands at the index i
abbrev pub StandsAt : Live → ℕ → ℕ → Type 0
StandsAt l t i = (e : Event) × (slice_get l i ≡ Some (t, e))

-- d is one more than the depth of the live event of ticket t
abbrev pub IsBehind : Live → List ℕ → ℕ → ℕ → Type 0
IsBehind l depths t d = (j : ℕ) × StandsAt l t j × (d ≡ slice_index depths j + 1)

-- d is one more than the greatest depth of the events that that of ticket u follows, and 0 where it follows none
pub record IsDepth (l : Live) (depths : List ℕ) (u d : ℕ) : Type 0 where
  pub above : (t j : ℕ) → Follower l t u → StandsAt l t j → slice_index depths j < d
  pub reached : (d ≡ 0) ⊎ ((t : ℕ) × Follower l t u × IsBehind l depths t d)

-- a depth for each event
pub record AreDepths (l : Live) (depths : List ℕ) : Type 0 where
  pub size : length depths ≡ length l
  pub each : (i u : ℕ) → StandsAt l u i → IsDepth l depths u (slice_index depths i)

-- no event is deeper than there are events before it
abbrev pub AreBelow : List ℕ → Type 0
AreBelow depths = (k : ℕ) → k < length depths → slice_index depths k ≤ k

-- exactly how many events further on than the index i the followers of the event of ticket t stand, ascending, so each
-- once
pub record ListsAhead (l : Live) (i t : ℕ) (ahead : List ℕ) : Type 0 where
  pub each : (n : ℕ) → In n ahead → (u : ℕ) × Follower l t u × StandsAt l u (i + n)
  pub all : (u : ℕ) → Follower l t u → (n : ℕ) × In n ahead × StandsAt l u (i + n)
  pub ascending : InOrder ◌<◌ ahead

-- the same of each event, at its index
pub record AreAhead (l : Live) (rows : List (List ℕ)) : Type 0 where
  pub size : length rows ≡ length l
  pub each : (i t : ℕ) (row : List ℕ) → StandsAt l t i → slice_get rows i ≡ Some row → ListsAhead l i t row
