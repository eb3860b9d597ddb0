-- The sweep down over indexes that finds the topmost of some events.
-- No reader has to believe it: `proofs/AddedEvent.antt` ties what is topmost to `Follower`.
use Rattle.std.specs.Prelude.{◌≡◌, ◌↔◌, ℕ, ◌+◌, ◌<◌, ◌≤◌, List, length, Bool, true, Some, slice_get}
use Rattle.syntax.specs.Lists.{In}
use Rattle.runs.specs.Live.{Live, DependsOn, IsLive}
use Rattle.dependence.specs.internal.Tables.{StandsAt, Falling, Topmost, LeadsBack}

-- each of cs stands from the index `low` on and below `high`
abbrev pub StandWithin : Live → List ℕ → ℕ → ℕ → Type 0
StandWithin l cs low high = (t : ℕ) → In t cs → (i : ℕ) × StandsAt l t i × (low ≤ i) × (i < high)

-- the event of ticket t stands below `high` at an index whose flag is set; the flags go down from the last index
abbrev pub FlagAt : Live → ℕ → List Bool → ℕ → Type 0
FlagAt l high flags t = (i : ℕ) × (k : ℕ) × StandsAt l t i × (i + k + 1 ≡ high) × (slice_get flags k ≡ Some true)

-- no live event up to the ticket `last` depends on that of ticket t
abbrev pub IsUnreached : Live → ℕ → ℕ → Type 0
IsUnreached l last t = (c : ℕ) → IsLive l c → c ≤ last → DependsOn l t c → c ≡ t

-- another one of cs depends on the event of ticket t
abbrev pub LeadsOn : Live → List ℕ → ℕ → Type 0
LeadsOn l cs t = (c : ℕ) × In c cs × DependsOn l t c × (c ≡ t → ⊥)

-- from `high` down to `index`: which events reach one of cs, and which of these are topmost
pub record Swept (l : Live) (cs : List ℕ) (high index : ℕ) (flags : List Bool) (kept : List ℕ) : Type 0 where
  pub count : index + length flags ≡ high
  pub flagged : (t i : ℕ) → StandsAt l t i → index ≤ i → i < high → FlagAt l high flags t ↔ LeadsBack l cs t
  pub chosen : (t : ℕ) → In t kept ↔ (Topmost l cs t × ((i : ℕ) → StandsAt l t i → index ≤ i))
  pub falling : Falling kept
