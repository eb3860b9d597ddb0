-- In which branches an event takes part, and the last that did.
use Rattle.std.specs.Prelude.{◌≡◌, ℕ, ◌<◌, ◌||◌, Bool, true, false, List, Option, None, Some, slice_get}
use Rattle.address.specs.declared.Entry.{Entry}
use Rattle.system.specs.declared.system.System.{System}
use Rattle.system_places.specs.SystemBranches.{branch_at}
use Rattle.runs.specs.Live.{Live}
use Rattle.runs.specs.declared.event.Event.{Event}
use Rattle.machine.specs.Branching.{is_branch}

-- whether a second place lies in branch k
abbrev pub second_in : System → ℕ → Option (List Entry) → Bool
second_in system k None = false
second_in system k (Some a) = is_branch k (branch_at system a)

-- whether branch k takes part in an event: one of its places lies there
abbrev pub takes_part : System → ℕ → Event → Bool
takes_part system k e = is_branch k (branch_at system e.first) || second_in system k e.second

-- of the live events from index `from` on and below index `below` branch k took part in none
abbrev pub NoneAmong : System → ℕ → Live → ℕ → ℕ → Type 0
NoneAmong system k l from below =
    (i : ℕ) (x : ℕ × Event) → from < i → i < below → slice_get l i ≡ Some x → takes_part system k x.1 ≡ false

-- branch k took part in none of the live events below this index
abbrev pub NoneBelow : System → ℕ → Live → ℕ → Type 0
NoneBelow system k l below =
    (i : ℕ) (x : ℕ × Event) → i < below → slice_get l i ≡ Some x → takes_part system k x.1 ≡ false

-- the last live event below this index in which branch k took part stands at index i
pub record NewestBelow (system : System) (k : ℕ) (l : Live) (below i : ℕ) : Type 0 where
  pub within : i < below
  pub found : (x : ℕ × Event) × (slice_get l i ≡ Some x) × (takes_part system k x.1 ≡ true)
  pub last : NoneAmong system k l i below
