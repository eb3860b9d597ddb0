-- The rule of the lock, and its two steps.
use Rattle.std.specs.Prelude.{◌≡◌, ◌⊎◌, ℕ, ◌≤◌, List}
use mathlib.Core.Option.{some}
use lib.ListN.{get_elem?}
use Rattle.locked_object.specs.declared.lock.Hold.{Hold}
use Rattle.locked_object.specs.declared.lock.Hold.TheVariants.{Held}

-- at most one caller has the lock, and none while the seat rests on it, so while the word is 2
pub record OneHolds (word : ℕ) (views : List Hold) : Type 0 where
  pub one : (i j : ℕ) → get_elem? views i ≡ some Held → get_elem? views j ≡ some Held → i ≡ j
  pub rests : (word ≡ 0) ⊎ ((word ≡ 2) × ((i : ℕ) → get_elem? views i ≡ some Held → ⊥))

-- whoever found the seat has the lock
abbrev pub Locked : ℕ → Hold → Type 0
Locked found after = 2 ≤ found → after ≡ Held

-- where the seat is let rest the word was 0: it did not rest there already
abbrev pub Unlocked : ℕ → Type 0
Unlocked found = found ≡ 0
