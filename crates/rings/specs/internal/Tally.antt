-- For how many those wait whose partner comes behind a place, and how marks are taken away.
-- No reader has to believe it: the contract of `deadlocked_among` ties it to `TellsDeadlocked`.
use Rattle.std.specs.Prelude.{◌≡◌, ◌⊎◌, ℕ, zero, suc, ◌+◌, ◌<◌, ◌≤◌, ◌==◌, List, [], ◌∷◌, length, Bool, true, false, ◌&&◌, ◌||◌, Option, Some, None, slice_get, slice_index, slice_index_or}
use Rattle.syntax.specs.Lists.{In}
use Rattle.dependence.specs.LastEvents.{Uses}
use Rattle.dependence.specs.declared.uses.UseTable.{UseTable}
use Rattle.rings.specs.internal.Loosened.{is_marked}

-- whether a number is one of these
abbrev pub has : List ℕ → ℕ → Bool
has [] i = false
has (x ∷ xs) i = (i == x) || has xs i

-- whether i stands in the row of j
abbrev pub edge : UseTable → ℕ → ℕ → Bool
edge table j i = has (slice_index_or table j []) i

abbrev pub one : Bool → ℕ
one true = 1
one false = 0

-- how many numbers below n pass a test
abbrev pub tally : (ℕ → Bool) → ℕ → ℕ
tally f zero = 0
tally f (suc n) = tally f n + one (f n)

-- whether j is marked, and i stands in its row
abbrev pub counts_for : UseTable → List Bool → ℕ → ℕ → Bool
counts_for edges marks i j = is_marked (slice_get marks j) && edge edges j i

-- for each the count is how many of the first n are marked in whose rows it stands
abbrev pub Counted : UseTable → ℕ → List Bool → List ℕ → Type 0
Counted edges n marks counts = (i : ℕ) → slice_index counts i ≡ tally (counts_for edges marks i) n

-- the one of this index is one more
pub record OneMore (index : ℕ) (less more : List ℕ) : Type 0 where
  pub here : slice_index more index ≡ slice_index less index + 1
  pub others : (i : ℕ) → (i ≡ index → ⊥) → slice_index more i ≡ slice_index less i
  pub size : length more ≡ length less

-- those in the row of j are one more
pub record Moved (edges : UseTable) (j : ℕ) (more less : List ℕ) : Type 0 where
  pub moved : (i : ℕ) → Uses edges j i → slice_index more i ≡ slice_index less i + 1
  pub others : (i : ℕ) → (Uses edges j i → ⊥) → slice_index more i ≡ slice_index less i
  pub size : length more ≡ length less

-- all of them together
abbrev pub total : List ℕ → ℕ
total [] = 0
total (x ∷ xs) = x + total xs

-- the count of a row; none where there is no row
abbrev pub count_of : List ℕ → Option ℕ → ℕ
count_of counts (Some g) = slice_index counts g
count_of counts None = 0

-- so many times the second
abbrev pub times : ℕ → ℕ → ℕ
times zero limit = 0
times (suc n) limit = times n limit + limit

-- those less than `limit` that wait in the row of g are put into `todo`, from which nothing is taken
pub record Adds (waiters : UseTable) (limit g : ℕ) (todo new : List ℕ) : Type 0 where
  pub kept : (i : ℕ) → In i todo → In i new
  pub added : (i : ℕ) → Uses waiters g i → i < limit → In i new
  pub size : length new ≤ length todo + limit

-- those that wait in a row whose count came to nothing are put into `todo`, from which nothing is taken
pub record Puts (waiters : UseTable) (limit : ℕ) (before after todo new : List ℕ) : Type 0 where
  pub kept : (i : ℕ) → In i todo → In i new
  pub put : (g : ℕ) → slice_index after g ≡ 0 →
      (slice_index before g ≡ 0) ⊎ ((i : ℕ) → Uses waiters g i → i < limit → In i new)
  pub less : times (total after) limit + length new ≤ times (total before) limit + length todo

-- those in the row of j are one less
pub record Lowered (edges waiters : UseTable) (limit j : ℕ) (before after todo new : List ℕ) : Type 0 where
  pub moved : Moved edges j before after
  pub puts : Puts waiters limit before after todo new

-- the marks of those in the row of a number are taken away
pub record Loosens (edges beside waiters : UseTable) (j : ℕ) (marks left : List Bool)
    (before after todo new : List ℕ) : Type 0 where
  pub size : length left ≡ length marks
  pub cleared : (i : ℕ) → Uses beside j i → is_marked (slice_get left i) ≡ false
  pub others : (i : ℕ) → (Uses beside j i → ⊥) → is_marked (slice_get left i) ≡ is_marked (slice_get marks i)
  pub counted : Counted edges (length marks) left after
  pub counts : length after ≡ length before
  pub puts : Puts waiters (length marks) before after todo new
