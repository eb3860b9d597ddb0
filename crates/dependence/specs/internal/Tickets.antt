-- Tickets that ascend, and rows of them.
-- No reader has to believe it: the proofs of `UseTable` tie it to `Uses`.
use Rattle.std.specs.Prelude.{ℕ, ◌-◌, ◌<◌, ◌≤◌, List, [], ◌∷◌, length, take, drop, map, Vec, slice_index_or}
use Rattle.std.specs.Global.{Global}
use Rattle.syntax.specs.Lists.{In}

-- each ticket is less than those behind it
abbrev pub Ascends : List ℕ → Type 0
Ascends [] = Unit {0}
Ascends (t ∷ ts) = ((u : ℕ) → In u ts → t < u) × Ascends ts

-- the first n tickets are less than the bound, and no others
pub record Parts (ts : List ℕ) (bound n : ℕ) : Type 0 where
  pub within : n ≤ length ts
  pub below : (t : ℕ) → In t (take n ts) → t < bound
  pub above : (t : ℕ) → In t (drop n ts) → bound ≤ t

-- the first n tickets are less than the bound
abbrev pub AllBelow : List ℕ → ℕ → ℕ → Type 0
AllBelow ts n bound = (t : ℕ) → In t (take n ts) → t < bound

-- from the last of the first n tickets on none is less than the bound
pub record LastNotBelow (ts : List ℕ) (n bound : ℕ) : Type 0 where
  pub some : 0 < n
  pub above : (t : ℕ) → In t (drop (n - 1) ts) → bound ≤ t

-- t is the greatest of these tickets that is less than `below`
pub record LastBelow (ts : List ℕ) (below t : ℕ) : Type 0 where
  pub inside : In t ts
  pub less : t < below
  pub last : (u : ℕ) → In u ts → u < below → u ≤ t

-- t is the least of these tickets, from `from` on, that is less than `below`
pub record FirstFrom (ts : List ℕ) (from below t : ℕ) : Type 0 where
  pub inside : In t ts
  pub starts : from ≤ t
  pub less : t < below
  pub first : (u : ℕ) → In u ts → from ≤ u → u < below → t ≤ u

-- the tickets of each row
abbrev pub rows_of : List (Vec ℕ Global) → List (List ℕ)
rows_of = map (λ (row : Vec ℕ Global). row.items)

-- those of each row ascend
abbrev pub AllAscend : List (Vec ℕ Global) → Type 0
AllAscend rows = (x : ℕ) → Ascends (slice_index_or (rows_of rows) x [])
