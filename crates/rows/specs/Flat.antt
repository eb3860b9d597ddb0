-- Rows as one list.
use Rattle.std.specs.Prelude.{◌≡◌, ℕ, ◌+◌, ◌<◌, List, [], ◌∷◌, ◌++◌, length, take, Some, slice_get}
use Rattle.rows.specs.declared.row.Row.{Row}

-- the items of all rows, one row after the other
abbrev pub flat : {X : Type 0} → List (Row X) → List X
flat [] = []
flat (r ∷ rs) = r.items.items ++ flat rs

-- the item at this index of all stands at this place of the row of this number
pub record HoldsIndex {X : Type 0} (rows : List (Row X)) (index number place : ℕ) : Type 0 where
  pub row : Row X
  pub at : slice_get rows number ≡ Some row
  pub sum : length (flat (take number rows)) + place ≡ index
  pub less : place < length row.items.items
