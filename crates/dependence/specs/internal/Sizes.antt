-- How much stands in a branch.
-- No reader has to believe it: it shows that a walk down the branches ends.
use Rattle.std.specs.Prelude.{ℕ, ◌+◌, List, [], ◌∷◌, length}
use Rattle.address.specs.declared.Entry.{Entry}

-- the entries of all places, and one for each
abbrev pub entries_of : List (List Entry × ℕ) → ℕ
entries_of [] = 0
entries_of (e ∷ es) = length e.0 + 1 + entries_of es
