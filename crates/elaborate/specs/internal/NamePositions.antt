-- For each name of a list the first position at which it stands.
-- No reader has to believe it: `proofs/LookupLemmas.antt` ties it to `kind_named` and `entry_named` of `Fit.antt`.
use Rattle.std.specs.Prelude.{ℕ, ◌+◌, nat_eq, List, [], ◌∷◌, ◌++◌, Option, Some, None, is_some, if◌then◌else◌}
use Rattle.std.specs.Cmp.Lexicographic.{pointwise}

-- names, each with its position
abbrev pub Positions : Type 0
Positions = List (List ℕ × ℕ)

-- the position of the name
abbrev pub position_at : Positions → List ℕ → Option ℕ
position_at [] name = None
position_at (entry ∷ rest) name = if pointwise nat_eq name entry.0 then Some entry.1 else position_at rest name

-- with one name more: a name that has a position keeps it
abbrev pub with_name : Positions → List ℕ → ℕ → Positions
with_name placed name position = if is_some (position_at placed name) then placed else placed ++ (name, position) ∷ []

-- with these names more, the first of which stands at this position
abbrev pub noted_from : Positions → ℕ → List (List ℕ) → Positions
noted_from placed position [] = placed
noted_from placed position (name ∷ names) = noted_from (with_name placed name position) (position + 1) names

-- the names of a list
abbrev pub positions_of : List (List ℕ) → Positions
positions_of names = noted_from [] 0 names
