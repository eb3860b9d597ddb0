-- How many entries two places share.
-- No reader has to believe it: the proofs of `search` tie it to the order of places.
use Rattle.std.specs.Prelude.{◌≡◌, ℕ, zero, suc, Bool, true, false, Option, Some, None, List, [], ◌∷◌}
use Rattle.address.specs.declared.Entry.{Entry}
use Rattle.address.specs.declared.Entry.TheVariants.{Ordered, Branch}
use Rattle.address.specs.internal.Common.{FirstsDiffer}

-- the first n entries are the same, and the lists end or differ behind them
abbrev pub IsFork : ℕ → List Entry → List Entry → Type 0
IsFork zero a b = FirstsDiffer a b
IsFork (suc n) [] b = ⊥
IsFork (suc n) (x ∷ a) [] = ⊥
IsFork (suc n) (x ∷ a) (y ∷ b) = (x ≡ y) × IsFork n a b

-- both have n entries at least, and the first n are the same
abbrev pub Shares : ℕ → List Entry → List Entry → Type 0
Shares zero a b = Unit {0}
Shares (suc n) [] b = ⊥
Shares (suc n) (x ∷ a) [] = ⊥
Shares (suc n) (x ∷ a) (y ∷ b) = (x ≡ y) × Shares n a b

-- whether there is an entry and it is ordered
abbrev pub is_ordered_entry : Option Entry → Bool
is_ordered_entry None = false
is_ordered_entry (Some (Ordered i)) = true
is_ordered_entry (Some (Branch i)) = false
