-- What is left of two addresses behind their longest common beginning.
-- No reader has to believe it: `proofs/First.antt` ties it to `Before` of `public/Places.antt`.
use Rattle.std.specs.Prelude.{ℕ, Option, Some, None, ◌≡◌, ◌≢◌, List, [], ◌∷◌, ◌++◌}
use Rattle.address.specs.declared.Entry.{Entry}
use Rattle.address.specs.declared.Entry.TheVariants.{Ordered, Branch}

-- not both have a first entry, or the two first entries differ
abbrev pub FirstsDiffer : List Entry → List Entry → Type 0
FirstsDiffer [] _ = Unit {0}
FirstsDiffer (_ ∷ _) [] = Unit {0}
FirstsDiffer (x ∷ _) (y ∷ _) = x ≢ y

-- `c` and `d` are left of `a` and of `b` after their longest common beginning
abbrev pub AfterCommon : (a b c d : List Entry) → Type 0
AfterCommon a b c d = (p : List Entry) × (a ≡ p ++ c) × (b ≡ p ++ d) × FirstsDiffer c d

-- the number of the first entry, if there is one and it is ordered
abbrev pub first_number_of : List Entry → Option ℕ
first_number_of [] = None
first_number_of (Ordered i ∷ _) = Some i
first_number_of (Branch _ ∷ _) = None
