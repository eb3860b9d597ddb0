-- Lanes. (Own: what is drawn as one line of a run.)
use Rattle.std.specs.Prelude.{ℕ, zero, suc, ◌≢◌, List, [], ◌∷◌}
use Rattle.address.specs.declared.Entry.{Entry}
use Rattle.address.specs.declared.Entry.TheVariants.{Ordered, Branch}
use Rattle.address.specs.Places.{Apart}

-- the branch numbers of a place, from the root
abbrev pub branch_numbers : List Entry → List ℕ
branch_numbers [] = []
branch_numbers (Ordered n ∷ a) = branch_numbers a
branch_numbers (Branch n ∷ a) = n ∷ branch_numbers a

-- a number before others; a zero before none is left out
abbrev pub before_others : ℕ → List ℕ → List ℕ
before_others zero [] = []
before_others (suc n) [] = suc n ∷ []
before_others n (m ∷ ns) = n ∷ m ∷ ns

-- the numbers without the zeros at the end
abbrev pub without_zeros : List ℕ → List ℕ
without_zeros [] = []
without_zeros (n ∷ ns) = before_others n (without_zeros ns)

-- the same, but the first number stays
abbrev pub trimmed : List ℕ → List ℕ
trimmed [] = []
trimmed (n ∷ ns) = n ∷ without_zeros ns

-- the lane of a place
abbrev pub lane_of : List Entry → List ℕ
lane_of a = trimmed (branch_numbers a)

-- two places that are apart lie in different lanes
abbrev pub ApartInLanes : Type 0
ApartInLanes = (a b : List Entry) → Apart a b → lane_of a ≢ lane_of b
