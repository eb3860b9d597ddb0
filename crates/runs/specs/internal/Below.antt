-- The parts of a place, as the code takes it apart, and whether two places are apart.
-- No reader has to believe it: the proofs tie it to the answers by places of `ByPlace.antt`, and
-- `proofs/public/Made.antt` the test to `Apart`.
use Rattle.std.specs.Prelude.{ℕ, ◌==◌, [], ◌∷◌, Bool, true, false, cond, Option, Some, None, not, ◌&&◌, ◌||◌}
use Rattle.address.specs.declared.Entry.TheVariants.{Ordered, Branch}
use Rattle.runs.specs.Moves.{Place}

-- the place below child n of a sequence
abbrev pub below_child : ℕ → Place → Option Place
below_child n [] = None
below_child n (Ordered i ∷ a) = cond (i == n) (Some a) None
below_child n (Branch i ∷ a) = None

-- the place below branch n of a parallel
abbrev pub below_branch : ℕ → Place → Option Place
below_branch n [] = None
below_branch n (Ordered i ∷ a) = None
below_branch n (Branch i ∷ a) = cond (i == n) (Some a) None

-- the number of the act that the place is
abbrev pub act_of : Place → Option ℕ
act_of [] = None
act_of (Ordered i ∷ []) = Some i
act_of (Ordered i ∷ x ∷ a) = None
act_of (Branch i ∷ a) = None

-- whether there is a number, and it is n
abbrev pub is_number : ℕ → Option ℕ → Bool
is_number n None = false
is_number n (Some i) = i == n

-- whether the place is act n
abbrev pub is_act : ℕ → Place → Bool
is_act n a = is_number n (act_of a)

-- whether the place is the command's own
abbrev pub is_here : Place → Bool
is_here [] = true
is_here (x ∷ a) = false

-- whether at the first place at which they differ both entries are branch numbers
abbrev pub apart : Place → Place → Bool
apart [] b = false
apart (x ∷ a) [] = false
apart (Ordered i ∷ a) (Ordered j ∷ b) = (i == j) && apart a b
apart (Ordered i ∷ a) (Branch j ∷ b) = false
apart (Branch i ∷ a) (Ordered j ∷ b) = false
apart (Branch i ∷ a) (Branch j ∷ b) = not (i == j) || apart a b
