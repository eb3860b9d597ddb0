-- The search for two uses that clash.
-- No reader has to believe it: the contract of `other_use` ties it to `Clash` of the rule on sharing.
use Rattle.std.specs.Prelude.{◌==◌, ◌||◌, ◌&&◌, ℕ, List, [], ◌∷◌, Bool, true, false, not, Option, None, Some}
use Rattle.address.specs.declared.Entry.{Entry}
use Rattle.address.specs.declared.Entry.TheVariants.{Ordered, Branch}
use Rattle.system.specs.declared.system.System.{System}
use Rattle.sharing_rule.specs.Rule.{is_shared}
use Rattle.sharing_check.specs.Uses.{VariableUse}
use Rattle.clash_places.specs.declared.pairs.OtherUse.{OtherUse}

-- how two entries at one depth stand: they are one, or they are two branches, or neither
abbrev pub is_same : Entry → Entry → Bool
is_same (Ordered i) (Ordered j) = i == j
is_same (Branch i) (Branch j) = i == j
is_same (Ordered i) (Branch j) = false
is_same (Branch i) (Ordered j) = false

abbrev pub are_branches : Entry → Entry → Bool
are_branches (Branch i) (Branch j) = not (i == j)
are_branches (Ordered i) e = false
are_branches (Branch i) (Ordered j) = false

-- whether two ways part at branches
abbrev pub are_apart : List Entry → List Entry → Bool
are_apart [] b = false
are_apart (x ∷ a) [] = false
are_apart (x ∷ a) (y ∷ b) = are_branches x y || (is_same x y && are_apart a b)

-- whether two uses clash
abbrev pub is_clash : System → VariableUse → VariableUse → Bool
is_clash system u v =
    (u.variable == v.variable)
    && ((u.writes || v.writes) && (not (is_shared system u.variable) && are_apart u.place v.place))

-- what is told of a use
abbrev pub other_use_of : VariableUse → OtherUse
other_use_of v = record { offset = v.offset; writes = v.writes }

-- the use, if it clashes, else what the rest tells
abbrev pub first_of_two : Bool → VariableUse → Option OtherUse → Option OtherUse
first_of_two true v rest = Some (other_use_of v)
first_of_two false v rest = rest

-- the first of some uses that clashes with one
abbrev pub against : System → VariableUse → List VariableUse → Option OtherUse
against system u [] = None
against system u (v ∷ vs) = first_of_two (is_clash system u v) v (against system u vs)

-- what is told of a use, if it stands at the offset
abbrev pub asked : Bool → Option OtherUse → Option OtherUse
asked true found = found
asked false found = None

-- what the first tells, if it does, else what the second tells
abbrev pub or_else : Option OtherUse → Option OtherUse → Option OtherUse
or_else (Some other) rest = Some other
or_else None rest = rest

-- the first clash of a use at the offset with one of all
abbrev pub first_clash : System → ℕ → List VariableUse → List VariableUse → Option OtherUse
first_clash system offset all [] = None
first_clash system offset all (u ∷ us) =
    or_else (asked (u.offset == offset) (against system u all)) (first_clash system offset all us)
