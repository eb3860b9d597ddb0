-- One total order of all addresses.
use Rattle.std.specs.Prelude.{◌≡◌, ◌⊎◌, ◌↔◌, List, [], ◌∷◌}
use Rattle.std.specs.Ordering.{nat_cmp, ordering_then, ordering_reverse}
use Rattle.std.specs.declared.cmp.Ordering.{Ordering}
use Rattle.std.specs.declared.cmp.Ordering.TheVariants.{Less, Equal, Greater}
use Rattle.address.specs.declared.Entry.{Entry}
use Rattle.address.specs.declared.Entry.TheVariants.{Ordered, Branch}
use Rattle.address.specs.Places.{Before}

-- each ordered number before each branch, and then by the number
abbrev pub entry_order : Entry → Entry → Ordering
entry_order (Ordered i) (Ordered j) = nat_cmp i j
entry_order (Ordered _) (Branch _) = Less
entry_order (Branch _) (Ordered _) = Greater
entry_order (Branch i) (Branch j) = nat_cmp i j

-- entry by entry, and a beginning before what goes on from it
abbrev pub order_of : List Entry → List Entry → Ordering
order_of [] [] = Equal
order_of [] (y ∷ b) = Less
order_of (x ∷ a) [] = Greater
order_of (x ∷ a) (y ∷ b) = ordering_then (entry_order x y) (order_of a b)

-- only equal addresses are in one place of the order
abbrev pub TiesAreEqual : Type 0
TiesAreEqual = (a b : List Entry) → (order_of a b ≡ Equal) ↔ (a ≡ b)

-- seen from the other side the answer is turned round
abbrev pub IsAntisymmetric : Type 0
IsAntisymmetric = (a b : List Entry) → order_of a b ≡ ordering_reverse (order_of b a)

-- what is less than a lesser one is less
abbrev pub IsTransitive : Type 0
IsTransitive = (a b c : List Entry) → order_of a b ≡ Less → order_of b c ≡ Less → order_of a c ≡ Less

-- of two addresses one is less, or they are equal
abbrev pub IsTotal : Type 0
IsTotal = (a b : List Entry) → (order_of a b ≡ Less) ⊎ (order_of b a ≡ Less) ⊎ (a ≡ b)

-- what comes before in a sequence is less
abbrev pub ExtendsBefore : Type 0
ExtendsBefore = (a b : List Entry) → Before a b → order_of a b ≡ Less
