-- The order of addresses is total: the law that their comparison traits cite.
-- No reader has to believe it: it is proofs, of `order_of` in `Order.antt`.
use Rattle.std.specs.Prelude.{◌≡◌, List, [], ◌∷◌, refl}
use Rattle.std.proofs.Common.{ap, subst, true≢false}
use Rattle.std.specs.declared.cmp.Ordering.TheVariants.{Less, Equal, Greater}
use Rattle.std.specs.Cmp.{IsTotalOrder}
use Rattle.std.specs.Cmp.Lexicographic.{slice_cmp, lists_total}
use Rattle.std.specs.Ordering.{ordering_then, ordering_reverse, is_lt, is_gt}
use Rattle.std.proofs.lemmas.Cmp.{nat_cmp_total}
use Rattle.address.specs.declared.Entry.{Entry}
use Rattle.address.specs.declared.Entry.TheVariants.{Ordered, Branch}
use Rattle.address.specs.Order.{entry_order, order_of}

-- `Greater` is not `Less`
pub greater-not-less : Greater ≡ Less → ⊥
greater-not-less e = true≢false (ap is_gt e)

-- `Less` is not `Equal`
pub less-not-equal : Less ≡ Equal → ⊥
less-not-equal e = true≢false (ap is_lt e)

-- `Greater` is not `Equal`
pub greater-not-equal : Greater ≡ Equal → ⊥
greater-not-equal e = true≢false (ap is_gt e)

-- two entries from the other side
entry-antisymmetric : (x y : Entry) → entry_order x y ≡ ordering_reverse (entry_order y x)
entry-antisymmetric (Ordered i) (Ordered j) = nat_cmp_total.antisymm i j
entry-antisymmetric (Branch i) (Branch j) = nat_cmp_total.antisymm i j
entry-antisymmetric (Ordered i) (Branch j) = refl
entry-antisymmetric (Branch i) (Ordered j) = refl

-- three entries
entry-transitive : (x y z : Entry) → entry_order x y ≡ Less → entry_order y z ≡ Less → entry_order x z ≡ Less
entry-transitive (Ordered i) (Ordered j) (Ordered k) h l = nat_cmp_total.trans i j k h l
entry-transitive (Branch i) (Branch j) (Branch k) h l = nat_cmp_total.trans i j k h l
entry-transitive (Ordered i) y (Branch k) h l = refl
entry-transitive (Ordered i) (Branch j) (Ordered k) h l = absurd (greater-not-less l)
entry-transitive (Branch i) (Branch j) (Ordered k) h l = absurd (greater-not-less l)
entry-transitive (Branch i) (Ordered j) z h l = absurd (greater-not-less h)

-- entries that are tied stand to others in one way
entry-tied : (x y z : Entry) → entry_order x y ≡ Equal → entry_order x z ≡ entry_order y z
entry-tied (Ordered i) (Ordered j) (Ordered k) h = nat_cmp_total.congr i j k h
entry-tied (Branch i) (Branch j) (Branch k) h = nat_cmp_total.congr i j k h
entry-tied (Ordered i) (Ordered j) (Branch k) h = refl
entry-tied (Branch i) (Branch j) (Ordered k) h = refl
entry-tied (Ordered i) (Branch j) z h = absurd (less-not-equal h)
entry-tied (Branch i) (Ordered j) z h = absurd (greater-not-equal h)

-- the order of entries is total
entry-total : IsTotalOrder entry_order
entry-total = record { antisymm = entry-antisymmetric; trans = entry-transitive; congr = entry-tied }

-- the order of addresses is std's order of lists
order-is : (a b : List Entry) → slice_cmp entry_order a b ≡ order_of a b
order-is [] [] = refl
order-is [] (y ∷ b) = refl
order-is (x ∷ a) [] = refl
order-is (x ∷ a) (y ∷ b) = ap (λ o. ordering_then (entry_order x y) o) (order-is a b)

-- the order of addresses is total, in std's words
pub order_of-total : IsTotalOrder order_of
order_of-total = subst IsTotalOrder (λ i a b. order-is a b i) (lists_total entry-total)
