-- The laws of the order of addresses.
use Rattle.std.proofs.Common.{◌≡◌, ℕ, ◌<◌, ◌⊎◌, ◌↔◌, Bool, true, List, [], ◌∷◌, sym, refl, ap, ◌∙◌, subst, inl, inr, true≢false, lt-ltb, IsTrue, Ordering, Less, Equal, Greater}
use Rattle.std.specs.Ordering.{nat_cmp, ordering_then, ordering_reverse, is_eq, MatchOrdering, eq_by_cmp}
use Rattle.std.proofs.lemmas.Cmp.{nat_cmp_total, tied_itself, ranked}
use Rattle.std.proofs.lemmas.Bool.Decides.{same_from_decides}
use Rattle.address.specs.declared.Entry.{Entry}
use Rattle.address.specs.declared.Entry.TheVariants.{Ordered, Branch}
use Rattle.address.specs.internal.OrderLaws.{order_of-total, less-not-equal, greater-not-equal}
use Rattle.address.specs.Order.{entry_order, order_of, TiesAreEqual, IsAntisymmetric, IsTransitive, IsTotal, ExtendsBefore}

-- numbers that are tied are equal
number-ties : (i j : ℕ) → nat_cmp i j ≡ Equal → i ≡ j
number-ties i j h = subst (λ o. MatchOrdering o (i < j) (i ≡ j) (j < i)) h (ranked i j (nat_cmp i j) refl)

-- entries that are tied are equal
entry-ties : (x y : Entry) → entry_order x y ≡ Equal → x ≡ y
entry-ties (Ordered i) (Ordered j) h = ap Ordered (number-ties i j h)
entry-ties (Branch i) (Branch j) h = ap Branch (number-ties i j h)
entry-ties (Ordered i) (Branch j) h = absurd (less-not-equal h)
entry-ties (Branch i) (Ordered j) h = absurd (greater-not-equal h)

-- an answer that goes on to a second is tied only where both are
both-tied : (o p : Ordering) → ordering_then o p ≡ Equal → (o ≡ Equal) × (p ≡ Equal)
both-tied Less p h = absurd (less-not-equal h)
both-tied Equal p h = (refl, h)
both-tied Greater p h = absurd (greater-not-equal h)

-- addresses that are tied are equal
pub order-ties : (a b : List Entry) → order_of a b ≡ Equal → a ≡ b
order-ties [] [] h = refl
order-ties [] (y ∷ b) h = absurd (less-not-equal h)
order-ties (x ∷ a) [] h = absurd (greater-not-equal h)
order-ties (x ∷ a) (y ∷ b) h =
    let tied : (entry_order x y ≡ Equal) × (order_of a b ≡ Equal) = both-tied (entry_order x y) (order_of a b) h in
    ap (λ z. z ∷ a) (entry-ties x y tied.0) ∙ ap (λ c. y ∷ c) (order-ties a b tied.1)

-- each address is tied with itself
pub order-itself : (a : List Entry) → order_of a a ≡ Equal
order-itself a = tied_itself order_of-total a

-- only equal addresses are in one place of the order
pub ties-are-equal : TiesAreEqual
ties-are-equal a b = (order-ties a b, λ e. subst (λ c. order_of a c ≡ Equal) e (order-itself a))

-- seen from the other side the answer is turned round
pub order-antisymmetric : IsAntisymmetric
order-antisymmetric a b = order_of-total.antisymm a b

-- what is less than a lesser one is less
pub order-transitive : IsTransitive
order-transitive a b c h l = order_of-total.trans a b c h l

-- the three answers
three-answers : (a b : List Entry) (o : Ordering) → order_of a b ≡ o
    → (order_of a b ≡ Less) ⊎ (order_of b a ≡ Less) ⊎ (a ≡ b)
three-answers a b Less e = inl e
three-answers a b Equal e = inr (inr (order-ties a b e))
three-answers a b Greater e = inr (inl (order_of-total.antisymm b a ∙ ap ordering_reverse e))

-- of two addresses one is less, or they are equal
pub order-total : IsTotal
order-total a b = three-answers a b (order_of a b) refl

-- a lesser number is less
number-less : (i j : ℕ) → i < j → nat_cmp i j ≡ Less
number-less i j h = rw (lt-ltb i j h) refl

-- an equal number goes on to what follows
number-same : (i j : ℕ) (o : Ordering) → i ≡ j → ordering_then (nat_cmp i j) o ≡ o
number-same i j o e =
    ap (λ p. ordering_then p o) (subst (λ k. nat_cmp i k ≡ Equal) e (tied_itself nat_cmp_total i))

-- what comes before in a sequence is less
pub before-is-less : ExtendsBefore
before-is-less [] b h = absurd h
before-is-less (x ∷ a) [] h = absurd h
before-is-less (Ordered i ∷ a) (Ordered j ∷ b) h =
    elim h [
      | inl l ↦ ap (λ o. ordering_then o (order_of a b)) (number-less i j l)
      | inr m ↦ number-same i j (order_of a b) m.0 ∙ before-is-less a b m.1
    ]
before-is-less (Branch i ∷ a) (Branch j ∷ b) h = number-same i j (order_of a b) h.0 ∙ before-is-less a b h.1
before-is-less (Ordered i ∷ a) (Branch j ∷ b) h = absurd h
before-is-less (Branch i ∷ a) (Ordered j ∷ b) h = absurd h

-- the answer `Equal`
is-equal : (o : Ordering) → is_eq o ≡ true → o ≡ Equal
is-equal Less h = absurd (true≢false (sym h))
is-equal Equal h = refl
is-equal Greater h = absurd (true≢false (sym h))

-- a test of equality is the tie of the order
pub equal-is-tie : (a b : List Entry) (r : Bool) → IsTrue r ↔ (a ≡ b) → r ≡ eq_by_cmp order_of a b
equal-is-tie a b r h =
    same_from_decides r (eq_by_cmp order_of a b) h
    (λ t. order-ties a b (is-equal (order_of a b) t), λ e. ap is_eq ((ties-are-equal a b).1 e))
