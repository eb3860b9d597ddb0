-- Which places come before one, entry by entry, by the order of all places.
use Rattle.std.proofs.Common.{◌≡◌, ◌⊎◌, inl, inr, ℕ, ◌<◌, List, [], ◌∷◌, ◌++◌, refl, sym, ◌∙◌, ap, subst, arith, Ordering, Less, Equal, Greater}
use Rattle.std.specs.Ordering.{nat_cmp, ordering_then}
use Rattle.std.proofs.lemmas.Cmp.{nat_cmp_total, tied_itself, ranked}
use Rattle.address.specs.Places.{Before}
use Rattle.address.specs.Order.{order_of}
use Rattle.address.specs.declared.Entry.{Entry}
use Rattle.address.specs.declared.Entry.TheVariants.{Ordered, Branch}
use Rattle.address.specs.internal.OrderLaws.{greater-not-less, less-not-equal}
use Rattle.address.proofs.public.Places.{before-end}
use Rattle.runs.specs.Moves.{Place}

-- one number is less, or both are one and what follows decides
then-less : (i j : ℕ) (o : Ordering) → ordering_then (nat_cmp i j) o ≡ Less → (i < j) ⊎ ((i ≡ j) × (o ≡ Less))
then-less i j o h = pick (nat_cmp i j) refl h
  where
    pick : (r : Ordering) → nat_cmp i j ≡ r → ordering_then r o ≡ Less → (i < j) ⊎ ((i ≡ j) × (o ≡ Less))
    pick Less is g = inl (ranked i j Less (sym is))
    pick Equal is g = inr (ranked i j Equal (sym is), g)
    pick Greater is g = absurd (greater-not-less g)

same-then : (i j : ℕ) (o : Ordering) → i ≡ j → ordering_then (nat_cmp j i) o ≡ o
same-then i j o e = ap (λ p. ordering_then p o) (subst (λ k. nat_cmp k i ≡ Equal) e (tied_itself nat_cmp_total i))

end-not-less : (b : Place) → order_of b [] ≡ Less → ⊥
end-not-less [] h = less-not-equal (sym h)
end-not-less (y ∷ b) h = greater-not-less h

-- with an entry more
pub before-more : (b p : Place) (x : Entry) → Before b p → Before b (p ++ x ∷ [])
before-more [] p x h = absurd h
before-more (y ∷ b) [] x h = absurd h
before-more (Ordered i ∷ b) (Ordered j ∷ p) x h = elim h [ inl less ↦ inl less | inr same ↦ inr (same.0, before-more b p x same.1) ]
before-more (Branch i ∷ b) (Branch j ∷ p) x h = (h.0, before-more b p x h.1)
before-more (Ordered i ∷ b) (Branch j ∷ p) x h = absurd h
before-more (Branch i ∷ b) (Ordered j ∷ p) x h = absurd h

-- at the number of a branch none parts from it that is before it
pub branch-none : (b p : Place) (n : ℕ) → Before b (p ++ Branch n ∷ []) → Before b p
branch-none [] p n h = absurd h
branch-none (Ordered i ∷ b) [] n h = absurd h
branch-none (Branch i ∷ b) [] n h = absurd (before-end b h.1)
branch-none (Ordered i ∷ b) (Ordered j ∷ p) n h = elim h [ inl less ↦ inl less | inr same ↦ inr (same.0, branch-none b p n same.1) ]
branch-none (Branch i ∷ b) (Branch j ∷ p) n h = (h.0, branch-none b p n h.1)
branch-none (Ordered i ∷ b) (Branch j ∷ p) n h = absurd h
branch-none (Branch i ∷ b) (Ordered j ∷ p) n h = absurd h

-- what parts from it at a number in a sequence goes on from what stands before
pub ordered-some : (b p : Place) (n : ℕ) → Before b (p ++ Ordered n ∷ []) → Before b p ⊎ (order_of p b ≡ Less)
ordered-some [] p n h = absurd h
ordered-some (y ∷ b) [] n h = inr refl
ordered-some (Ordered i ∷ b) (Ordered j ∷ p) n h =
    elim h [
      | inl less ↦ inl (inl less)
      | inr same ↦ elim (ordered-some b p n same.1) [
        | inl before ↦ inl (inr (same.0, before))
        | inr less ↦ inr (same-then i j (order_of p b) same.0 ∙ less)
      ]
    ]
ordered-some (Branch i ∷ b) (Branch j ∷ p) n h =
    elim (ordered-some b p n h.1) [
      | inl before ↦ inl (h.0, before)
      | inr less ↦ inr (same-then i j (order_of p b) h.0 ∙ less)
    ]
ordered-some (Ordered i ∷ b) (Branch j ∷ p) n h = absurd h
ordered-some (Branch i ∷ b) (Ordered j ∷ p) n h = absurd h

-- and all that lie between are before it
pub between-before : (b p : Place) (n : ℕ) → order_of p b ≡ Less → order_of b (p ++ Ordered n ∷ []) ≡ Less → Before b (p ++ Ordered n ∷ [])
between-before [] [] n low high = absurd (less-not-equal (sym low))
between-before [] (x ∷ p) n low high = absurd (greater-not-less low)
between-before (Ordered i ∷ b) [] n low high =
    elim (then-less i n (order_of b []) high) [ inl less ↦ inl less | inr same ↦ absurd (end-not-less b same.1) ]
between-before (Branch i ∷ b) [] n low high = absurd (greater-not-less high)
between-before (Ordered i ∷ b) (Ordered j ∷ p) n low high =
    elim (then-less i j (order_of b (p ++ Ordered n ∷ [])) high) [
      | inl less ↦ inl less
      | inr same ↦ elim (then-less j i (order_of p b) low) [
        | inl less ↦ let is = same.0 in absurd (omega arith)
        | inr other ↦ inr (same.0, between-before b p n other.1 same.1)
      ]
    ]
between-before (Branch i ∷ b) (Branch j ∷ p) n low high =
    elim (then-less i j (order_of b (p ++ Ordered n ∷ [])) high) [
      | inl less ↦ elim (then-less j i (order_of p b) low) [
        | inl more ↦ absurd (omega arith)
        | inr other ↦ let is = other.0 in absurd (omega arith)
      ]
      | inr same ↦ elim (then-less j i (order_of p b) low) [
        | inl less ↦ let is = same.0 in absurd (omega arith)
        | inr other ↦ (same.0, between-before b p n other.1 same.1)
      ]
    ]
between-before (Ordered i ∷ b) (Branch j ∷ p) n low high = absurd (greater-not-less low)
between-before (Branch i ∷ b) (Ordered j ∷ p) n low high = absurd (greater-not-less high)
