-- Where places part, and what that says of their order.
use Rattle.std.proofs.Common.{◌≡◌, ◌⊎◌, inl, inr, ℕ, zero, suc, ◌<◌, ◌≤◌, Bool, true, false, List, [], ◌∷◌, length, take, drop, get_or, drop-cons, drop_of_length-le, refl, sym, ap, subst, ◌∙◌, true≢false, arith, Ordering, Less, Equal, Greater}
use Rattle.std.specs.Ordering.{is_lt, nat_cmp, ordering_then, MatchOrdering}
use Rattle.std.proofs.lemmas.Cmp.{nat_cmp_total, tied_itself, ranked}
use Rattle.address.specs.declared.Entry.{Entry}
use Rattle.address.specs.declared.Entry.TheVariants.{Ordered, Branch}
use Rattle.address.specs.Order.{entry_order, order_of}
use Rattle.address.specs.internal.OrderLaws.{less-not-equal, greater-not-equal, greater-not-less}
use Rattle.address.specs.internal.Common.{FirstsDiffer}
use Rattle.address.specs.contracts.EntryOrd.TheImpl.{cmp-value}
use Rattle.address.specs.contracts.EntryPartialEq.TheImpl.{eq-value}
use Rattle.address.proofs.public.Entries.{entry_eq-Decides}
use Rattle.address.proofs.public.Places.{head-injective, tail-injective}
use Rattle.dependence.specs.internal.Forks.{IsFork, Shares}

-- ---- the order, entry by entry
pub number-less : (i j : ℕ) → nat_cmp i j ≡ Less → i < j
number-less i j h = subst (λ o. MatchOrdering o (i < j) (i ≡ j) (j < i)) h (ranked i j (nat_cmp i j) refl)

pub number-ties : (i j : ℕ) → nat_cmp i j ≡ Equal → i ≡ j
number-ties i j h = subst (λ o. MatchOrdering o (i < j) (i ≡ j) (j < i)) h (ranked i j (nat_cmp i j) refl)

pub number-more : (i j : ℕ) → nat_cmp i j ≡ Greater → j < i
number-more i j h = subst (λ o. MatchOrdering o (i < j) (i ≡ j) (j < i)) h (ranked i j (nat_cmp i j) refl)

less-number-of : (i j : ℕ) (o : Ordering) → nat_cmp i j ≡ o → i < j → nat_cmp i j ≡ Less
less-number-of i j Less e h = e
less-number-of i j Equal e h = let is : i ≡ j = number-ties i j e in absurd (omega arith)
less-number-of i j Greater e h =
    let back : j < i = subst (λ o. MatchOrdering o (i < j) (i ≡ j) (j < i)) e (ranked i j (nat_cmp i j) refl) in absurd (omega arith)

pub less-number : (i j : ℕ) → i < j → nat_cmp i j ≡ Less
less-number i j h = less-number-of i j (nat_cmp i j) refl h

entry-ties : (x y : Entry) → entry_order x y ≡ Equal → x ≡ y
entry-ties (Ordered i) (Ordered j) h = ap Ordered (number-ties i j h)
entry-ties (Branch i) (Branch j) h = ap Branch (number-ties i j h)
entry-ties (Ordered i) (Branch j) h = absurd (less-not-equal h)
entry-ties (Branch i) (Ordered j) h = absurd (greater-not-equal h)

pub entry-itself : (x : Entry) → entry_order x x ≡ Equal
entry-itself (Ordered i) = tied_itself nat_cmp_total i
entry-itself (Branch i) = tied_itself nat_cmp_total i

then-less : (o p : Ordering) → ordering_then o p ≡ Less → (o ≡ Less) ⊎ ((o ≡ Equal) × (p ≡ Less))
then-less Less p h = inl refl
then-less Equal p h = inr (refl, h)
then-less Greater p h = absurd (greater-not-less h)

-- the first entry is less, or the same and the rest is less
pub less-parts : (x y : Entry) (a b : List Entry) → order_of (x ∷ a) (y ∷ b) ≡ Less → (entry_order x y ≡ Less) ⊎ ((x ≡ y) × (order_of a b ≡ Less))
less-parts x y a b h = elim (then-less (entry_order x y) (order_of a b) h) [
  | inl less ↦ inl less
  | inr both ↦ inr (entry-ties x y both.0, both.1)
]

pub less-first : (x y : Entry) (a b : List Entry) → entry_order x y ≡ Less → order_of (x ∷ a) (y ∷ b) ≡ Less
less-first x y a b h = ap (λ o. ordering_then o (order_of a b)) h

pub less-rest : (x y : Entry) (a b : List Entry) → x ≡ y → order_of a b ≡ Less → order_of (x ∷ a) (y ∷ b) ≡ Less
less-rest x y a b e h =
    subst (λ (z : Entry). order_of (x ∷ a) (z ∷ b) ≡ Less) e (ap (λ o. ordering_then o (order_of a b)) (entry-itself x) ∙ h)

-- three ways in which two numbers stand
three : (i j : ℕ) (o : Ordering) → nat_cmp i j ≡ o → (i < j) ⊎ (i ≡ j) ⊎ (j < i)
three i j Less e = inl (number-less i j e)
three i j Equal e = inr (inl (number-ties i j e))
three i j Greater e = inr (inr (subst (λ o. MatchOrdering o (i < j) (i ≡ j) (j < i)) e (ranked i j (nat_cmp i j) refl)))

numbers : (i j : ℕ) → (i < j) ⊎ (i ≡ j) ⊎ (j < i)
numbers i j = three i j (nat_cmp i j) refl

-- ---- entries in common
pub shares-back : (n : ℕ) (a b : List Entry) → Shares n a b → Shares n b a
shares-back zero a b h = tt
shares-back (suc n) [] b h = absurd h
shares-back (suc n) (x ∷ a) [] h = absurd h
shares-back (suc n) (x ∷ a) (y ∷ b) h = (sym h.0, shares-back n a b h.1)

pub shares-on : (n : ℕ) (a b c : List Entry) → Shares n a b → Shares n b c → Shares n a c
shares-on zero a b c h k = tt
shares-on (suc n) [] b c h k = absurd h
shares-on (suc n) (x ∷ a) [] c h k = absurd h
shares-on (suc n) (x ∷ a) (y ∷ b) [] h k = absurd k
shares-on (suc n) (x ∷ a) (y ∷ b) (z ∷ c) h k = (h.0 ∙ k.0, shares-on n a b c h.1 k.1)

-- what parts behind n entries shares them
pub fork-shares : (m n : ℕ) (a b : List Entry) → IsFork m a b → n ≤ m → Shares n a b
fork-shares m zero a b f h = tt
fork-shares zero (suc n) a b f h = absurd (omega arith)
fork-shares (suc m) (suc n) [] b f h = absurd f
fork-shares (suc m) (suc n) (x ∷ a) [] f h = absurd f
fork-shares (suc m) (suc n) (x ∷ a) (y ∷ b) f h = let less : n ≤ m = omega arith in (f.0, fork-shares m n a b f.1 less)

-- what lies between two places that share n entries shares them
pub between-shares : (n : ℕ) (s c d : List Entry) → Shares n s d → (order_of c s ≡ Less → ⊥) → order_of c d ≡ Less → Shares n c d
between-shares zero s c d h up low = tt
between-shares (suc n) [] c d h up low = absurd h
between-shares (suc n) (x ∷ s) c [] h up low = absurd h
between-shares (suc n) (x ∷ s) [] (z ∷ d) h up low = absurd (up refl)
between-shares (suc n) (x ∷ s) (y ∷ c) (z ∷ d) h up low =
    elim (less-parts y z c d low) [
      | inl first ↦ absurd (up (less-first y x c s (subst (λ (w : Entry). entry_order y w ≡ Less) (sym h.0) first)))
      | inr both ↦ (both.0, between-shares n s c d h.1 (λ less. up (less-rest y x c s (both.0 ∙ sym h.0) less)) both.1)
    ]

-- ---- where a walk over both entries stops
fork-from : (n : ℕ) (a b : List Entry) → n ≤ length a → n ≤ length b → take n a ≡ take n b → FirstsDiffer (drop n a) (drop n b) → IsFork n a b
fork-from zero a b ha hb same d = d
fork-from (suc n) [] b ha hb same d = absurd (omega arith)
fork-from (suc n) (x ∷ a) [] ha hb same d = absurd (omega arith)
fork-from (suc n) (x ∷ a) (y ∷ b) ha hb same d =
    let one : n ≤ length a = omega arith in
    let two : n ≤ length b = omega arith in
    (head-injective x y (take n a) (take n b) same, fork-from n a b one two (tail-injective x y (take n a) (take n b) same) d)

no-first : (c : List Entry) → FirstsDiffer c []
no-first [] = tt
no-first (x ∷ c) = tt

pub forked-first_end : (a b : List Entry) (k : ℕ) → k ≤ length a → k ≤ length b → take k a ≡ take k b → length a ≤ k → IsFork k a b
forked-first_end a b k ha hb same short =
    fork-from k a b ha hb same (subst (λ c. FirstsDiffer c (drop k b)) (sym (drop_of_length-le a short)) tt)

pub forked-second_end : (a b : List Entry) (k : ℕ) → k ≤ length a → k ≤ length b → take k a ≡ take k b → length b ≤ k → IsFork k a b
forked-second_end a b k ha hb same short =
    fork-from k a b ha hb same (subst (λ d. FirstsDiffer (drop k a) d) (sym (drop_of_length-le b short)) (no-first (drop k a)))

pub forked-differ : (a b : List Entry) (k : ℕ) (d : Entry) (r : Bool) → take k a ≡ take k b → k < length a → k < length b →
    r ≡ eq-value.it (get_or a k d) (get_or b k d) → r ≡ false → IsFork k a b
forked-differ a b k d r same in_a in_b test fails =
    let differ : get_or a k d ≡ get_or b k d → ⊥ =
    λ e. true≢false (sym ((entry_eq-Decides (get_or a k d) (get_or b k d)).1 e) ∙ (sym test ∙ fails)) in
    fork-from k a b (omega arith) (omega arith) same
    (subst (λ c. FirstsDiffer c (drop k b)) (sym (drop-cons a k d in_a))
    (subst (λ c. FirstsDiffer (get_or a k d ∷ drop (suc k) a) c) (sym (drop-cons b k d in_b)) differ))

-- ---- and how two places stand that part there
then-differs : (o p : Ordering) → (o ≡ Equal → ⊥) → is_lt (ordering_then o p) ≡ is_lt o
then-differs Less p h = refl
then-differs Equal p h = absurd (h refl)
then-differs Greater p h = refl

order-behind : (x y : Entry) (a b : List Entry) → x ≡ y → order_of (x ∷ a) (y ∷ b) ≡ order_of a b
order-behind x y a b is =
    ap (λ o. ordering_then o (order_of a b)) (subst (λ (z : Entry). entry_order x z ≡ Equal) is (entry-itself x))

pub parted-second_end : (n : ℕ) (a b : List Entry) → IsFork n a b → length b ≤ n → is_lt (order_of a b) ≡ false
parted-second_end zero [] [] f h = refl
parted-second_end zero (x ∷ a) [] f h = refl
parted-second_end zero [] (y ∷ b) f h = absurd (omega arith)
parted-second_end zero (x ∷ a) (y ∷ b) f h = absurd (omega arith)
parted-second_end (suc n) [] b f h = absurd f
parted-second_end (suc n) (x ∷ a) [] f h = absurd f
parted-second_end (suc n) (x ∷ a) (y ∷ b) f h =
    let short : length b ≤ n = omega arith in ap is_lt (order-behind x y a b f.0) ∙ parted-second_end n a b f.1 short

pub parted-first_end : (n : ℕ) (a b : List Entry) → IsFork n a b → length a ≤ n → n < length b → is_lt (order_of a b) ≡ true
parted-first_end zero [] [] f h k = absurd (omega arith)
parted-first_end zero [] (y ∷ b) f h k = refl
parted-first_end zero (x ∷ a) b f h k = absurd (omega arith)
parted-first_end (suc n) [] b f h k = absurd f
parted-first_end (suc n) (x ∷ a) [] f h k = absurd f
parted-first_end (suc n) (x ∷ a) (y ∷ b) f h k =
    let short : length a ≤ n = omega arith in
    let long : n < length b = omega arith in
    ap is_lt (order-behind x y a b f.0) ∙ parted-first_end n a b f.1 short long

pub parted-inside : (n : ℕ) (a b : List Entry) (d e : Entry) → IsFork n a b → n < length a → n < length b →
    is_lt (order_of a b) ≡ is_lt (entry_order (get_or a n d) (get_or b n e))
parted-inside n [] b d e f h k = absurd (omega arith)
parted-inside n (x ∷ a) [] d e f h k = absurd (omega arith)
parted-inside zero (x ∷ a) (y ∷ b) d e f h k = then-differs (entry_order x y) (order_of a b) (λ is. f (entry-ties x y is))
parted-inside (suc n) (x ∷ a) (y ∷ b) d e f h k =
    let in_a : n < length a = omega arith in
    let in_b : n < length b = omega arith in
    ap is_lt (order-behind x y a b f.0) ∙ parted-inside n a b d e f.1 in_a in_b

pub entry-cmp : (x y : Entry) → cmp-value.it x y ≡ entry_order x y
entry-cmp (Ordered i) (Ordered j) = refl
entry-cmp (Branch i) (Branch j) = refl
entry-cmp (Ordered i) (Branch j) = refl
entry-cmp (Branch i) (Ordered j) = refl

-- ---- what both are known to share
pub shares-fewer : (k n : ℕ) (a b : List Entry) → k ≤ n → Shares n a b → Shares k a b
shares-fewer zero n a b h s = tt
shares-fewer (suc k) zero a b h s = absurd (omega arith)
shares-fewer (suc k) (suc n) [] b h s = absurd s
shares-fewer (suc k) (suc n) (x ∷ a) [] h s = absurd s
shares-fewer (suc k) (suc n) (x ∷ a) (y ∷ b) h s = let less : k ≤ n = omega arith in (s.0, shares-fewer k n a b less s.1)

pub shares-first : (n : ℕ) (a b : List Entry) → Shares n a b → n ≤ length a
shares-first zero a b s = omega arith
shares-first (suc n) [] b s = absurd s
shares-first (suc n) (x ∷ a) [] s = absurd s
shares-first (suc n) (x ∷ a) (y ∷ b) s = let rest : n ≤ length a = shares-first n a b s.1 in omega arith

pub shares-second : (n : ℕ) (a b : List Entry) → Shares n a b → n ≤ length b
shares-second n a b s = shares-first n b a (shares-back n a b s)

pub shares-same : (n : ℕ) (a b : List Entry) → Shares n a b → take n a ≡ take n b
shares-same zero a b s = refl
shares-same (suc n) [] b s = absurd s
shares-same (suc n) (x ∷ a) [] s = absurd s
shares-same (suc n) (x ∷ a) (y ∷ b) s = ap (λ (z : Entry). z ∷ take n a) s.0 ∙ ap (λ (c : List Entry). y ∷ c) (shares-same n a b s.1)
