-- The laws of `Before` and `Apart`.
use Rattle.std.proofs.Common.{◌≡◌, ◌≢◌, ℕ, ◌<◌, ◌⊎◌, ◌↔◌, List, [], ◌∷◌, ◌++◌, sym, refl, ap, ◌∙◌, subst, inl, inr, ⊎_elim, arith, lt_irrefl, lt_trans}
use Rattle.std.proofs.lemmas.Bool.{cases_order, cases_eq}
use Rattle.address.specs.declared.Entry.{Entry}
use Rattle.address.specs.declared.Entry.TheVariants.{Ordered, Branch}
use Rattle.address.specs.Places.{Before, Apart, OrderedFork, BranchFork}

-- no place is before itself
pub before-irreflexive : (a : List Entry) → Before a a → ⊥
before-irreflexive [] h = h
before-irreflexive (Ordered i ∷ a) h =
    elim h [ inl l ↦ lt_irrefl i l | inr e ↦ before-irreflexive a e.1 ]
before-irreflexive (Branch i ∷ a) h = before-irreflexive a h.1

-- no place is apart from itself
pub apart-irreflexive : (a : List Entry) → Apart a a → ⊥
apart-irreflexive [] h = h
apart-irreflexive (Ordered i ∷ a) h = apart-irreflexive a h.1
apart-irreflexive (Branch i ∷ a) h =
    elim h [ inl n ↦ n refl | inr e ↦ apart-irreflexive a e.1 ]

-- nothing is before the root
pub before-end : (a : List Entry) → Before a [] → ⊥
before-end [] h = h
before-end (x ∷ a) h = h

-- of two steps forward in one sequence, the first decides
ordered-transitive : (P Q R : Type 0) (i j k : ℕ) → (P → Q → R)
    → (i < j) ⊎ ((i ≡ j) × P) → (j < k) ⊎ ((j ≡ k) × Q) → (i < k) ⊎ ((i ≡ k) × R)
ordered-transitive P Q R i j k f (inl h) (inl l) = inl (lt_trans h l)
ordered-transitive P Q R i j k f (inl h) (inr l) = let e : j ≡ k = l.0 in inl (omega arith)
ordered-transitive P Q R i j k f (inr h) (inl l) = let e : i ≡ j = h.0 in inl (omega arith)
ordered-transitive P Q R i j k f (inr h) (inr l) = inr (h.0 ∙ l.0, f h.1 l.1)

-- what is before a place is before all that this place is before
pub before-transitive : (a b c : List Entry) → Before a b → Before b c → Before a c
before-transitive [] b c h l = absurd h
before-transitive (x ∷ a) [] c h l = absurd h
before-transitive (x ∷ a) (y ∷ b) [] h l = absurd (before-end (y ∷ b) l)
before-transitive (Ordered i ∷ a) (Ordered j ∷ b) (Ordered k ∷ c) h l =
    ordered-transitive (Before a b) (Before b c) (Before a c) i j k (before-transitive a b c) h l
before-transitive (Branch i ∷ a) (Branch j ∷ b) (Branch k ∷ c) h l =
    (h.0 ∙ l.0, before-transitive a b c h.1 l.1)
before-transitive (Ordered i ∷ a) (Ordered j ∷ b) (Branch k ∷ c) h l = absurd l
before-transitive (Branch i ∷ a) (Branch j ∷ b) (Ordered k ∷ c) h l = absurd l
before-transitive (Ordered i ∷ a) (Branch j ∷ b) (z ∷ c) h l = absurd h
before-transitive (Branch i ∷ a) (Ordered j ∷ b) (z ∷ c) h l = absurd h

-- two places are not each before the other
pub before-asymmetric : (a b : List Entry) → Before a b → Before b a → ⊥
before-asymmetric a b h l = before-irreflexive a (before-transitive a b a h l)

-- what is before a place is not apart from it
pub before-not-apart : (a b : List Entry) → Before a b → Apart a b → ⊥
before-not-apart [] b h l = h
before-not-apart (x ∷ a) [] h l = h
before-not-apart (Ordered i ∷ a) (Ordered j ∷ b) h l =
    let e : i ≡ j = l.0 in
    elim h [ inl n ↦ lt_irrefl j (subst (λ k. k < j) e n) | inr m ↦ before-not-apart a b m.1 l.1 ]
before-not-apart (Branch i ∷ a) (Branch j ∷ b) h l =
    elim l [ inl n ↦ n h.0 | inr m ↦ before-not-apart a b h.1 m.1 ]
before-not-apart (Ordered i ∷ a) (Branch j ∷ b) h l = h
before-not-apart (Branch i ∷ a) (Ordered j ∷ b) h l = h

-- of two places that are apart, each is apart from the other
pub apart-symmetric : (a b : List Entry) → Apart a b → Apart b a
apart-symmetric [] b h = absurd h
apart-symmetric (x ∷ a) [] h = absurd h
apart-symmetric (Ordered i ∷ a) (Ordered j ∷ b) h = (sym h.0, apart-symmetric a b h.1)
apart-symmetric (Branch i ∷ a) (Branch j ∷ b) h =
    elim h [ inl n ↦ inl (λ e. n (sym e)) | inr m ↦ inr (sym m.0, apart-symmetric a b m.1) ]
apart-symmetric (Ordered i ∷ a) (Branch j ∷ b) h = absurd h
apart-symmetric (Branch i ∷ a) (Ordered j ∷ b) h = absurd h

-- what lies below a place is before what lies below a later one
pub before-append : (a b c d : List Entry) → Before a b → Before (a ++ c) (b ++ d)
before-append [] b c d h = absurd h
before-append (x ∷ a) [] c d h = absurd h
before-append (Ordered i ∷ a) (Ordered j ∷ b) c d h =
    elim h [ inl n ↦ inl n | inr m ↦ inr (m.0, before-append a b c d m.1) ]
before-append (Branch i ∷ a) (Branch j ∷ b) c d h = (h.0, before-append a b c d h.1)
before-append (Ordered i ∷ a) (Branch j ∷ b) c d h = absurd h
before-append (Branch i ∷ a) (Ordered j ∷ b) c d h = absurd h

-- what lies below two places that are apart is apart
pub apart-append : (a b c d : List Entry) → Apart a b → Apart (a ++ c) (b ++ d)
apart-append [] b c d h = absurd h
apart-append (x ∷ a) [] c d h = absurd h
apart-append (Ordered i ∷ a) (Ordered j ∷ b) c d h = (h.0, apart-append a b c d h.1)
apart-append (Branch i ∷ a) (Branch j ∷ b) c d h =
    elim h [ inl n ↦ inl n | inr m ↦ inr (m.0, apart-append a b c d m.1) ]
apart-append (Ordered i ∷ a) (Branch j ∷ b) c d h = absurd h
apart-append (Branch i ∷ a) (Ordered j ∷ b) c d h = absurd h

-- a common beginning may be added
before-below : (p a b : List Entry) → Before a b → Before (p ++ a) (p ++ b)
before-below [] a b h = h
before-below (Ordered i ∷ p) a b h = inr (refl, before-below p a b h)
before-below (Branch i ∷ p) a b h = (refl, before-below p a b h)

-- a common beginning may be left out
before-above : (p a b : List Entry) → Before (p ++ a) (p ++ b) → Before a b
before-above [] a b h = h
before-above (Ordered i ∷ p) a b h =
    elim h [ inl n ↦ absurd (lt_irrefl i n) | inr m ↦ before-above p a b m.1 ]
before-above (Branch i ∷ p) a b h = before-above p a b h.1

-- a common beginning does not count
pub before-left : (p a b : List Entry) → Before (p ++ a) (p ++ b) ↔ Before a b
before-left p a b = (before-above p a b, before-below p a b)

-- a common beginning may be added
apart-below : (p a b : List Entry) → Apart a b → Apart (p ++ a) (p ++ b)
apart-below [] a b h = h
apart-below (Ordered i ∷ p) a b h = (refl, apart-below p a b h)
apart-below (Branch i ∷ p) a b h = inr (refl, apart-below p a b h)

-- a common beginning may be left out
apart-above : (p a b : List Entry) → Apart (p ++ a) (p ++ b) → Apart a b
apart-above [] a b h = h
apart-above (Ordered i ∷ p) a b h = apart-above p a b h.1
apart-above (Branch i ∷ p) a b h =
    elim h [ inl n ↦ absurd (n refl) | inr m ↦ apart-above p a b m.1 ]

-- a common beginning does not count
pub apart-left : (p a b : List Entry) → Apart (p ++ a) (p ++ b) ↔ Apart a b
apart-left p a b = (apart-above p a b, apart-below p a b)

-- the number of an ordered entry, and 0 of a branch
ordered_number : Entry → ℕ
ordered_number (Ordered i) = i
ordered_number (Branch i) = 0

-- the number of a branch, and 0 of an ordered entry
branch_number : Entry → ℕ
branch_number (Ordered i) = 0
branch_number (Branch i) = i

-- whether an entry is ordered
IsOrdered : Entry → Type 0
IsOrdered (Ordered i) = Unit {0}
IsOrdered (Branch i) = ⊥

-- ordered entries are equal only at one number
pub ordered-injective : (i j : ℕ) → Ordered i ≡ Ordered j → i ≡ j
unfolding ordered_number
ordered-injective i j e = ap ordered_number e

-- branches are equal only at one number
pub branch-injective : (i j : ℕ) → Branch i ≡ Branch j → i ≡ j
unfolding branch_number
branch-injective i j e = ap branch_number e

-- an ordered entry is no branch
pub ordered-not-branch : (i j : ℕ) → Ordered i ≡ Branch j → ⊥
unfolding IsOrdered
ordered-not-branch i j e = subst IsOrdered e tt

-- two entries are equal or not
pub same-entry? : (x y : Entry) → (x ≡ y) ⊎ (x ≡ y → ⊥)
same-entry? (Ordered i) (Ordered j) =
    elim (cases_eq i j) [ inl e ↦ inl (ap Ordered e) | inr n ↦ inr (λ e. n (ordered-injective i j e)) ]
same-entry? (Branch i) (Branch j) =
    elim (cases_eq i j) [ inl e ↦ inl (ap Branch e) | inr n ↦ inr (λ e. n (branch-injective i j e)) ]
same-entry? (Ordered i) (Branch j) = inr (ordered-not-branch i j)
same-entry? (Branch i) (Ordered j) = inr (λ e. ordered-not-branch j i (sym e))

-- the first of a list, or x where it is empty
head_or : Entry → List Entry → Entry
head_or x [] = x
head_or x (y ∷ a) = y

-- a list without its first
tail : List Entry → List Entry
tail [] = []
tail (y ∷ a) = a

-- whether a list is empty
IsEmpty : List Entry → Type 0
IsEmpty [] = Unit {0}
IsEmpty (y ∷ a) = ⊥

pub head-injective : (x y : Entry) (a b : List Entry) → x ∷ a ≡ y ∷ b → x ≡ y
unfolding head_or
head-injective x y a b e = ap (head_or x) e

pub tail-injective : (x y : Entry) (a b : List Entry) → x ∷ a ≡ y ∷ b → a ≡ b
unfolding tail
tail-injective x y a b e = ap tail e

pub nil-not-cons : (x : Entry) (a : List Entry) → [] ≡ x ∷ a → ⊥
unfolding IsEmpty
nil-not-cons x a e = subst IsEmpty e tt

-- two addresses are equal or not
pub same? : (a b : List Entry) → (a ≡ b) ⊎ (a ≡ b → ⊥)
same? [] [] = inl refl
same? [] (y ∷ b) = inr (nil-not-cons y b)
same? (x ∷ a) [] = inr (λ e. nil-not-cons x a (sym e))
same? (x ∷ a) (y ∷ b) =
    elim (same-entry? x y) [
      | inl e ↦ elim (same? a b) [
        | inl f ↦ inl (ap (λ z. z ∷ a) e ∙ ap (λ c. y ∷ c) f)
        | inr n ↦ inr (λ f. n (tail-injective x y a b f))
      ]
      | inr n ↦ inr (λ f. n (head-injective x y a b f))
    ]

-- what holds below one ordered number
ordered_cases : (P : Type 0) (i j : ℕ) → P ⊎ (P → ⊥)
    → ((i < j) ⊎ ((i ≡ j) × P)) ⊎ ((i < j) ⊎ ((i ≡ j) × P) → ⊥)
ordered_cases P i j h =
    elim (cases_order i j) [
      | inl e ↦ elim h [
        | inl p ↦ inl (inr (e, p))
        | inr n ↦ inr (λ g. ⊎_elim (λ l. lt_irrefl j (subst (λ k. k < j) e l)) (λ m. n m.1) g)
      ]
      | inr d ↦ elim d [
        | inl l ↦ inl (inl l)
        | inr l ↦ inr (λ g. ⊎_elim (λ k. lt_irrefl i (lt_trans k l)) (λ m. lt_irrefl j (subst (λ k. j < k) m.0 l)) g)
      ]
    ]

-- a fact under an equation of numbers
under_equal : (P : Type 0) (i j : ℕ) → P ⊎ (P → ⊥) → ((i ≡ j) × P) ⊎ ((i ≡ j) × P → ⊥)
under_equal P i j h =
    elim (cases_eq i j) [
      | inl e ↦ elim h [ inl p ↦ inl (e, p) | inr n ↦ inr (λ m. n m.1) ]
      | inr n ↦ inr (λ m. n m.0)
    ]

-- two branches of one parallel
branch_cases : (P : Type 0) (i j : ℕ) → P ⊎ (P → ⊥)
    → ((i ≢ j) ⊎ ((i ≡ j) × P)) ⊎ ((i ≢ j) ⊎ ((i ≡ j) × P) → ⊥)
branch_cases P i j h =
    elim (cases_eq i j) [
      | inl e ↦ elim h [
        | inl p ↦ inl (inr (e, p))
        | inr n ↦ inr (λ g. ⊎_elim (λ l. l e) (λ m. n m.1) g)
      ]
      | inr n ↦ inl (inl n)
    ]

-- one place is before another, or it is not
pub before? : (a b : List Entry) → Before a b ⊎ (Before a b → ⊥)
before? [] b = inr (λ h. h)
before? (x ∷ a) [] = inr (λ h. h)
before? (Ordered i ∷ a) (Ordered j ∷ b) = ordered_cases (Before a b) i j (before? a b)
before? (Branch i ∷ a) (Branch j ∷ b) = under_equal (Before a b) i j (before? a b)
before? (Ordered i ∷ a) (Branch j ∷ b) = inr (λ h. h)
before? (Branch i ∷ a) (Ordered j ∷ b) = inr (λ h. h)

-- two places are apart, or they are not
pub apart? : (a b : List Entry) → Apart a b ⊎ (Apart a b → ⊥)
apart? [] b = inr (λ h. h)
apart? (x ∷ a) [] = inr (λ h. h)
apart? (Ordered i ∷ a) (Ordered j ∷ b) = under_equal (Apart a b) i j (apart? a b)
apart? (Branch i ∷ a) (Branch j ∷ b) = branch_cases (Apart a b) i j (apart? a b)
apart? (Ordered i ∷ a) (Branch j ∷ b) = inr (λ h. h)
apart? (Branch i ∷ a) (Ordered j ∷ b) = inr (λ h. h)

-- one more common entry before the fork
fork-below : (x : Entry) (a b : List Entry) → OrderedFork a b → OrderedFork (x ∷ a) (x ∷ b)
fork-below x a b f = record {
  common = x ∷ f.common;
  one = f.one;
  other = f.other;
  one_rest = f.one_rest;
  other_rest = f.other_rest;
  one_is = ap (λ c. x ∷ c) f.one_is;
  other_is = ap (λ c. x ∷ c) f.other_is;
  less = f.less;
}

-- where one place is before another they fork at ordered entries
before-forks : (a b : List Entry) → Before a b → OrderedFork a b
before-forks [] b h = absurd h
before-forks (x ∷ a) [] h = absurd h
before-forks (Ordered i ∷ a) (Ordered j ∷ b) h =
    elim h [
      | inl l ↦ record { common = []; one = i; other = j; one_rest = a; other_rest = b; one_is = refl; other_is = refl; less = l }
      | inr m ↦ subst (λ k. OrderedFork (Ordered i ∷ a) (Ordered k ∷ b)) m.0 (fork-below (Ordered i) a b (before-forks a b m.1))
    ]
before-forks (Branch i ∷ a) (Branch j ∷ b) h =
    subst (λ k. OrderedFork (Branch i ∷ a) (Branch k ∷ b)) h.0 (fork-below (Branch i) a b (before-forks a b h.1))
before-forks (Ordered i ∷ a) (Branch j ∷ b) h = absurd h
before-forks (Branch i ∷ a) (Ordered j ∷ b) h = absurd h

-- where two places fork at ordered entries the one with the lesser number is before the other
fork-before : (a b : List Entry) → OrderedFork a b → Before a b
fork-before a b f =
    let start : Before (Ordered f.one ∷ f.one_rest) (Ordered f.other ∷ f.other_rest) = inl f.less in
    let below : Before (f.common ++ Ordered f.one ∷ f.one_rest) (f.common ++ Ordered f.other ∷ f.other_rest) =
    before-below f.common (Ordered f.one ∷ f.one_rest) (Ordered f.other ∷ f.other_rest) start in
    subst (λ c. Before c b) (sym f.one_is)
    (subst (λ d. Before (f.common ++ Ordered f.one ∷ f.one_rest) d) (sym f.other_is) below)

-- one place is before another exactly where they fork at ordered entries, the first at the lesser number
pub before-is-fork : (a b : List Entry) → Before a b ↔ OrderedFork a b
before-is-fork a b = (before-forks a b, fork-before a b)

-- one more common entry before the fork
branch-fork-below : (x : Entry) (a b : List Entry) → BranchFork a b → BranchFork (x ∷ a) (x ∷ b)
branch-fork-below x a b f = record {
  common = x ∷ f.common;
  one = f.one;
  other = f.other;
  one_rest = f.one_rest;
  other_rest = f.other_rest;
  one_is = ap (λ c. x ∷ c) f.one_is;
  other_is = ap (λ c. x ∷ c) f.other_is;
  differ = f.differ;
}

-- places that are apart fork at branch numbers
apart-forks : (a b : List Entry) → Apart a b → BranchFork a b
apart-forks [] b h = absurd h
apart-forks (x ∷ a) [] h = absurd h
apart-forks (Ordered i ∷ a) (Ordered j ∷ b) h =
    subst (λ k. BranchFork (Ordered i ∷ a) (Ordered k ∷ b)) h.0 (branch-fork-below (Ordered i) a b (apart-forks a b h.1))
apart-forks (Branch i ∷ a) (Branch j ∷ b) h =
    elim h [
      | inl n ↦ record { common = []; one = i; other = j; one_rest = a; other_rest = b; one_is = refl; other_is = refl; differ = n }
      | inr m ↦ subst (λ k. BranchFork (Branch i ∷ a) (Branch k ∷ b)) m.0 (branch-fork-below (Branch i) a b (apart-forks a b m.1))
    ]
apart-forks (Ordered i ∷ a) (Branch j ∷ b) h = absurd h
apart-forks (Branch i ∷ a) (Ordered j ∷ b) h = absurd h

-- places that fork at branch numbers are apart
fork-apart : (a b : List Entry) → BranchFork a b → Apart a b
fork-apart a b f =
    let start : Apart (Branch f.one ∷ f.one_rest) (Branch f.other ∷ f.other_rest) = inl f.differ in
    let below : Apart (f.common ++ Branch f.one ∷ f.one_rest) (f.common ++ Branch f.other ∷ f.other_rest) =
    apart-below f.common (Branch f.one ∷ f.one_rest) (Branch f.other ∷ f.other_rest) start in
    subst (λ c. Apart c b) (sym f.one_is)
    (subst (λ d. Apart (f.common ++ Branch f.one ∷ f.one_rest) d) (sym f.other_is) below)

-- two places are apart exactly where they fork at branch numbers
pub apart-is-fork : (a b : List Entry) → Apart a b ↔ BranchFork a b
apart-is-fork a b = (apart-forks a b, fork-apart a b)
