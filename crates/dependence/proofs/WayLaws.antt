-- The way of a place in its branch, and what is behind it.
use Rattle.std.proofs.Common.{◌≡◌, ◌≢◌, ◌⊎◌, inl, inr, ℕ, zero, suc, ◌<◌, ◌≤◌, true, false, List, [], ◌∷◌, ◌++◌, length, take, drop, slice_get, refl, sym, ap, subst, ◌∙◌, true≢false, arith}
use Rattle.address.specs.declared.Entry.{Entry}
use Rattle.address.specs.declared.Entry.TheVariants.{Ordered, Branch}
use Rattle.address.proofs.public.Places.{head-injective, tail-injective, nil-not-cons, same-entry?}
use Rattle.dependence.specs.internal.Forks.{is_ordered_entry}
use Rattle.dependence.specs.internal.Seats.{way_of, rest_of, ordered_of, number_of, AllOrdered, EndsAtBranch, IsWay}

-- ---- what is a way
pub ordered-way : (a : List Entry) → AllOrdered a → way_of a ≡ a
ordered-way [] h = refl
ordered-way (Ordered i ∷ a) h = ap (λ (b : List Entry). Ordered i ∷ b) (ordered-way a h)
ordered-way (Branch i ∷ a) h = absurd h

pub way-behind : (w r : List Entry) → EndsAtBranch w → way_of (w ++ r) ≡ w
way-behind [] r h = absurd h
way-behind (Ordered i ∷ w) r h = ap (λ (b : List Entry). Ordered i ∷ b) (way-behind w r h)
way-behind (Branch i ∷ w) r h = ap (λ (b : List Entry). Branch i ∷ b) (sym h)

pub ends-way : (w : List Entry) → EndsAtBranch w → way_of w ≡ w
ends-way [] h = absurd h
ends-way (Ordered i ∷ w) h = ap (λ (b : List Entry). Ordered i ∷ b) (ends-way w h)
ends-way (Branch i ∷ w) h = ap (λ (b : List Entry). Branch i ∷ b) (sym h)

pub rest-behind : (w r : List Entry) → EndsAtBranch w → rest_of (w ++ r) ≡ r
rest-behind [] r h = absurd h
rest-behind (Ordered i ∷ w) r h = rest-behind w r h
rest-behind (Branch i ∷ w) r h = ap (λ (b : List Entry). b ++ r) h

pub way-and-rest : (a : List Entry) → way_of a ++ rest_of a ≡ a
way-and-rest [] = refl
way-and-rest (Ordered i ∷ a) = ap (λ (b : List Entry). Ordered i ∷ b) (way-and-rest a)
way-and-rest (Branch i ∷ a) = refl

pub way-twice : (a : List Entry) → way_of (way_of a) ≡ way_of a
way-twice [] = refl
way-twice (Ordered i ∷ a) = ap (λ (b : List Entry). Ordered i ∷ b) (way-twice a)
way-twice (Branch i ∷ a) = refl

pub ordered-of-way : (a : List Entry) → ordered_of (way_of a) ≡ ordered_of a
ordered-of-way [] = refl
ordered-of-way (Ordered i ∷ a) = ap (λ (b : List Entry). Ordered i ∷ b) (ordered-of-way a)
ordered-of-way (Branch i ∷ a) = refl

pub event-way : (a : List Entry) → AllOrdered (way_of a) → way_of a ≡ a
event-way [] h = refl
event-way (Ordered i ∷ a) h = ap (λ (b : List Entry). Ordered i ∷ b) (event-way a h)
event-way (Branch i ∷ a) h = absurd h

pub event-rest : (a : List Entry) → AllOrdered (way_of a) → rest_of a ≡ []
event-rest [] h = refl
event-rest (Ordered i ∷ a) h = event-rest a h
event-rest (Branch i ∷ a) h = absurd h

-- ---- its last entry
pub last-branch : (b : List Entry) (i : ℕ) → IsWay (b ++ Branch i ∷ []) → EndsAtBranch (b ++ Branch i ∷ [])
last-branch [] i h = refl
last-branch (Ordered j ∷ b) i h = last-branch b i (tail-injective (Ordered j) (Ordered j) (way_of (b ++ Branch i ∷ [])) (b ++ Branch i ∷ []) h)
last-branch (Branch j ∷ b) i h = sym (tail-injective (Branch j) (Branch j) [] (b ++ Branch i ∷ []) h)

ends-not : (b : List Entry) (e : Entry) → [] ≡ b ++ e ∷ [] → ⊥
ends-not [] e h = nil-not-cons e [] h
ends-not (x ∷ b) e h = nil-not-cons x (b ++ e ∷ []) h

pub last-ordered : (b : List Entry) (i : ℕ) → IsWay (b ++ Ordered i ∷ []) → AllOrdered (b ++ Ordered i ∷ [])
last-ordered [] i h = tt
last-ordered (Ordered j ∷ b) i h = last-ordered b i (tail-injective (Ordered j) (Ordered j) (way_of (b ++ Ordered i ∷ [])) (b ++ Ordered i ∷ []) h)
last-ordered (Branch j ∷ b) i h = absurd (ends-not b (Ordered i) (tail-injective (Branch j) (Branch j) [] (b ++ Ordered i ∷ []) h))

pub before-branch : (b : List Entry) (i : ℕ) → IsWay (b ++ Branch i ∷ []) → ordered_of (b ++ Branch i ∷ []) ≡ b
before-branch [] i h = refl
before-branch (Ordered j ∷ b) i h =
    ap (λ (c : List Entry). Ordered j ∷ c) (before-branch b i (tail-injective (Ordered j) (Ordered j) (way_of (b ++ Branch i ∷ [])) (b ++ Branch i ∷ []) h))
before-branch (Branch j ∷ b) i h = absurd (ends-not b (Branch i) (tail-injective (Branch j) (Branch j) [] (b ++ Branch i ∷ []) h))

pub all-ordered : (a : List Entry) → AllOrdered a → ordered_of a ≡ a
all-ordered [] h = refl
all-ordered (Ordered i ∷ a) h = ap (λ (b : List Entry). Ordered i ∷ b) (all-ordered a h)
all-ordered (Branch i ∷ a) h = absurd h

-- the same, of a way whose last entry is known
pub none-way : (w : List Entry) → length w ≡ 0 → w ≡ []
none-way [] h = refl
none-way (x ∷ w) h = absurd (omega arith)

pub ordered-whole : (w b : List Entry) (e : Entry) (i : ℕ) → IsWay w → w ≡ b ++ e ∷ [] → e ≡ Ordered i → AllOrdered w
ordered-whole w b e i way is last =
    let parts : w ≡ b ++ Ordered i ∷ [] = is ∙ ap (λ (x : Entry). b ++ x ∷ []) last in
    subst AllOrdered (sym parts) (last-ordered b i (subst IsWay parts way))

pub branch-whole : (w b : List Entry) (e : Entry) (i : ℕ) → IsWay w → w ≡ b ++ e ∷ [] → e ≡ Branch i → EndsAtBranch w
branch-whole w b e i way is last =
    let parts : w ≡ b ++ Branch i ∷ [] = is ∙ ap (λ (x : Entry). b ++ x ∷ []) last in
    subst EndsAtBranch (sym parts) (last-branch b i (subst IsWay parts way))

pub ordered-before : (w b : List Entry) (e : Entry) (i : ℕ) → IsWay w → w ≡ b ++ e ∷ [] → e ≡ Branch i → b ≡ ordered_of w
ordered-before w b e i way is last =
    let parts : w ≡ b ++ Branch i ∷ [] = is ∙ ap (λ (x : Entry). b ++ x ∷ []) last in
    sym (ap ordered_of parts ∙ before-branch b i (subst IsWay parts way))

-- ---- its branch number
pub number-ordered : (w : List Entry) → AllOrdered w → number_of w ≡ 0
number-ordered [] h = refl
number-ordered (Ordered i ∷ w) h = number-ordered w h
number-ordered (Branch i ∷ w) h = absurd h

number-last : (b : List Entry) (i : ℕ) → IsWay (b ++ Branch i ∷ []) → number_of (b ++ Branch i ∷ []) ≡ i
number-last [] i h = refl
number-last (Ordered j ∷ b) i h = number-last b i (tail-injective (Ordered j) (Ordered j) (way_of (b ++ Branch i ∷ [])) (b ++ Branch i ∷ []) h)
number-last (Branch j ∷ b) i h = absurd (ends-not b (Branch i) (tail-injective (Branch j) (Branch j) [] (b ++ Branch i ∷ []) h))

pub number-whole : (w b : List Entry) (e : Entry) (i : ℕ) → IsWay w → w ≡ b ++ e ∷ [] → e ≡ Branch i → i ≡ number_of w
number-whole w b e i way is last =
    let parts : w ≡ b ++ Branch i ∷ [] = is ∙ ap (λ (x : Entry). b ++ x ∷ []) last in
    sym (ap number_of parts ∙ number-last b i (subst IsWay parts way))

pub branch-parts : (w : List Entry) → EndsAtBranch w → w ≡ ordered_of w ++ Branch (number_of w) ∷ []
branch-parts [] h = absurd h
branch-parts (Ordered i ∷ w) h = ap (λ (v : List Entry). Ordered i ∷ v) (branch-parts w h)
branch-parts (Branch i ∷ w) h = ap (λ (v : List Entry). Branch i ∷ v) h

-- ---- how long it is
pub one-more : (a : List Entry) (n : ℕ) → AllOrdered (take n a) → is_ordered_entry (slice_get a n) ≡ true → AllOrdered (take (suc n) a)
one-more [] zero h is = tt
one-more [] (suc n) h is = tt
one-more (Ordered i ∷ a) zero h is = tt
one-more (Branch i ∷ a) zero h is = absurd (true≢false (sym is))
one-more (Ordered i ∷ a) (suc n) h is = one-more a n h is
one-more (Branch i ∷ a) (suc n) h is = absurd h

pub within-more : (a : List Entry) (n : ℕ) → is_ordered_entry (slice_get a n) ≡ true → n < length a
within-more [] zero is = absurd (true≢false (sym is))
within-more [] (suc n) is = absurd (true≢false (sym is))
within-more (x ∷ a) zero is = omega arith
within-more (x ∷ a) (suc n) is = let rest : n < length a = within-more a n is in omega arith

pub way-ends : (a : List Entry) (n : ℕ) → AllOrdered (take n a) → n < length a → is_ordered_entry (slice_get a n) ≡ false → take (suc n) a ≡ way_of a
way-ends [] n h less is = absurd (omega arith)
way-ends (Ordered i ∷ a) zero h less is = absurd (true≢false is)
way-ends (Branch i ∷ a) zero h less is = refl
way-ends (Ordered i ∷ a) (suc n) h less is = let rest : n < length a = omega arith in ap (λ (b : List Entry). Ordered i ∷ b) (way-ends a n h rest is)
way-ends (Branch i ∷ a) (suc n) h less is = absurd h

pub rest-begins : (a : List Entry) (n : ℕ) → AllOrdered (take n a) → n < length a → is_ordered_entry (slice_get a n) ≡ false → drop (suc n) a ≡ rest_of a
rest-begins [] n h less is = absurd (omega arith)
rest-begins (Ordered i ∷ a) zero h less is = absurd (true≢false is)
rest-begins (Branch i ∷ a) zero h less is = refl
rest-begins (Ordered i ∷ a) (suc n) h less is = let rest : n < length a = omega arith in rest-begins a n h rest is
rest-begins (Branch i ∷ a) (suc n) h less is = absurd h

pub way-whole : (a : List Entry) (n : ℕ) → AllOrdered (take n a) → length a ≤ n → take n a ≡ way_of a
way-whole [] zero h more = refl
way-whole [] (suc n) h more = refl
way-whole (x ∷ a) zero h more = absurd (omega arith)
way-whole (Ordered i ∷ a) (suc n) h more = let rest : length a ≤ n = omega arith in ap (λ (b : List Entry). Ordered i ∷ b) (way-whole a n h rest)
way-whole (Branch i ∷ a) (suc n) h more = absurd h

pub rest-none : (a : List Entry) (n : ℕ) → AllOrdered (take n a) → length a ≤ n → drop n a ≡ rest_of a
rest-none [] zero h more = refl
rest-none [] (suc n) h more = refl
rest-none (x ∷ a) zero h more = absurd (omega arith)
rest-none (Ordered i ∷ a) (suc n) h more = let rest : length a ≤ n = omega arith in rest-none a n h rest
rest-none (Branch i ∷ a) (suc n) h more = absurd h

pub rest-shorter : (a : List Entry) → EndsAtBranch (way_of a) → length (rest_of a) < length a
rest-shorter [] h = absurd h
rest-shorter (Ordered i ∷ a) h = let rest : length (rest_of a) < length a = rest-shorter a h in omega arith
rest-shorter (Branch i ∷ a) h = omega arith

-- ---- what begins with some entries
pub begins : (w b : List Entry) → ((x : List Entry) × (b ≡ w ++ x)) ⊎ ((x : List Entry) → b ≢ w ++ x)
begins [] b = inl (b, refl)
begins (y ∷ w) [] = inr (λ x is. nil-not-cons y (w ++ x) is)
begins (y ∷ w) (z ∷ b) = elim (same-entry? z y) [
  | inl is ↦ elim (begins w b) [
    | inl h ↦ inl (h.0, ap (λ (q : Entry). q ∷ b) is ∙ ap (λ (c : List Entry). y ∷ c) h.1)
    | inr not ↦ inr (λ x e. not x (tail-injective z y b (w ++ x) e))
  ]
  | inr not ↦ inr (λ x e. not (head-injective z y b (w ++ x) e))
]

pub same-rest : (p a b : List Entry) → p ++ a ≡ p ++ b → a ≡ b
same-rest [] a b is = is
same-rest (x ∷ p) a b is = same-rest p a b (tail-injective x x (p ++ a) (p ++ b) is)

pub not-both : (w : List Entry) → AllOrdered w → EndsAtBranch w → ⊥
not-both [] h k = k
not-both (Ordered i ∷ w) h k = not-both w h k
not-both (Branch i ∷ w) h k = h

pub longer-way : (a : List Entry) (x : Entry) → EndsAtBranch (way_of a) → way_of (a ++ x ∷ []) ≡ way_of a
longer-way [] x h = absurd h
longer-way (Ordered i ∷ a) x h = ap (λ (b : List Entry). Ordered i ∷ b) (longer-way a x h)
longer-way (Branch i ∷ a) x h = refl

pub ordered-place : (a v p : List Entry) → v ≡ p → p ≡ way_of a → AllOrdered v → v ≡ a
ordered-place a v p front way h = (front ∙ way) ∙ event-way a (subst AllOrdered (front ∙ way) h)

-- ---- two ways from behind
pub drop-whole : (a : List Entry) (n : ℕ) → length a ≤ n → drop n a ≡ []
drop-whole [] zero h = refl
drop-whole [] (suc n) h = refl
drop-whole (x ∷ a) zero h = absurd (omega arith)
drop-whole (x ∷ a) (suc n) h = let rest : length a ≤ n = omega arith in drop-whole a n rest
