-- Places in a list of events, and the order of what stands there.
use Rattle.std.proofs.Common.{◌≡◌, ◌⊎◌, inl, inr, ℕ, zero, suc, ◌+◌, ◌<◌, ◌≤◌, List, [], ◌∷◌, ◌++◌, length, take, get_or, Some, refl, sym, ap, subst, ◌∙◌, arith, slice_get}
use Rattle.syntax.specs.Lists.{In}
use Rattle.runs.specs.Dependence.{Earlier, Rearranged}
use Rattle.runs.specs.Events.{acting}
use Rattle.runs.specs.declared.event.Event.{Event}
use Rattle.runs.proofs.public.Lists.{in-left, in-right, in-parts}
use Rattle.runs.proofs.public.Options.{none-some, some-injective}
use Rattle.runs.proofs.public.Elements.{Distinct}
use Rattle.calculus.specs.internal.Comparing.{ActsOnce}

-- ---- lists of anything
pub get-left : {X : Type 0} (h k : List X) (p : ℕ) (x : X) → slice_get h p ≡ Some x → slice_get (h ++ k) p ≡ Some x
get-left [] k p x at = none-some x at
get-left (y ∷ h) k zero x at = at
get-left (y ∷ h) k (suc p) x at = get-left h k p x at

pub get-last : {X : Type 0} (h : List X) (x : X) (p : ℕ) → p ≡ length h → slice_get (h ++ x ∷ []) p ≡ Some x
get-last [] x p is = ap (λ (n : ℕ). slice_get (x ∷ []) n) is
get-last (y ∷ h) x p is = ap (λ (n : ℕ). slice_get (y ∷ (h ++ x ∷ [])) n) is ∙ get-last h x (length h) refl

pub get-within : {X : Type 0} (h : List X) (p : ℕ) (x : X) → slice_get h p ≡ Some x → p < length h
get-within [] p x at = none-some x at
get-within (y ∷ h) zero x at = omega arith
get-within (y ∷ h) (suc p) x at = let rest : p < length h = get-within h p x at in omega arith

pub got-in : {X : Type 0} (h : List X) (p : ℕ) (x : X) → slice_get h p ≡ Some x → In x h
got-in [] p x at = none-some x at
got-in (y ∷ h) zero x at = inl (sym (some-injective y x at))
got-in (y ∷ h) (suc p) x at = inr (got-in h p x at)

pub in-got : {X : Type 0} (h : List X) (x : X) → In x h → (p : ℕ) × (slice_get h p ≡ Some x)
in-got [] x i = absurd i
in-got (y ∷ h) x i = elim i [
  | inl is ↦ (zero, ap (λ z. Some z) (sym is))
  | inr rest ↦ let found = in-got h x rest in (suc found.0, found.1)
]

-- the element of a loop
pub item-got : {X : Type 0} (h : List X) (i : ℕ) (x : X) → i < length h → x ≡ get_or h i x → slice_get h i ≡ Some x
item-got [] i x less is = absurd (omega arith)
item-got (y ∷ h) zero x less is = ap (λ z. Some z) (sym is)
item-got (y ∷ h) (suc i) x less is = let rest : i < length h = omega arith in item-got h i x rest is

pub taken-more : {X : Type 0} (h : List X) (i : ℕ) (x : X) → slice_get h i ≡ Some x → take (i + 1) h ≡ take i h ++ x ∷ []
taken-more h i x at = let more : i + 1 ≡ suc i = omega arith in ap (λ n. take n h) more ∙ next h i x at
  where
    next : {X : Type 0} (h : List X) (i : ℕ) (x : X) → slice_get h i ≡ Some x → take (suc i) h ≡ take i h ++ x ∷ []
    next [] i x at = none-some x at
    next (y ∷ h) zero x at = ap (λ z. z ∷ []) (some-injective y x at)
    next (y ∷ h) (suc i) x at = ap (λ k. y ∷ k) (next h i x at)

pub taken-all : {X : Type 0} (h : List X) (i : ℕ) → length h ≤ i → take i h ≡ h
taken-all [] zero less = refl
taken-all [] (suc i) less = refl
taken-all (y ∷ h) zero less = absurd (omega arith)
taken-all (y ∷ h) (suc i) less = let rest : length h ≤ i = omega arith in ap (λ k. y ∷ k) (taken-all h i rest)

pub taken-length : {X : Type 0} (h : List X) (i : ℕ) → i ≤ length h → length (take i h) ≡ i
taken-length h zero less = refl
taken-length [] (suc i) less = absurd (omega arith)
taken-length (y ∷ h) (suc i) less = let rest : i ≤ length h = omega arith in ap suc (taken-length h i rest)

-- ---- lists of events
-- of two places the event at the lesser stands before the other
pub before-at : (h : List Event) (p q : ℕ) (e f : Event) → slice_get h p ≡ Some e → slice_get h q ≡ Some f → p < q → Earlier h e f
before-at [] p q e f at there less = none-some e at
before-at (x ∷ h) p zero e f at there less = absurd (omega arith)
before-at (x ∷ h) zero (suc q) e f at there less = inl (some-injective x e at, got-in h q f there)
before-at (x ∷ h) (suc p) (suc q) e f at there less = let rest : p < q = omega arith in inr (before-at h p q e f at there rest)

-- where one stands before another, so do their places
pub at-before : (h : List Event) (e f : Event) → Earlier h e f → (p : ℕ) × (q : ℕ) × (slice_get h p ≡ Some e) × (slice_get h q ≡ Some f) × (p < q)
at-before [] e f i = absurd i
at-before (x ∷ h) e f i = elim i [
  | inl u ↦ let found = in-got h f u.1 in (zero, suc found.0, ap (λ z. Some z) u.0, found.1, omega arith)
  | inr u ↦ let found = at-before h e f u in let less : found.0 < found.1 = found.4 in (suc found.0, suc found.1, found.2, found.3, omega arith)
]

pub less-or : (p q : ℕ) → (p < q) ⊎ (p ≡ q) ⊎ (q < p)
less-or zero zero = inr (inl refl)
less-or zero (suc q) = inl (omega arith)
less-or (suc p) zero = inr (inr (omega arith))
less-or (suc p) (suc q) = elim (less-or p q) [ inl u ↦ inl (omega (arith, u)) | inr (inl u) ↦ inr (inl (ap suc u)) | inr (inr u) ↦ inr (inr (omega (arith, u))) ]

-- one acting address has one place
pub one-place : (h : List Event) (p q : ℕ) (e f : Event) → ActsOnce h → slice_get h p ≡ Some e → slice_get h q ≡ Some f → acting e ≡ acting f → p ≡ q
one-place h p q e f once at there same =
    elim (less-or p q) [
      | inl less ↦ absurd (once e f (before-at h p q e f at there less) same)
      | inr (inl is) ↦ is
      | inr (inr less) ↦ absurd (once f e (before-at h q p f e there at less) (sym same))
    ]

-- and one event
pub one-acts : (h : List Event) (e f : Event) → ActsOnce h → In e h → In f h → acting e ≡ acting f → e ≡ f
one-acts h e f once i j same =
    let a = in-got h e i in
    let b = in-got h f j in
    let is : a.0 ≡ b.0 = one-place h a.0 b.0 e f once a.1 b.1 same in
    some-injective e f (sym a.1 ∙ ap (λ (n : ℕ). slice_get h n) is ∙ b.1)

pub distinct-of : (h : List Event) → ActsOnce h → Distinct h
distinct-of h once f i = once f f i refl

-- ---- a rearrangement
-- what stands in a list is in front of an element, is it, or is behind it
cut-at : (e : Event) (g : List Event) → In e g → (b : List Event) × (a : List Event) × (g ≡ b ++ e ∷ a)
cut-at e [] i = absurd i
cut-at e (x ∷ g) i = elim i [
  | inl is ↦ ([], g, ap (λ z. z ∷ g) (sym is))
  | inr rest ↦ let cut = cut-at e g rest in (x ∷ cut.0, cut.1, ap (λ k. x ∷ k) cut.2)
]

length-cut : (b a : List Event) (e : Event) → length (b ++ e ∷ a) ≡ suc (length (b ++ a))
length-cut [] a e = refl
length-cut (x ∷ b) a e = ap suc (length-cut b a e)

in-cut : (b a : List Event) (e f : Event) → In f (b ++ e ∷ a) → (f ≡ e → ⊥) → In f (b ++ a)
in-cut b a e f i other = elim (in-parts f b (e ∷ a) i) [
  | inl u ↦ in-left f b a u
  | inr (inl is) ↦ absurd (other is)
  | inr (inr u) ↦ in-right f b a u
]

-- different events that are all in another list of that length are those of the other
pub rearranged-of : (h g : List Event) → Distinct h → length h ≡ length g → ((e : Event) → In e h → In e g) → Rearranged h g
rearranged-of [] [] d same all = refl
rearranged-of [] (x ∷ g) d same all = absurd (omega arith)
rearranged-of (e ∷ h) g d same all =
    let cut = cut-at e g (all e (inl refl)) in
    let long : length g ≡ suc (length (cut.0 ++ cut.1)) = ap length cut.2 ∙ length-cut cut.0 cut.1 e in
    let rest : length h ≡ length (cut.0 ++ cut.1) = omega arith in (
      cut.0,
      cut.1,
      cut.2,
      rearranged-of h (cut.0 ++ cut.1) (λ f i. d f (inr i)) rest
          (λ f i. in-cut cut.0 cut.1 e f (subst (λ (l : List Event). In f l) cut.2 (all f (inr i))) (λ is. d e (inl (refl, subst (λ (x : Event). In x h) is i)))),
    )

pub rearranged-length : (h g : List Event) → Rearranged h g → length h ≡ length g
rearranged-length [] g r = ap length (sym r)
rearranged-length (e ∷ h) g r = ap suc (rearranged-length h (r.0 ++ r.1) r.3) ∙ sym (length-cut r.0 r.1 e) ∙ ap length (sym r.2)

-- ---- one more event at the end
pub earlier-more-left : (h k : List Event) (e f : Event) → Earlier h e f → Earlier (h ++ k) e f
earlier-more-left [] k e f i = absurd i
earlier-more-left (x ∷ h) k e f i = elim i [ inl u ↦ inl (u.0, in-left f h k u.1) | inr u ↦ inr (earlier-more-left h k e f u) ]

pub earlier-last : (h : List Event) (x e f : Event) → Earlier (h ++ x ∷ []) e f → Earlier h e f ⊎ (In e h × (f ≡ x))
earlier-last [] x e f i = elim i [ inl u ↦ absurd u.1 | inr u ↦ absurd u ]
earlier-last (y ∷ h) x e f i = elim i [
  | inl u ↦ elim (in-parts f h (x ∷ []) u.1) [
    | inl v ↦ inl (inl (u.0, v))
    | inr (inl v) ↦ inr (inl (sym u.0), v)
    | inr (inr v) ↦ absurd v
  ]
  | inr u ↦ elim (earlier-last h x e f u) [ inl v ↦ inl (inr v) | inr v ↦ inr (inr v.0, v.1) ]
]

-- what was taken before the element of a loop stands before it
pub taken-before : (h : List Event) (i : ℕ) (x d : Event) → slice_get h i ≡ Some x → In d (take i h) → Earlier h d x
taken-before [] i x d at j = none-some x at
taken-before (y ∷ h) zero x d at j = absurd j
taken-before (y ∷ h) (suc i) x d at j = elim j [ inl is ↦ inl (sym is, got-in h i x at) | inr u ↦ inr (taken-before h i x d at u) ]

-- an element of a loop over numbers
pub number-got : (h : List ℕ) (i : ℕ) → i < length h → slice_get h i ≡ Some (get_or h i 0)
number-got [] i less = absurd (omega arith)
number-got (y ∷ h) zero less = refl
number-got (y ∷ h) (suc i) less = let rest : i < length h = omega arith in number-got h i rest
