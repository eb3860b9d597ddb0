-- The tests of which variables an event reads, and of which numbers are in a list.
use Rattle.std.proofs.Common.{◌≡◌, ◌⊎◌, ◌↔◌, inl, inr, ℕ, ◌==◌, List, [], ◌∷◌, Bool, true, false, cond, Some, IsTrue, refl, sym, ◌∙◌, ap, subst, arith}
use Rattle.std.proofs.lemmas.Bool.Decides.{nat_tests}
use Rattle.syntax.specs.Lists.{In}
use Rattle.system.specs.Expression.{is_in}
use Rattle.runs.specs.Dependence.{WritesFor}
use Rattle.runs.specs.declared.event.Event.{Event}
use Rattle.runs.proofs.public.Options.{some-injective}

-- the test of elements
pub is-in : (x : ℕ) (xs : List ℕ) → is_in x xs ≡ true → In x xs
is-in x [] h = cc
is-in x (y ∷ ys) h = pick (x == y) refl (λ g. is-in x ys g) h
  where
    pick : (b : Bool) → (x == y) ≡ b → (is_in x ys ≡ true → In x ys) → cond b true (is_in x ys) ≡ true → (x ≡ y) ⊎ In x ys
    pick true same on g = inl (grind (arith, nat_tests))
    pick false same on g = inr (on g)

pub in-is : (x : ℕ) (xs : List ℕ) → In x xs → is_in x xs ≡ true
in-is x [] i = absurd i
in-is x (y ∷ ys) i = pick (x == y) refl (λ j. in-is x ys j) i
  where
    pick : (b : Bool) → (x == y) ≡ b → (In x ys → is_in x ys ≡ true) → (x ≡ y) ⊎ In x ys → cond b true (is_in x ys) ≡ true
    pick true same on j = refl
    pick false same on j = elim j [ inl u ↦ absurd (grind (arith, nat_tests)) | inr u ↦ on u ]

-- what is written is read
pub written-read : (e f : Event) (x : ℕ) (b : Bool) (read : List ℕ) → e.written ≡ Some x → read ≡ f.read → b ≡ is_in x read → b ≡ true → IsTrue b ↔ WritesFor e f
written-read e f x b read is given told told_true =
    ((λ t. (x, is, inl (subst (λ (xs : List ℕ). In x xs) given (is-in x read (sym told ∙ told_true))))), (λ w. told_true))

-- what is written is not read; it may be written
pub written-written : (e f : Event) (x : ℕ) (b w : Bool) (read : List ℕ) → e.written ≡ Some x → read ≡ f.read → b ≡ is_in x read → b ≡ false →
    IsTrue w ↔ (f.written ≡ Some x) → IsTrue w ↔ WritesFor e f
written-written e f x b w read is given told told_false tells = (
  (λ t. (x, is, inr (tells.0 t))),
  (λ h. let one : h.0 ≡ x = some-injective h.0 x (sym h.1 ∙ is) in
      elim h.2 [
        | inl a ↦
            let there : In x read = subst (λ (xs : List ℕ). In x xs) (sym given) (subst (λ (y : ℕ). In y f.read) one a) in
            let told_true : is_in x read ≡ true = in-is x read there in
            cc
        | inr a ↦ tells.1 (a ∙ ap (λ (y : ℕ). Some y) one)
      ]),
)
