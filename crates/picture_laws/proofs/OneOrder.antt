-- Lists that have the same elements in one order, or the same at each index, are one.
use Rattle.std.proofs.Common.{◌≡◌, inl, inr, ℕ, zero, suc, List, [], ◌∷◌, refl, sym, ◌∙◌, ap, subst}
use Rattle.std.specs.Prelude.{slice_get}
use Rattle.syntax.specs.Lists.{In}
use Rattle.runs.specs.InOrder.{InOrder}
use Rattle.runs.proofs.public.Lists.{every-in}
use Rattle.runs.proofs.public.Options.{none-some, some-injective}

-- of two elements not each comes before the other
abbrev pub NeverBoth : {X : Type 0} → (X → X → Type 0) → Type 0
NeverBoth {X} R = (x y : X) → R x y → R y x → ⊥

heads : {X : Type 0} (R : X → X → Type 0) (x y : X) (xs ys : List X) → NeverBoth R → InOrder R (x ∷ xs) → InOrder R (y ∷ ys) → In x (y ∷ ys) → In y (x ∷ xs) →
    x ≡ y
heads R x y xs ys never order other (inl same) back = same
heads R x y xs ys never order other (inr later) (inl same) = sym same
heads R x y xs ys never order other (inr later) (inr back) =
    absurd (never x y (every-in (R x) xs y order.0 back) (every-in (R y) ys x other.0 later))

not-first : {X : Type 0} (R : X → X → Type 0) (x z : X) (xs : List X) → NeverBoth R → InOrder R (x ∷ xs) → In z xs → z ≡ x → ⊥
not-first R x z xs never order within same =
    let self : R x x = subst (R x) same (every-in (R x) xs z order.0 within) in never x x self self

behind : {X : Type 0} (R : X → X → Type 0) (x y : X) (xs ys : List X) → NeverBoth R → x ≡ y → InOrder R (x ∷ xs) →
    ((z : X) → In z (x ∷ xs) → In z (y ∷ ys)) → (z : X) → In z xs → In z ys
behind R x y xs ys never one order there z within = elim (there z (inr within)) [
  | inl first ↦ absurd (not-first R x z xs never order within (first ∙ sym one))
  | inr later ↦ later
]

pub one-ordered : {X : Type 0} (R : X → X → Type 0) (xs ys : List X) → NeverBoth R → InOrder R xs → InOrder R ys → ((z : X) → In z xs → In z ys) →
    ((z : X) → In z ys → In z xs) → xs ≡ ys
one-ordered R [] [] never order other forth back = refl
one-ordered R [] (y ∷ ys) never order other forth back = absurd (back y (inl refl))
one-ordered R (x ∷ xs) [] never order other forth back = absurd (forth x (inl refl))
one-ordered {X} R (x ∷ xs) (y ∷ ys) never order other forth back =
    let one : x ≡ y = heads R x y xs ys never order other (forth x (inl refl)) (back y (inl refl)) in
    let rest : xs ≡ ys =
    one-ordered R xs ys never order.1 other.1 (behind R x y xs ys never one order forth) (behind R y x ys xs never (sym one) other back) in
    ap (λ (z : X). z ∷ xs) one ∙ ap (λ (zs : List X). y ∷ zs) rest

pub by-index : {X : Type 0} (xs ys : List X) → ((i : ℕ) → slice_get xs i ≡ slice_get ys i) → xs ≡ ys
by-index [] [] same = refl
by-index [] (y ∷ ys) same = none-some y (same zero)
by-index (x ∷ xs) [] same = none-some x (sym (same zero))
by-index {X} (x ∷ xs) (y ∷ ys) same =
    ap (λ (z : X). z ∷ xs) (some-injective x y (same zero)) ∙ ap (λ (zs : List X). y ∷ zs) (by-index xs ys (λ i. same (suc i)))
