-- Lists in an order in which no two elements come before each other: with the same elements they are equal.
use Rattle.std.proofs.Common.{◌≡◌, inl, inr, List, [], ◌∷◌, refl, sym, subst}
use Rattle.syntax.specs.Lists.{In, Every}
use Rattle.runs.proofs.public.Lists.{every-in}
use Rattle.runs.specs.InOrder.{InOrder}

module _ (X : Type 0) (Less : X → X → Type 0) (asymmetric : (x y : X) → Less x y → Less y x → ⊥) where
  -- the first elements are one
  heads : (x y : X) (xs ys : List X) → InOrder Less (x ∷ xs) → InOrder Less (y ∷ ys) → In x (y ∷ ys) → In y (x ∷ xs) → x ≡ y
  heads x y xs ys p q i j =
      elim i [
        | inl u ↦ u
        | inr u ↦ elim j [
          | inl v ↦ sym v
          | inr v ↦ absurd (asymmetric x y (every-in (Less x) xs y p.0 v) (every-in (Less y) ys x q.0 u))
        ]
      ]

  -- what is left is the same
  tails : (x : X) (xs ys : List X) (z : X) → Every (Less x) xs → In z xs → In z (x ∷ ys) → In z ys
  tails x xs ys z every i j =
      elim j [
        | inl u ↦ let less : Less x x = subst (Less x) u (every-in (Less x) xs z every i) in absurd (asymmetric x x less less)
        | inr u ↦ u
      ]

  pub same-elements : (xs ys : List X) → InOrder Less xs → InOrder Less ys → ((z : X) → In z xs → In z ys) → ((z : X) → In z ys → In z xs) → xs ≡ ys
  same-elements [] [] p q to of = refl
  same-elements [] (y ∷ ys) p q to of = absurd (of y (inl refl))
  same-elements (x ∷ xs) [] p q to of = absurd (to x (inl refl))
  same-elements (x ∷ xs) (y ∷ ys) p q to of =
      let one : x ≡ y = heads x y xs ys p q (to x (inl refl)) (of y (inl refl)) in
      let rest : xs ≡ ys = same-elements xs ys p.1 q.1
      (λ z i. tails x xs ys z p.0 i (subst (λ (v : X). In z (v ∷ ys)) (sym one) (to z (inr i))))
      (λ z i. tails y ys xs z q.0 i (subst (λ (v : X). In z (v ∷ xs)) one (of z (inr i)))) in
      λ i. one i ∷ rest i
