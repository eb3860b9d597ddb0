-- Elements of joined lists, and what holds of every element.
use Rattle.std.proofs.Common.{◌⊎◌, inl, inr, List, [], ◌∷◌, ◌++◌, refl, sym, subst}
use Rattle.syntax.specs.Lists.{In, Every}

-- an element of the first list is one of both
pub in-left : {X : Type 0} (x : X) (xs ys : List X) → In x xs → In x (xs ++ ys)
in-left x [] ys i = absurd i
in-left x (y ∷ xs) ys i = elim i [ inl u ↦ inl u | inr u ↦ inr (in-left x xs ys u) ]

-- an element of the second list is one of both
pub in-right : {X : Type 0} (x : X) (xs ys : List X) → In x ys → In x (xs ++ ys)
in-right x [] ys i = i
in-right x (y ∷ xs) ys i = inr (in-right x xs ys i)

-- an element of both lists is one of the first or of the second
pub in-parts : {X : Type 0} (x : X) (xs ys : List X) → In x (xs ++ ys) → In x xs ⊎ In x ys
in-parts x [] ys i = inr i
in-parts x (y ∷ xs) ys i =
    elim i [ inl u ↦ inl (inl u) | inr u ↦ elim (in-parts x xs ys u) [ inl v ↦ inl (inr v) | inr v ↦ inr v ] ]

-- what holds of every element holds of one
pub every-in : {X : Type 0} (P : X → Type 0) (xs : List X) (x : X) → Every P xs → In x xs → P x
every-in P [] x h i = absurd i
every-in P (y ∷ xs) x h i = elim i [ inl e ↦ subst P (sym e) h.0 | inr j ↦ every-in P xs x h.1 j ]

-- what holds of each element holds of every one
pub every-of : {X : Type 0} (P : X → Type 0) (xs : List X) → ((x : X) → In x xs → P x) → Every P xs
every-of P [] h = tt
every-of P (x ∷ xs) h = (h x (inl refl), every-of P xs (λ y i. h y (inr i)))

-- what holds of every element of both lists holds of those of the first
pub every-left : {X : Type 0} (P : X → Type 0) (xs ys : List X) → Every P (xs ++ ys) → Every P xs
every-left P xs ys h = every-of P xs (λ x i. every-in P (xs ++ ys) x h (in-left x xs ys i))

-- and of those of the second
pub every-right : {X : Type 0} (P : X → Type 0) (xs ys : List X) → Every P (xs ++ ys) → Every P ys
every-right P xs ys h = every-of P ys (λ x i. every-in P (xs ++ ys) x h (in-right x xs ys i))

-- what follows from what holds of every element holds of every one
pub every-map : {X : Type 0} (P Q : X → Type 0) (xs : List X) → ((x : X) → P x → Q x) → Every P xs → Every Q xs
every-map P Q xs f h = every-of Q xs (λ x i. f x (every-in P xs x h i))
