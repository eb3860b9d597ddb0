-- The entry at a place of a list, and what is before and after it.
use Rattle.std.proofs.Common.{◌≡◌, ℕ, zero, suc, ◌<◌, List, [], ◌∷◌, ◌++◌, length, take, drop, get_or, Some, refl, sym, ◌∙◌, ap, arith, slice_get, length-append}
use Rattle.std.specs.List.{remove}
use Rattle.runs.proofs.public.Options.{none-some, some-injective}

pub parts-at : {X : Type 0} (l : List X) (i : ℕ) (x : X) → slice_get l i ≡ Some x → l ≡ take i l ++ x ∷ drop (suc i) l
parts-at [] i x h = none-some x h
parts-at (y ∷ l) zero x h = ap (λ z. z ∷ l) (some-injective y x h)
parts-at (y ∷ l) (suc i) x h = ap (λ k. y ∷ k) (parts-at l i x h)

pub got-at : {X : Type 0} (l : List X) (i : ℕ) (x d : X) → slice_get l i ≡ Some x → get_or l i d ≡ x
got-at [] i x d h = none-some x h
got-at (y ∷ l) zero x d h = some-injective y x h
got-at (y ∷ l) (suc i) x d h = got-at l i x d h

pub within-at : {X : Type 0} (l : List X) (i : ℕ) (x : X) → slice_get l i ≡ Some x → i < length l
within-at [] i x h = none-some x h
within-at (y ∷ l) zero x h = omega arith
within-at (y ∷ l) (suc i) x h = let rest = within-at l i x h in omega arith

pub at-get : {X : Type 0} (l : List X) (i : ℕ) (d : X) → i < length l → slice_get l i ≡ Some (get_or l i d)
at-get [] i d h = absurd (omega arith)
at-get (y ∷ l) zero d h = refl
at-get (y ∷ l) (suc i) d h = let less : i < length l = omega arith in at-get l i d less

-- the element of a loop over a list
pub item-at : {X : Type 0} (l : List X) (i : ℕ) (x : X) → i < length l → x ≡ get_or l i x → slice_get l i ≡ Some x
item-at l i x h is = at-get l i x h ∙ ap (λ y. Some y) (sym is)

pub take-next : {X : Type 0} (l : List X) (i : ℕ) (x : X) → slice_get l i ≡ Some x → take (suc i) l ≡ take i l ++ x ∷ []
take-next [] i x h = none-some x h
take-next (y ∷ l) zero x h = ap (λ z. z ∷ []) (some-injective y x h)
take-next (y ∷ l) (suc i) x h = ap (λ k. y ∷ k) (take-next l i x h)

-- the last element and those before it
pub newest-out : {X : Type 0} (xs : List X) (x : X) (k : ℕ) → suc k ≡ length (xs ++ x ∷ []) → (remove (xs ++ x ∷ []) k ≡ xs) × (slice_get (xs ++ x ∷ []) k ≡ Some x)
newest-out [] x zero h = (refl, refl)
newest-out [] x (suc k) h = absurd (omega arith)
newest-out (y ∷ xs) x zero h = let long = length-append xs (x ∷ []) in absurd (omega arith)
newest-out (y ∷ xs) x (suc k) h =
    let less : suc k ≡ length (xs ++ x ∷ []) = omega arith in
    let rest = newest-out xs x k less in
    (ap (λ zs. y ∷ zs) rest.0, rest.1)

pub one-here : {X : Type 0} (l : List X) (i : ℕ) (x y : X) → slice_get l i ≡ Some x → slice_get l i ≡ Some y → x ≡ y
one-here l i x y a b = some-injective x y (sym a ∙ b)
