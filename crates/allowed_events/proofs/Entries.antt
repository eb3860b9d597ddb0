-- The entry at a place of a list, and what is before and after it.
use Rattle.std.proofs.Common.{◌≡◌, ℕ, zero, suc, ◌<◌, List, [], ◌∷◌, ◌++◌, length, take, drop, get_or, Some, refl, sym, ◌∙◌, ap, arith, slice_get}
use Rattle.runs.proofs.public.Options.{none-some, some-injective}

pub parts-at : {X : Type 0} (l : List X) (i : ℕ) (x : X) → slice_get l i ≡ Some x → l ≡ take i l ++ x ∷ drop (suc i) l
parts-at [] i x h = none-some x h
parts-at (y ∷ l) zero x h = ap (λ z. z ∷ l) (some-injective y x h)
parts-at (y ∷ l) (suc i) x h = ap (λ k. y ∷ k) (parts-at l i x h)

pub got-at : {X : Type 0} (l : List X) (i : ℕ) (x d : X) → slice_get l i ≡ Some x → get_or l i d ≡ x
got-at [] i x d h = none-some x h
got-at (y ∷ l) zero x d h = some-injective y x h
got-at (y ∷ l) (suc i) x d h = got-at l i x d h

pub at-get : {X : Type 0} (l : List X) (i : ℕ) (d : X) → i < length l → slice_get l i ≡ Some (get_or l i d)
at-get [] i d h = absurd (omega arith)
at-get (y ∷ l) zero d h = refl
at-get (y ∷ l) (suc i) d h = let less : i < length l = omega arith in at-get l i d less

-- the element of a loop over a list
pub item-at : {X : Type 0} (l : List X) (i : ℕ) (x : X) → i < length l → x ≡ get_or l i x → slice_get l i ≡ Some x
item-at l i x h is = at-get l i x h ∙ ap (λ y. Some y) (sym is)

pub take-next : {X : Type 0} (l : List X) (i : ℕ) (x : X) → slice_get l i ≡ Some x → take (suc i) l ≡ take i l ++ x ∷ []
take-next [] i x h = none-some x h
take-next (y ∷ l) zero x h = ap (λ z. z ∷ []) (some-injective y x h)
take-next (y ∷ l) (suc i) x h = ap (λ k. y ∷ k) (take-next l i x h)

pub drop-next : {X : Type 0} (l : List X) (i : ℕ) (x : X) → slice_get l i ≡ Some x → drop i l ≡ x ∷ drop (suc i) l
drop-next [] i x h = none-some x h
drop-next (y ∷ l) zero x h = ap (λ z. z ∷ l) (some-injective y x h)
drop-next (y ∷ l) (suc i) x h = drop-next l i x h
