-- A list as far as a loop has gone through it.
use Rattle.std.proofs.Common.{◌≡◌, ℕ, zero, suc, ◌+◌, ◌<◌, ◌≤◌, List, [], ◌∷◌, ◌++◌, length, take, get_or, refl, ◌∙◌, ap, arith}
use Rattle.machine.proofs.public.Entries.{item-at, take-next}

-- the whole list, once all of it is passed
pub take-all : {X : Type 0} (l : List X) (i : ℕ) → length l ≤ i → take i l ≡ l
take-all [] zero h = refl
take-all [] (suc i) h = refl
take-all (y ∷ l) zero h = absurd (omega arith)
take-all (y ∷ l) (suc i) h = let less : length l ≤ i = omega arith in ap (λ k. y ∷ k) (take-all l i less)

pub take-more : {X : Type 0} (l : List X) (i : ℕ) (x : X) → i < length l → x ≡ get_or l i x → take (i + 1) l ≡ take i l ++ x ∷ []
take-more l i x less is = let more : i + 1 ≡ suc i = omega arith in ap (λ n. take n l) more ∙ take-next l i x (item-at l i x less is)
