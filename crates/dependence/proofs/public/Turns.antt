-- Loops over the live events: which of them a turn has, and that in the end each was had.
use Rattle.std.proofs.Common.{◌≡◌, ℕ, zero, suc, ◌+◌, ◌<◌, List, [], ◌∷◌, length, drop, Some, refl, sym, ◌∙◌, ap, subst, arith}
use Rattle.std.specs.Prelude.{slice_get}
use Rattle.std.specs.Iterator.{Yields}
use Rattle.std.proofs.lemmas.Option.{slice_get_within}
use Rattle.runs.specs.Live.{Live, IsLive}
use Rattle.runs.specs.declared.event.Event.{Event}
use Rattle.dependence.specs.Listing.{GivesFirst}
use Rattle.dependence.proofs.public.ListPlaces.{in-at}
use denote.Ref.{Bor}

-- what stands at an index is the first of what is behind so many
at-drop : (l : Live) (n : ℕ) → slice_get l n ≡ slice_get (drop n l) 0
at-drop l zero = refl
at-drop [] (suc n) = refl
at-drop (y ∷ l) (suc n) = at-drop l n

first-behind : (l rest : Live) (n : ℕ) (x : ℕ × Event) → drop n l ≡ x ∷ rest → slice_get l n ≡ Some x
first-behind l rest n x is = at-drop l n ∙ ap (λ (k : Live). slice_get k 0) is

-- what is left once these were had
left-after : (s t : Live) (had : List (ℕ × Bor Event)) → Yields GivesFirst s had t → (t ≡ drop (length had) s) × (length s ≡ length had + length t)
left-after s t [] y = let same : length s ≡ length t = ap (λ (l : Live). length l) y in (sym y, omega arith)
left-after s t (x ∷ had) y =
    let rest = left-after y.0 t had y.2 in
    let first : length s ≡ suc (length y.0) = ap (λ (l : Live). length l) y.1 in
    let others = rest.1 in
    (rest.0 ∙ sym (ap (λ (l : Live). drop (suc (length had)) l) y.1), omega arith)

-- a turn has the event whose index is how many were had
pub turn : (live it t u : Live) (had : List (ℕ × Bor Event)) (x : ℕ × Event) (index : ℕ) → it ≡ live → index ≡ length had → Yields GivesFirst it had t
    → t ≡ x ∷ u → slice_get live index ≡ Some x
turn live it t u had x index is here y first =
    subst (λ (n : ℕ). slice_get live n ≡ Some x) (sym here)
    (subst (λ (l : Live). slice_get l (length had) ≡ Some x) is (first-behind it u (length had) x (sym (left-after it t had y).0 ∙ first)))

-- and it is live
pub turn-live : (live it t u : Live) (had : List (ℕ × Bor Event)) (x : ℕ × Event) → it ≡ live → Yields GivesFirst it had t → t ≡ x ∷ u → IsLive live x.0
turn-live live it t u had x is y first = (x.1, in-at live (length had) x (turn live it t u had x (length had) is refl y first))

-- its index is less than there are events
pub turn-within : (live it t u : Live) (had : List (ℕ × Bor Event)) (x : ℕ × Event) (index : ℕ) → it ≡ live → index ≡ length had → Yields GivesFirst it had t
    → t ≡ x ∷ u → index < length live
turn-within live it t u had x index is here y first = slice_get_within live index x (turn live it t u had x index is here y first)

-- once none is left as many were had as there are
pub ended : (live it t : Live) (had : List (ℕ × Bor Event)) → it ≡ live → Yields GivesFirst it had t → t ≡ [] → length had ≡ length live
ended live it t had is y none =
    let sizes = (left-after it t had y).1 in
    let last : length t ≡ 0 = ap (λ (l : Live). length l) none in
    let same : length it ≡ length live = ap (λ (l : Live). length l) is in
    omega arith
