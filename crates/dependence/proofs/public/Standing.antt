-- Tickets and the places at which they stand.
use Rattle.std.proofs.Common.{◌≡◌, inl, inr, ℕ, zero, suc, ◌<◌, ◌≤◌, [], ◌∷◌, Some, refl, ap, subst, arith}
use Rattle.std.specs.Prelude.{slice_get}
use Rattle.std.proofs.lemmas.Bool.{cases_lt}
use Rattle.runs.specs.InOrder.{InOrder}
use Rattle.runs.specs.Live.{Live, Rising}
use Rattle.runs.specs.declared.event.Event.{Event}
use Rattle.runs.proofs.public.Lists.{every-of}
use Rattle.runs.proofs.public.Tickets.{rising-in}
use Rattle.dependence.proofs.public.ListPlaces.{in-at, at-one}

-- where the tickets rise they are in order
pub rising-order : (low next : ℕ) (l : Live) → Rising low l next → InOrder (λ (a : ℕ × Event) (b : ℕ × Event). a.0 < b.0) l
rising-order low next [] r = tt
rising-order low next (x ∷ l) r = (
  every-of (λ (y : ℕ × Event). x.0 < y.0) l (λ y i. let above : suc x.0 ≤ y.0 = (rising-in (suc x.0) next l y.0 y.1 r.1 i).0 in omega arith),
  rising-order (suc x.0) next l r.1,
)

-- where the tickets rise, those at later places are greater
pub index-rises : (low next : ℕ) (l : Live) (i j t u : ℕ) (e f : Event) → Rising low l next → slice_get l i ≡ Some (t, e) → slice_get l j ≡ Some (u, f) → i < j → t < u
index-rises low next [] i j t u e f r a b less = absurd (in-at [] i (t, e) a)
index-rises low next (x ∷ l) zero zero t u e f r a b less = absurd (omega arith)
index-rises low next (x ∷ l) zero (suc j) t u e f r a b less =
    let is : t ≡ x.0 = ap (λ (y : ℕ × Event). y.0) (at-one (x ∷ l) zero (t, e) x a refl) in
    let above : suc x.0 ≤ u = (rising-in (suc x.0) next l u f r.1 (in-at l j (u, f) b)).0 in
    omega arith
index-rises low next (x ∷ l) (suc i) zero t u e f r a b less = absurd (omega arith)
index-rises low next (x ∷ l) (suc i) (suc j) t u e f r a b less =
    let below : i < j = omega arith in index-rises (suc x.0) next l i j t u e f r.1 a b below

-- a lesser ticket stands at an earlier index
pub lesser-stands : (low next : ℕ) (l : Live) (i j t u : ℕ) (e f : Event) → Rising low l next → slice_get l i ≡ Some (t, e) → slice_get l j ≡ Some (u, f) → t < u → i < j
lesser-stands low next l i j t u e f r a b less =
    elim (cases_lt i j) [
      | inl low_i ↦ low_i
      | inr high ↦ elim (cases_lt j i) [
        | inl back ↦ let other : u < t = index-rises low next l j i u t f e r b a back in absurd (omega arith)
        | inr up ↦
            let is : i ≡ j = omega arith in
            let one : t ≡ u = ap (λ (y : ℕ × Event). y.0) (at-one l j (t, e) (u, f) (subst (λ (k : ℕ). slice_get l k ≡ Some (t, e)) is a) b) in
            absurd (omega arith)
      ]
    ]

-- one ticket stands at one index
pub same-index : (low next : ℕ) (l : Live) (i j t : ℕ) (e f : Event) → Rising low l next → slice_get l i ≡ Some (t, e) → slice_get l j ≡ Some (t, f) → i ≡ j
same-index low next l i j t e f r a b =
    elim (cases_lt i j) [
      | inl below ↦ let other : t < t = index-rises low next l i j t t e f r a b below in absurd (omega arith)
      | inr high ↦ elim (cases_lt j i) [
        | inl back ↦ let other : t < t = index-rises low next l j i t t f e r b a back in absurd (omega arith)
        | inr up ↦ omega arith
      ]
    ]
