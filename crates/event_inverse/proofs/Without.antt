-- An event taken back by its record leaves the run without it, and where it was the last, what stood before it.
use Rattle.std.proofs.Common.{◌≡◌, List, [], ◌∷◌, ◌++◌, length, Some, sym, ap, subst, ◌∙◌, arith}
use Rattle.runs.specs.declared.event.Event.{Event}
use Rattle.runs.proofs.public.Options.{some-injective}
use Rattle.event_inverse.specs.Grown.{TreeAndStore, Taken, StandFor}
use Rattle.event_inverse.specs.Laws.{UndoneBy, LastUndone}
use Rattle.event_inverse.specs.internal.Reverted.{reverted}
use Rattle.event_inverse.proofs.public.FromOpening.{undone-by-records}
use Rattle.event_inverse.proofs.public.Neighbours.{reverts}

-- the first of a list, or x
abbrev first_or : {X : Type 0} → X → List X → X
first_or x [] = x
first_or x (y ∷ ys) = y

-- the list without its first
abbrev others : {X : Type 0} → List X → List X
others [] = []
others (y ∷ ys) = ys

-- equal lists agree at the same place
at-place : {X : Type 0} (P : List X → X → List X → Type 0) (us : List X) (v : X) (vs xs : List X) (y : X) (ys : List X) → length us ≡ length xs
    → xs ++ y ∷ ys ≡ us ++ v ∷ vs → P us v vs → P xs y ys
at-place P [] v vs [] y ys l e p = subst (λ zs. P [] y zs) (sym (ap others e)) (subst (λ z. P [] z vs) (sym (ap (first_or y) e)) p)
at-place P [] v vs (x ∷ xs) y ys l e p = absurd (omega (arith, l))
at-place P (u ∷ us) v vs [] y ys l e p = absurd (omega (arith, l))
at-place P (u ∷ us) v vs (x ∷ xs) y ys l e p =
    subst (λ z. P (z ∷ xs) y ys) (sym (ap (first_or x) e))
    (at-place (λ before z behind. P (u ∷ before) z behind) us v vs xs y ys (omega (arith, l)) (ap others e) p)

pub undone-by : (T U : TreeAndStore) (r : Event × Taken) → reverted T r.0 r.1 ≡ Some U → UndoneBy T r U
undone-by T U r back system h k earlier later s l none =
    let u = undone-by-records system h k r.0 T (earlier ++ r ∷ later) s none in
    at-place (λ first x rest. reverted T r.0 x.1 ≡ Some U → StandFor system (h ++ k) U (first ++ rest)) u.earlier (r.0, u.taken) u.later earlier r later
    (u.placed ∙ sym l) u.found
    (λ e. subst (λ (S : TreeAndStore). StandFor system (h ++ k) S (u.earlier ++ u.later)) (some-injective u.tree U (sym u.reverts ∙ e)) u.stands) back

pub last-undone : (T U : TreeAndStore) (r : Event × Taken) → reverted T r.0 r.1 ≡ Some U → LastUndone T r U
last-undone T U r back S made = some-injective U S (sym back ∙ reverts S r.0 (T, r.1) made)
