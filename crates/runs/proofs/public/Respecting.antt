-- Respecting orders of a list that runs, gone through one event after another.
use Rattle.runs.proofs.public.Lists.{in-left, in-right, in-parts, every-of}
use Rattle.std.proofs.Common.{◌≡◌, inl, inr, List, [], ◌∷◌, ◌++◌, refl, sym, subst}
use Rattle.syntax.specs.Lists.{In}
use Rattle.runs.specs.Steps.{State, Run}
use Rattle.runs.specs.Dependence.{Directly, Earlier, Rearranged, Respecting}
use Rattle.runs.specs.declared.event.Event.{Event}
use Rattle.runs.proofs.public.WellFormed.{WellFormed}
use Rattle.runs.proofs.public.Elements.{Distinct, rearranged-in, rearranged-distinct, earlier-first, earlier-second, earlier-before, one-order}
use Rattle.runs.proofs.public.Once.{events-differ}
use Rattle.runs.proofs.public.Orders.{Woven, woven-runs}

-- two elements of a list stand as before when another is taken out
earlier-less : (e x y : Event) (h k : List Event) → (x ≡ e → ⊥) → (y ≡ e → ⊥) → Earlier (h ++ e ∷ k) x y → Earlier (h ++ k) x y
earlier-less e x y [] k nx ny i = elim i [ inl u ↦ absurd (nx (sym u.0)) | inr u ↦ u ]
earlier-less e x y (z ∷ h) k nx ny i =
    elim i [
      | inl u ↦ elim (in-parts y h (e ∷ k) u.1) [
        | inl v ↦ inl (u.0, in-left y h k v)
        | inr (inl v) ↦ absurd (ny v)
        | inr (inr v) ↦ inl (u.0, in-right y h k v)
      ]
      | inr u ↦ inr (earlier-less e x y h k nx ny u)
    ]

-- a respecting order, gone through from the first event on
pub woven : (h g : List Event) → Distinct h → Rearranged h g → ((e f : Event) → Earlier h e f → Directly e f → Earlier g e f) → Woven h g
woven [] g d r keeps = r
woven (e ∷ h) g d r keeps =
    let g_distinct = rearranged-distinct (e ∷ h) g r d in
    let inside : (f : Event) → In f (r.0 ++ r.1) → In f h = λ f i. rearranged-in h (r.0 ++ r.1) f r.3 i in
    let other : (f : Event) → In f h → f ≡ e → ⊥ = λ f i same. d e (inl (refl, subst (λ (x : Event). In x h) same i)) in (
      r.0,
      r.1,
      r.2,
      every-of (λ f. Directly e f → ⊥) r.0 (λ f i depends. one-order g e f g_distinct (keeps e f (inl (refl, inside f (in-left f r.0 r.1 i))) depends)
          (subst (λ (l : List Event). Earlier l f e) (sym r.2) (earlier-before e f r.0 r.1 i))),
      woven h (r.0 ++ r.1) (λ f i. d f (inr i)) r.3
          (λ x y i depends. earlier-less e x y r.0 r.1 (other x (earlier-first h x y i)) (other y (earlier-second h x y i))
          (subst (λ (l : List Event). Earlier l x y) r.2 (keeps x y (inr i) depends))),
    )

-- the events of a run are distinct
pub run-distinct : (S T : State) (h : List Event) → WellFormed S.residual → Run S h T → Distinct h
run-distinct S T h w r f i = events-differ S T f f h w r i refl

-- every respecting order of a list that runs, runs to the same state
pub respecting-runs : (S T : State) (h g : List Event) → WellFormed S.residual → Run S h T → Respecting h g → Run S g T
respecting-runs S T h g w r o = woven-runs S T h g w r (woven h g (run-distinct S T h w r) o.rearranged o.keeps)
