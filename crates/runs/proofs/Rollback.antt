-- A list that runs, runs without a set of events that holds all that depends on it.
use Rattle.runs.proofs.public.Lists.{every-of}
use Rattle.std.proofs.Common.{◌≡◌, inl, inr, List, [], ◌∷◌, refl, subst}
use Rattle.syntax.specs.Lists.{Every}
use Rattle.runs.specs.Steps.{State, Run}
use Rattle.runs.specs.Dependence.{Directly, Earlier, Causes, itself, onwards, Without, ended, stays, leaves}
use Rattle.runs.specs.declared.event.Event.{Event}
use Rattle.runs.proofs.public.WellFormed.{WellFormed}
use Rattle.runs.proofs.Swap.{step-formed}
use Rattle.runs.proofs.public.Orders.{past}

-- with an event of D, what depends directly on it later in the list is of D
abbrev pub Closed : (Event → Type 0) → List Event → Type 0
Closed D [] = Unit {0}
Closed D (f ∷ h) = (D f → Every (λ g. Directly f g → D g) h) × Closed D h

-- no kept event depends directly on f where all that do are of D
none-kept : (D : Event → Type 0) (f : Event) (h k : List Event) → Without D h k → Every (λ g. Directly f g → D g) h →
    Every (λ g. Directly f g → ⊥) k
none-kept D f h k ended every = tt
none-kept D f h k (stays {x = g} {l = h'} {k = k'} out rest) every = ((λ d. out (every.0 d)), none-kept D f h' k' rest every.1)
none-kept D f h k (leaves {l = h'} gone rest) every = none-kept D f h' k rest every.1

-- the rest of a list runs where a closed set is dropped
pub kept-runs : (D : Event → Type 0) (S T : State) (h k : List Event) → WellFormed S.residual → Run S h T → Closed D h → Without D h k →
    (U : State) × Run S k U
kept-runs D S T h k w r c ended = (S, refl)
kept-runs D S T h k w r c (stays {x = f} {l = h'} {k = k'} out rest) =
    let later = kept-runs D r.0 T h' k' (step-formed S r.0 f w r.1) r.2 c.1 rest in
    (later.0, (r.0, r.1, later.1))
kept-runs D S T h k w r c (leaves {x = f} {l = h'} gone rest) =
    let later = kept-runs D r.0 T h' k (step-formed S r.0 f w r.1) r.2 c.1 rest in
    let moved = past S r.0 later.0 f k w r.1 later.1 (none-kept D f h' k rest (c.0 gone)) in
    (moved.before, moved.run)

-- what depends on an event holds all that depends on it
closed-part : (l : List Event) (e : Event) (h : List Event) → ((f g : Event) → Earlier h f g → Earlier l f g) → Closed (Causes l e) h
closed-part l e [] inside = tt
closed-part l e (f ∷ h) inside = (
  (λ c. every-of (λ g. Directly f g → Causes l e g) h (λ g i d. onwards c (inside f g (inl (refl, i))) d)),
  closed-part l e h (λ x y s. inside x y (inr s)),
)

-- a list that runs, runs without an event and all that depends on it
pub rolled : (S T : State) (e : Event) (h k : List Event) → WellFormed S.residual → Run S h T → Without (Causes h e) h k →
    (U : State) × Run S k U
rolled S T e h k w r rest = kept-runs (Causes h e) S T h k w r (closed-part h e h (λ f g s. s)) rest

-- an event on which none after it depends directly causes itself alone
pub causes-alone : (h : List Event) (e f : Event) → ((g : Event) → Earlier h e g → Directly e g → ⊥) → Causes h e f → f ≡ e
causes-alone h e f none itself = refl
causes-alone h e f none (onwards {f = g} c early d) =
    let same = causes-alone h e g none c in
    absurd (none f (subst (λ (x : Event). Earlier h x f) same early) (subst (λ (x : Event). Directly x f) same d))
