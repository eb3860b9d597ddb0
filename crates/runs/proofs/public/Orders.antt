-- Orders of a run: an event moves past all that do not depend on it, and every respecting order leads to the same state.
use Rattle.std.proofs.Common.{◌≡◌, List, [], ◌∷◌, ◌++◌, refl, sym, subst}
use Rattle.syntax.specs.Lists.{Every}
use Rattle.runs.specs.Steps.{State, Step, Run}
use Rattle.runs.specs.Dependence.{Directly}
use Rattle.runs.specs.declared.event.Event.{Event}
use Rattle.runs.proofs.public.WellFormed.{WellFormed}
use Rattle.runs.proofs.Swap.{swap, step-formed}

-- the events of h, and then e, lead from S to U
pub record Last (S : State) (h : List Event) (e : Event) (U : State) : Type 0 where
  pub before : State
  pub run : Run S h before
  pub step : Step before e U

-- the events of h and then those of k
pub record Joined (S : State) (h k : List Event) (U : State) : Type 0 where
  pub middle : State
  pub first : Run S h middle
  pub second : Run middle k U

-- a run keeps the residual well formed
pub run-formed : (S T : State) (h : List Event) → WellFormed S.residual → Run S h T → WellFormed T.residual
run-formed S T [] w r = subst (λ (U : State). WellFormed U.residual) r w
run-formed S T (e ∷ h) w r = run-formed r.0 T h (step-formed S r.0 e w r.1) r.2

-- a run, and then another
pub run-join : (S T U : State) (h k : List Event) → Run S h T → Run T k U → Run S (h ++ k) U
run-join S T U [] k r q = subst (λ (V : State). Run V k U) (sym r) q
run-join S T U (e ∷ h) k r q = (r.0, r.1, run-join r.0 T U h k r.2 q)

-- a run of two lists is a run of the first and then of the second
pub run-part : (S U : State) (h k : List Event) → Run S (h ++ k) U → Joined S h k U
run-part S U [] k r = record { middle = S; first = refl; second = r }
run-part S U (e ∷ h) k r =
    let rest = run-part r.0 U h k r.2 in
    record { middle = rest.middle; first = (r.0, r.1, rest.first); second = rest.second }

-- an event is taken after those that do not depend on it
pub past : (S T U : State) (e : Event) (h : List Event) → WellFormed S.residual → Step S e T → Run T h U →
    Every (λ f. Directly e f → ⊥) h → Last S h e U
past S T U e [] w s r none = record { before = S; run = refl; step = subst (λ (V : State). Step S e V) r s }
past S T U e (f ∷ h) w s r none =
    let turned = swap S T r.0 e f w s r.1 none.0 in
    let rest = past turned.between r.0 U e h (step-formed S turned.between f w turned.first) turned.second r.2 none.1 in
    record { before = rest.before; run = (turned.between, turned.first, rest.run); step = rest.step }

-- a list that runs still runs without an event on which nothing after it depends directly,
-- and that event is then possible at the end and leads to the same state
pub without : (S U : State) (e : Event) (h k : List Event) → WellFormed S.residual → Run S (h ++ e ∷ k) U →
    Every (λ f. Directly e f → ⊥) k → Last S (h ++ k) e U
without S U e h k w r none =
    let parts = run-part S U h (e ∷ k) r in
    let rest = past parts.middle parts.second.0 U e k (run-formed S parts.middle h w parts.first) parts.second.1 parts.second.2 none in
    record { before = rest.before; run = run-join S parts.middle rest.before h k parts.first rest.run; step = rest.step }

-- an event is taken before those on which it does not depend
pub insert : (S U V : State) (e : Event) (h k : List Event) → WellFormed S.residual → Step S e U → Run U (h ++ k) V →
    Every (λ f. Directly e f → ⊥) h → Run S (h ++ e ∷ k) V
insert S U V e h k w s r none =
    let parts = run-part U V h k r in
    let rest = past S U parts.middle e h w s parts.first none in
    run-join S rest.before V h (e ∷ k) rest.run (parts.middle, rest.step, parts.second)

-- g is h with each event moved, one after another from the first, to a place in front of which nothing depends
-- directly on it: the form in which respecting orders are gone through
abbrev pub Woven : List Event → List Event → Type 0
Woven [] g = g ≡ []
Woven (e ∷ h) g = (before : List Event) × (after : List Event) × (g ≡ before ++ e ∷ after)
    × Every (λ f. Directly e f → ⊥) before × Woven h (before ++ after)

-- a list that runs, runs to the same state when its events are so moved
pub woven-runs : (S T : State) (h g : List Event) → WellFormed S.residual → Run S h T → Woven h g → Run S g T
woven-runs S T [] g w r o = subst (λ (l : List Event). Run S l T) (sym o) r
woven-runs S T (e ∷ h) g w r o =
    subst (λ (l : List Event). Run S l T) (sym o.2)
    (insert S r.0 T e o.0 o.1 w r.1 (woven-runs r.0 T h (o.0 ++ o.1) (step-formed S r.0 e w r.1) r.2 o.4) o.3)
