-- The functions of steps and runs are the relations, and so an event leads to one state.
use Rattle.std.proofs.Common.{◌≡◌, ◌↔◌, List, [], ◌∷◌, Option, Some, None, refl, sym, ap, subst, ◌∙◌}
use Rattle.std.specs.Option.{option_and_then}
use Rattle.runs.specs.Moves.{Place, Move}
use Rattle.system.specs.Residual.{Residual}
use Rattle.runs.specs.Events.{Located, at, store_after}
use Rattle.runs.specs.Steps.{State, Moves, Step, Run}
use Rattle.runs.specs.internal.After.{after}
use Rattle.runs.specs.declared.ask.Ask.{Ask}
use Rattle.runs.specs.Asking.{ask_of, asked}
use Rattle.runs.specs.internal.Made.{all_ask, event_of}
use Rattle.runs.specs.internal.StepOf.{moves_of, agreed, step_of, run_of}
use Rattle.runs.specs.Tests.{same_event}
use Rattle.runs.proofs.public.Options.{none-some, some-injective, cond-some, cond-at, and_then-some, and_then-at}
use Rattle.runs.proofs.public.WellFormed.{WellFormed}
use Rattle.runs.proofs.public.Kept.{formed}
use Rattle.runs.proofs.Swap.{step-formed}
use Rattle.runs.proofs.public.Sameness.{same_event-decides}
use Rattle.runs.proofs.public.After.{found, only}
use Rattle.runs.proofs.public.Made.{asked-is, made-found, made-only}
use Rattle.runs.specs.declared.event.Event.{Event}

-- the moves that a well-formed residual offers in turn are found by what they answer to
pub moves-found : (r : Residual) (ls : List Located) (q : Residual) → WellFormed r → Moves r ls q
    → moves_of r (all_ask ls) ≡ Some (ls, q)
moves-found r [] q w h = ap (λ t. Some ([], t)) h
moves-found r (l ∷ ls) q w h =
    and_then-at (λ x. option_and_then (λ y. Some (at l.place x.0 ∷ y.0, y.1)) (moves_of x.1 (all_ask ls)))
    (after (ask_of l.move) r l.place) (l.move, h.0) (found r l.place l.move h.0 w h.1)
    ∙ and_then-at (λ y. Some (l ∷ y.0, y.1)) (moves_of h.0 (all_ask ls)) (ls, q)
    (moves-found h.0 ls q (formed r l.place l.move h.0 w h.1) h.2)

-- the moves that are found are offered in turn, and answer to what was asked
pub moves-only : (r : Residual) (ks : List (Place × Ask)) (ls : List Located) (q : Residual) → moves_of r ks ≡ Some (ls, q)
    → Moves r ls q × (all_ask ls ≡ ks)
moves-only r [] ls q h =
    subst (λ (z : List Located × Residual). Moves r z.0 z.1 × (all_ask z.0 ≡ [])) (some-injective ([], r) (ls, q) h) (refl, refl)
moves-only r (k ∷ ks) ls q h =
    let d = and_then-some (λ x. option_and_then (λ y. Some (at k.0 x.0 ∷ y.0, y.1)) (moves_of x.1 ks)) (after k.1 r k.0) (ls, q) h in
    let x : Move × Residual = d.0 in
    let g = and_then-some (λ y. Some (at k.0 x.0 ∷ y.0, y.1)) (moves_of x.1 ks) (ls, q) d.2 in
    let y : List Located × Residual = g.0 in
    let o = only k.1 r k.0 x.0 x.1 d.1 in
    let c = moves-only x.1 ks y.0 y.1 g.1 in
    subst (λ (z : List Located × Residual). Moves r z.0 z.1 × (all_ask z.0 ≡ k ∷ ks))
    (some-injective (at k.0 x.0 ∷ y.0, y.1) (ls, q) g.2)
    ((x.1, o.0, c.0), λ i. (k.0, o.1 i) ∷ c.1 i)

-- a step is the answer of the function
pub step-found : (S : State) (e : Event) (T : State) → WellFormed S.residual → Step S e T → step_of S e ≡ Some T
step-found S e T w h =
    and_then-at (λ ks. option_and_then (λ x. agreed S e x.1 (event_of S.store x.0)) (moves_of S.residual ks))
    (asked e) (all_ask h.moves) (asked-is S.store h.moves e h.makes)
    ∙ and_then-at (λ x. agreed S e x.1 (event_of S.store x.0)) (moves_of S.residual (all_ask h.moves)) (h.moves, T.residual)
    (moves-found S.residual h.moves T.residual w h.moved)
    ∙ ap (agreed S e T.residual) (made-found S.store h.moves e h.makes)
    ∙ cond-at (same_event e e) _ ((same_event-decides e e).1 refl)
    ∙ (λ i. Some (record { residual = T.residual; store = sym h.stored i }))

-- a state is answered where the event made is the event given
agreed-is : (S : State) (e : Event) (q : Residual) (x : Option Event) (T : State) → agreed S e q x ≡ Some T
    → (x ≡ Some e) × (q ≡ T.residual) × (T.store ≡ store_after e S.store)
agreed-is S e q None T h = none-some T h
agreed-is S e q (Some f) T h =
    let g = cond-some (same_event f e) (Some (record { residual = q; store = store_after e S.store })) T h in
    let p = some-injective (record { residual = q; store = store_after e S.store }) T g.1 in
    (ap (λ x. Some x) ((same_event-decides f e).0 g.0), ap (λ (U : State). U.residual) p, ap (λ (U : State). U.store) (sym p))

-- the answer of the function is a step
pub step-only : (S : State) (e : Event) (T : State) → step_of S e ≡ Some T → Step S e T
step-only S e T h =
    let d = and_then-some (λ ks. option_and_then (λ x. agreed S e x.1 (event_of S.store x.0)) (moves_of S.residual ks)) (asked e) T h in
    let g = and_then-some (λ x. agreed S e x.1 (event_of S.store x.0)) (moves_of S.residual d.0) T d.2 in
    let x : List Located × Residual = g.0 in
    let a = agreed-is S e x.1 (event_of S.store x.0) T g.2 in
    record {
      moves = x.0;
      makes = made-only S.store x.0 e a.0;
      moved = subst (Moves S.residual x.0) a.1 (moves-only S.residual d.0 x.0 x.1 g.1).0;
      stored = a.2;
    }

-- the function of steps is the relation
pub step-of : (S : State) (e : Event) (T : State) → WellFormed S.residual → (step_of S e ≡ Some T) ↔ Step S e T
step-of S e T w = (step-only S e T, step-found S e T w)

-- a run is the answer of the function
pub run-found : (S : State) (h : List Event) (T : State) → WellFormed S.residual → Run S h T → run_of S h ≡ Some T
run-found S [] T w r = ap (λ U. Some U) r
run-found S (e ∷ h) T w r =
    and_then-at (λ U. run_of U h) (step_of S e) r.0 (step-found S e r.0 w r.1)
    ∙ run-found r.0 h T (step-formed S r.0 e w r.1) r.2

-- the answer of the function is a run
pub run-only : (S : State) (h : List Event) (T : State) → run_of S h ≡ Some T → Run S h T
run-only S [] T r = some-injective S T r
run-only S (e ∷ h) T r =
    let d = and_then-some (λ U. run_of U h) (step_of S e) T r in
    (d.0, step-only S e d.0 d.1, run-only d.0 h T d.2)

-- the function of runs is the relation
pub run-of : (S : State) (h : List Event) (T : State) → WellFormed S.residual → (run_of S h ≡ Some T) ↔ Run S h T
run-of S h T w = (run-only S h T, run-found S h T w)

-- an event leads from a state to one state
pub step-determined : (S : State) (e : Event) (T U : State) → WellFormed S.residual → Step S e T → Step S e U → T ≡ U
step-determined S e T U w h g = some-injective T U (sym (step-found S e T w h) ∙ step-found S e U w g)

-- events in their order lead from a state to one state
pub run-determined : (S : State) (h : List Event) (T U : State) → WellFormed S.residual → Run S h T → Run S h U → T ≡ U
run-determined S h T U w r t = some-injective T U (sym (run-found S h T w r) ∙ run-found S h U w t)
