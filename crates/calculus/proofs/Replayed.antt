-- The answer of a replay in terms of runs.
use Rattle.std.proofs.Common.{◌≡◌, ◌↔◌, List, Option, Some, None, Result, sym, ap, subst, ◌∙◌}
use Rattle.std.specs.Prelude.{IfOk, MatchOption}
use Rattle.std.specs.Option.{option_map, IfSome}
use Rattle.std.proofs.lemmas.Result.{IfOk-weaker}
use Rattle.system.specs.declared.system.System.{System}
use Rattle.sharing_rule.specs.Rule.{SharesWell}
use Rattle.calculus.specs.Ruled.{RelatedInOrder, OneForEachChoice}
use Rattle.runs.specs.Steps.{State, Step, Allowed, Run, opening}
use Rattle.runs.specs.internal.StepOf.{step_of, run_of}
use Rattle.runs.specs.internal.AllowedEvents.{allowed_events}
use Rattle.runs.specs.WellFormed.{WellFormed}
use Rattle.syntax.specs.Lists.{In}
use Rattle.calculus.specs.ResidualTree.{state_of}
use Rattle.runs.specs.declared.event.Event.{Event}
use Rattle.calculus.specs.declared.plain.Plain.{Plain}
use Rattle.runs.proofs.public.FromOpening.{ordered, one_choice, allowed_where_formed}
use Rattle.runs.proofs.public.Options.{none-some}
use Rattle.runs.proofs.public.StepOf.{step-found, step-only, run-found, run-only}
use Rattle.runs.proofs.public.Opening.{opening-formed}

-- a state is answered where the events run to it, and none where they do not run
answered : (system : System) (h : List Event) (r : Option Plain) → option_map state_of r ≡ run_of (opening system) h
    → MatchOption r ((T : State) → Run (opening system) h T → ⊥) (λ p. Run (opening system) h (state_of p))
answered system h None e = λ T run. none-some T (e ∙ run-found (opening system) h T (opening-formed system) run)
answered system h (Some p) e = run-only (opening system) h (state_of p) (sym e)

-- a state is answered where the event leads to it, and none where the event is not allowed
after_one : (S : State) (e : Event) (r : Option Plain) → WellFormed S.residual → option_map state_of r ≡ step_of S e
    → MatchOption r ((T : State) → Step S e T → ⊥) (λ p. Step S e (state_of p))
after_one S e None w is = λ T step. none-some T (is ∙ step-found S e T w step)
after_one S e (Some p) w is = step-only S e (state_of p) (sym is)

-- the same of a result
pub stepped : {E : Type 0} (S : State) (e : Event) (r : Result (Option Plain) E) → WellFormed S.residual
    → IfOk r (λ o. option_map state_of o ≡ step_of S e)
    → IfOk r (λ o. MatchOption o ((T : State) → Step S e T → ⊥) (λ p. Step S e (state_of p)))
stepped S e r w i =
    IfOk-weaker r (λ o. option_map state_of o ≡ step_of S e)
    (λ o. MatchOption o ((T : State) → Step S e T → ⊥) (λ p. Step S e (state_of p)))
    (λ o is. after_one S e o w is) i

-- exactly the events that are allowed are listed
pub listed : {E : Type 0} (S : State) (r : Result (List Event) E) → WellFormed S.residual → IfOk r (λ es. es ≡ allowed_events S)
    → IfOk r (λ es. (e : Event) → In e es ↔ Allowed S e)
listed S r w i =
    IfOk-weaker r (λ es. es ≡ allowed_events S) (λ es. (e : Event) → In e es ↔ Allowed S e)
    (λ es is e.
    let both = allowed_where_formed S e w in
    (λ here. both.1 (subst (In e) is here), λ a. subst (In e) (sym is) (both.0 a))) i

-- the same of a result, of a system that is the one given
pub replayed : {E : Type 0} (system given : System) (h : List Event) (r : Result (Option Plain) E) → given ≡ system
    → IfOk r (λ o. option_map state_of o ≡ run_of (opening given) h)
    → IfOk r (λ o. MatchOption o ((T : State) → Run (opening system) h T → ⊥) (λ p. Run (opening system) h (state_of p)))
replayed system given h r g i =
    IfOk-weaker r (λ o. option_map state_of o ≡ run_of (opening given) h)
    (λ o. MatchOption o ((T : State) → Run (opening system) h T → ⊥) (λ p. Run (opening system) h (state_of p)))
    (λ o e. answered system h o (e ∙ ap (λ s. run_of (opening s) h) g)) i

-- where the rule on sharing is kept, the run is ordered by it, and a choice means one event
in_order : (system : System) (h : List Event) (o : Option Plain) → SharesWell system
    → MatchOption o ((T : State) → Run (opening system) h T → ⊥) (λ p. Run (opening system) h (state_of p))
    → IfSome o (λ p. RelatedInOrder system h × OneForEachChoice (state_of p))
in_order system h None rule none = tt
in_order system h (Some p) rule run = (
  λ e f i related. ordered system h (state_of p) e f rule run i related,
  λ e f a b same. one_choice system h (state_of p) e f rule run a b same,
)

-- the same of a result
pub ruled : {E : Type 0} (system : System) (h : List Event) (r : Result (Option Plain) E) → SharesWell system
    → IfOk r (λ o. MatchOption o ((T : State) → Run (opening system) h T → ⊥) (λ p. Run (opening system) h (state_of p)))
    → IfOk r (λ o. IfSome o (λ p. RelatedInOrder system h × OneForEachChoice (state_of p)))
ruled system h r rule i =
    IfOk-weaker r
    (λ o. MatchOption o ((T : State) → Run (opening system) h T → ⊥) (λ p. Run (opening system) h (state_of p)))
    (λ o. IfSome o (λ p. RelatedInOrder system h × OneForEachChoice (state_of p)))
    (λ o m. in_order system h o rule m) i
