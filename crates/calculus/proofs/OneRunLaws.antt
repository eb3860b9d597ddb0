-- Two lists of events as one run.
use Rattle.std.proofs.Common.{◌≡◌, ◌↔◌, inl, inr, List, Bool, Option, Some, None, sym, subst, ◌∙◌, true≢false}
use Rattle.std.specs.Prelude.{IsTrue, MatchOption, is_some}
use Rattle.calculus.specs.ResidualTree.{state_of}
use Rattle.calculus.specs.declared.plain.Plain.{Plain}
use Rattle.system.specs.declared.system.System.{System}
use Rattle.sharing_rule.specs.Rule.{is_shared, SharesWell}
use Rattle.runs.specs.Dependence.{OnOneVariable, Earlier, Rearranged, Respecting}
use Rattle.runs.specs.Related.{OnOneShared}
use Rattle.runs.specs.Steps.{State, Run, opening}
use Rattle.runs.specs.declared.event.Event.{Event}
use Rattle.runs.proofs.public.Options.{none-some, some-injective}
use Rattle.runs.proofs.public.Elements.{rearranged-turned, rearranged-distinct, one-order, either-order}
use Rattle.runs.proofs.public.FromOpening.{respecting_orders, one_state, acting_once, same_events, runs_depend_alike}
use Rattle.calculus.specs.OneRun.{OneRun, OneRunRespects, OneRunEndsOnce, OneRunDependsAlike}
use Rattle.calculus.specs.internal.Comparing.{ActsOnce, Alike}
use Rattle.calculus.proofs.ListPlaces.{distinct-of}

pub acts-once : (system : System) (h : List Event) (T : State) → Run (opening system) h T → ActsOnce h
acts-once system h T r = λ e f i same. acting_once system h T e f r i same

-- what is on one shared variable is on one variable, and depends directly
on-variable : (system : System) (e f : Event) → OnOneShared (is_shared system) e f → OnOneVariable e f
on-variable system e f on = elim on [
  | inl (x, shared, written, touched) ↦ inl (x, written, touched)
  | inr (x, shared, written, touched) ↦ inr (x, written, touched)
]

-- it is a word on the two events without order
turned : (system : System) (e f : Event) → OnOneShared (is_shared system) e f → OnOneShared (is_shared system) f e
turned system e f on = elim on [ inl u ↦ inr u | inr u ↦ inl u ]

-- one order from the first list to the second is one the other way round as well
both-ways : (system : System) (a b : List Event) (T : State) → Run (opening system) a T → Rearranged a b →
    ((e f : Event) → OnOneShared (is_shared system) e f → Earlier a e f → Earlier b e f) →
    (e f : Event) → OnOneShared (is_shared system) e f → Earlier a e f ↔ Earlier b e f
both-ways system a b T r again forth e f on =
    let distinct = distinct-of a (acts-once system a T r) in (
      forth e f on,
      λ i. elim (either-order b a (rearranged-turned a b again) e f i) [
        | inl u ↦ u
        | inr u ↦ absurd (one-order b e f (rearranged-distinct a b again distinct) i (forth f e (turned system e f on) u))
      ],
    )

-- each of one run is a respecting order of the other
pub both-respect : (system : System) (a b : List Event) → SharesWell system → OneRun system a b → Respecting a b × Respecting b a
both-respect system a b rule one =
    same_events system a b one.first.0 one.second.0 rule one.first.1 one.second.1 one.same_events (λ e f i on. (one.one_order e f on).0 i)

-- a respecting order of a run is one run with it
pub respecting-one : (system : System) (a b : List Event) (T : State) → Run (opening system) a T → Respecting a b → OneRun system a b
respecting-one system a b T r respects = record {
  first = (T, r);
  second = (T, respecting_orders system a b T r respects);
  same_events = respects.rearranged;
  one_order = both-ways system a b T r respects.rearranged (λ e f on i. respects.keeps e f i (inr (inr (on-variable system e f on))));
}

pub one-run-respects : OneRunRespects
one-run-respects system a b rule = (
  (
    (λ one. (one.first, (both-respect system a b rule one).0)),
    (λ h. respecting-one system a b h.0.0 h.0.1 h.1),
  ),
  λ one. (both-respect system a b rule one).1,
)

pub one-run-ends-once : OneRunEndsOnce
one-run-ends-once system a b T U rule one r q =
    one_state system b T U (respecting_orders system a b T r (both-respect system a b rule one).0) q

pub one-run-depends-alike : OneRunDependsAlike
one-run-depends-alike system a b e f rule one =
    runs_depend_alike system a b one.first.0 one.second.0 e f rule one.first.1 one.second.1 one.same_events (λ x y i on. (one.one_order x y on).0 i)

-- ---- what the comparison tells
-- lists that are alike are one run, where both run
pub alike-one : (system : System) (a b : List Event) (T U : State) → Run (opening system) a T → Run (opening system) b U → Alike a b → OneRun system a b
alike-one system a b T U r q alike = record {
  first = (T, r);
  second = (U, q);
  same_events = alike.same_events;
  one_order = both-ways system a b T r alike.same_events (λ e f on i. alike.one_order e f i (on-variable system e f on));
}

-- and one run is alike
pub one-alike : (system : System) (a b : List Event) → SharesWell system → OneRun system a b → Alike a b
one-alike system a b rule one =
    let respects = (both-respect system a b rule one).0 in
    record { same_events = one.same_events; one_order = λ e f i on. respects.keeps e f i (inr (inr on)) }

-- ---- the answers
-- an answer to whether the events run
pub runs-answer : (system : System) (h : List Event) (o : Option Plain) (b : Bool) → b ≡ is_some o →
    MatchOption o ((T : State) → Run (opening system) h T → ⊥) (λ p. Run (opening system) h (state_of p)) → IsTrue b ↔ ((T : State) × Run (opening system) h T)
runs-answer system h None b is none = (λ yes. absurd (true≢false (sym yes ∙ is)), λ run. absurd (none run.0 run.1))
runs-answer system h (Some p) b is run = (λ yes. (state_of p, run), λ _. is)

-- the state of the second list is that of both
pub one-state-of : (system : System) (a b : List Event) (U : State) → SharesWell system → ((T : State) × Run (opening system) a T) → Run (opening system) b U →
    Alike a b → OneRun system a b × Run (opening system) a U × Run (opening system) b U
one-state-of system a b U rule r q alike =
    let one = alike-one system a b r.0 U r.1 q alike in
    let back = (both-respect system a b rule one).1 in
    (one, respecting_orders system b a U q back, q)

-- the events run to the state that is answered
pub ran : (system : System) (h : List Event) (o : Option Plain) (p : Plain) → o ≡ Some p →
    MatchOption o ((T : State) → Run (opening system) h T → ⊥) (λ q. Run (opening system) h (state_of q)) → Run (opening system) h (state_of p)
ran system h None p is none = none-some p is
ran system h (Some q) p is run = subst (λ (x : Plain). Run (opening system) h (state_of x)) (some-injective q p is) run
