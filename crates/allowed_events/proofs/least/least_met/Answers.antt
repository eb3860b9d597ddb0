-- The events of one action with others, one after another.
use Rattle.std.proofs.Common.{◌≡◌, ◌+◌, ◌<◌, ◌≤◌, ◌∷◌, ◌∙◌, None, List, length, drop, sym, ap, arith}
use Rattle.std.proofs.lemmas.Result.{IfOk-weaker}
use Rattle.std.proofs.lemmas.List.{drop_all, drop_more}
use Rattle.runs.specs.internal.AllowedEvents.{those}
use Rattle.local_actions.specs.Walk.{action_at}
use Rattle.local_actions.specs.declared.action.LocalAction.{LocalAction}
use Rattle.allowed_events.specs.internal.Least.{least_of}
use Rattle.allowed_events.specs.internal.Meeting.{met_with}
use Rattle.allowed_events.proofs.LeastChosen.{least-more, taken-first}
use Rattle.allowed_events.proofs.least.least_met.Goals as goal

pub loop-other-preserved : goal.loop-other-preserved
loop-other-preserved c =
    let all = c.args.others.now in
    let i = c.loop-other.other-index in
    let one = action_at c.args.place.now c.args.action.now in
    let within : i < length all = omega arith in
    let here : drop i all ≡ c.other-item.result ∷ drop (i + 1) all = drop_more all i c.other-item.result within ∙ ap (λ x. x ∷ drop (i + 1) all) (sym c.other-item.is) in
    least-more c.loop-other.least c.take.new.least c.in_ok-event.event (met_with one (drop (i + 1) all)) c.take.ensures
    ∙ ap (λ m. least_of c.loop-other.least (those m (met_with one (drop (i + 1) all)))) c.in_ok-event.ensures
    ∙ ap (λ (l : List LocalAction). least_of c.loop-other.least (met_with one l)) (sym here)
    ∙ c.loop-other.invariant

pub returns : goal.returns
returns c =
    let past : length c.args.others.now ≤ c.loop-other.other-index = omega arith in
    sym (ap (λ (l : List LocalAction). least_of c.loop-other.least (met_with (action_at c.args.place.now c.args.action.now) l)) (drop_all c.loop-other.other-index c.args.others.now past)) ∙ c.loop-other.invariant

pub returns-in-Some : goal.returns-in-Some
returns-in-Some c =
    IfOk-weaker c.met.result _ _ (λ made h. h ∙ taken-first _ ∙ sym (ap (λ (l : List LocalAction). least_of None (met_with (action_at c.args.place.now c.args.action.now) l)) c.in-Some.ensures)) c.met.ensures
