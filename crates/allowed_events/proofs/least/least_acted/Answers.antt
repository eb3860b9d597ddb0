-- The events of one action.
use Rattle.std.proofs.lemmas.Result.{IfOk-weaker}
use Rattle.local_actions.specs.View.{state_of}
use Rattle.local_actions.specs.Walk.{action_at}
use Rattle.allowed_events.proofs.LeastChosen.{taken-alone, taken-met}
use Rattle.allowed_events.proofs.least.least_acted.Goals as goal

pub returns-in-None : goal.returns-in-None
returns-in-None c = λ code table stems tidy.
    IfOk-weaker c.alone.result _ _ (λ made h. taken-alone (state_of c.args.tree.now c.args.store.now) (action_at c.args.place.now c.args.action) made h c.in-None.ensures.looks) c.alone.ensures

pub returns-in_ok-others-in-Some : goal.returns-in_ok-others-in-Some
returns-in_ok-others-in-Some c = λ code table stems tidy.
    IfOk-weaker c.least_met.result _ _
    (λ least h. taken-met (state_of c.args.tree.now c.args.store.now) c.in-Some.channel (action_at c.args.place.now c.args.action) c.as_slice.result.now c.in_ok-others-in-Some.others least c.in-Some.ensures.never_alone
    c.as_slice.ensures (c.in_ok-others-in-Some.ensures code table stems tidy) c.in-Some.ensures.looks h) c.least_met.ensures
