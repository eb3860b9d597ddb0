-- The events of one action.
use Rattle.std.proofs.Common.{None, refl, sym, append-nil}
use Rattle.std.proofs.lemmas.Result.{on_ok_weaker}
use Rattle.local_actions.specs.View.{state_of}
use Rattle.allowed_events.specs.internal.Meeting.{solo}
use Rattle.allowed_events.proofs.ActedActions.{acted-alone, acted-met}
use Rattle.allowed_events.proofs.acting_events.add_acted.Goals as goal

pub returns-in-None : goal.returns-in-None
returns-in-None c = λ code table stems tidy.
    on_ok_weaker c.add_alone.result (λ h. acted-alone (state_of c.args.tree.now c.args.store.now) c.args.one.now c.args.events.now c.add_alone.new.events
    (solo c.args.one.now.place c.args.one.now.action) refl h c.in-None.ensures.looks) c.add_alone.ensures

pub returns-in_ok-others-in-Some : goal.returns-in_ok-others-in-Some
returns-in_ok-others-in-Some c = λ code table stems tidy.
    on_ok_weaker c.add_met.result (λ h. acted-met (state_of c.args.tree.now c.args.store.now) c.args.one.now c.in-Some.channel c.as_slice.result.now c.in_ok-others-in-Some.others c.args.events.now
    c.args.events.now c.add_met.new.events None (sym (c.in-Some.ensures.never_alone c.args.one.now.place)) (sym (append-nil c.args.events.now)) h c.as_slice.ensures
    (c.in_ok-others-in-Some.ensures code table stems tidy) c.in-Some.ensures.looks) c.add_met.ensures
