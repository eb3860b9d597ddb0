-- The events of one action.
use Rattle.std.proofs.Common.{None, refl, sym, append-nil}
use Rattle.std.proofs.lemmas.Result.{on_ok_weaker}
use Rattle.allowed_events.specs.internal.Meeting.{solo}
use Rattle.allowed_events.proofs.ActedActions.{acted-alone}
use Rattle.allowed_events.proofs.ByChannel.{acted-among}
use Rattle.allowed_events.proofs.among.add_made.Goals as goal

pub returns-in-None : goal.returns-in-None
returns-in-None c = λ S offers.
    on_ok_weaker c.add_alone.result (λ h. acted-alone S c.args.one.now c.args.events.now c.add_alone.new.events (solo c.args.one.now.place c.args.one.now.action) refl h c.in-None.ensures.looks) c.add_alone.ensures

pub returns-in-Some : goal.returns-in-Some
returns-in-Some c = λ S offers.
    on_ok_weaker c.add_with_partners.result (λ h. acted-among S c.args.one.now c.in-Some.channel c.args.actions.now c.args.events.now c.args.events.now c.add_with_partners.new.events
    None (sym (c.in-Some.ensures.never_alone c.args.one.now.place)) (sym (append-nil c.args.events.now)) h offers c.in-Some.ensures.looks) c.add_with_partners.ensures
