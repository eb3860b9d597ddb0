-- The events of all actions, in order.
use Rattle.std.proofs.lemmas.Result.{IfOk-weaker}
use Rattle.allowed_events.proofs.ByChannel.{among-allowed, among-ready}
use Rattle.allowed_events.proofs.among.events_among.Goals as goal

pub returns : goal.returns
returns c = λ S offers.
    let acted = c.in_ok-made.ensures S offers in
    IfOk-weaker c.in_order.result _ _ (λ sorted s. among-ready S c.args.actions.now c.in_ok-made.made sorted offers acted s)
    (c.in_order.ensures S offers.formed (among-allowed S c.args.actions.now c.in_ok-made.made offers acted))
