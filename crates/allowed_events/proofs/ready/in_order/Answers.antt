use Rattle.allowed_events.proofs.Sooner.{sorted-already}
use Rattle.allowed_events.proofs.ready.in_order.Goals as goal

pub returns-then-are_in_order : goal.returns-then-are_in_order
returns-then-are_in_order c = λ S w allowed.
    sorted-already c.args.events _ c.as_slice.ensures (c.are_in_order.ensures c.if-are_in_order.true)
