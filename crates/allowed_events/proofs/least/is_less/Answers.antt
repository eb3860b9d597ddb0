use Rattle.std.proofs.Common.{Option, ◌∙◌, sym, ap}
use Rattle.std.specs.Ordering.{is_lt}
use Rattle.address.specs.Order.{order_of}
use Rattle.runs.specs.declared.event.Event.{Event}
use Rattle.allowed_events.specs.internal.Least.{is_less}
use Rattle.allowed_events.proofs.least.is_less.Goals as goal

pub returns-in-Some : goal.returns-in-Some
returns-in-Some c =
    c.is_lt.ensures
    ∙ ap is_lt (c.order_of-order.ensures ∙ (λ i. order_of (c.other_place-own.ensures i) (c.other_place-others.ensures i)))
    ∙ sym (ap (λ (o : Option Event). is_less c.args.event.now o) c.in-Some.is)
