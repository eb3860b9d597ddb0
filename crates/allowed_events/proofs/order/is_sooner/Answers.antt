use Rattle.std.proofs.Common.{◌∙◌}
use Rattle.address.specs.Order.{order_of}
use Rattle.allowed_events.proofs.FirstChosen.{sooner-by-other}
use Rattle.allowed_events.proofs.order.is_sooner.Goals as goal

pub returns-then-arm-other_arm-2 : goal.returns-then-arm-other_arm-2
returns-then-arm-other_arm-2 c =
    sooner-by-other c.args.one.now c.args.two.now c.compare.result c.order_of.result _ _ c.is_lt.result c.in-Equal.is
    (c.compare.ensures ∙ (λ i. order_of (c.acting_place.ensures i) (c.acting_place-2.ensures i))) c.arm_to_open-arm.ensures c.arm_to_open-other_arm.ensures
    c.if-arm-other_arm-2.true
    (c.order_of.ensures ∙ (λ i. order_of (c.other_place.ensures i) (c.other_place-then-arm-other_arm-2.ensures i))) c.is_lt.ensures
