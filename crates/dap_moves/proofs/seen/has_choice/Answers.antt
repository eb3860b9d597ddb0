use Rattle.dap_moves.proofs.Passing.{with_arm, without_arm}
use Rattle.dap_moves.proofs.seen.has_choice.Goals as goal

pub returns-then-is_arm : goal.returns-then-is_arm
returns-then-is_arm c =
    with_arm c.is_arm.result c.equals.result c.args.choice.now c.args.event.now c.acting_place.result.now c.is_arm.ensures c.equals.ensures
    c.acting_place.ensures c.if-is_arm.true

pub returns-else-is_arm : goal.returns-else-is_arm
returns-else-is_arm c = without_arm c.is_arm.result c.args.choice.now c.args.event.now c.is_arm.ensures c.if-is_arm.false
