use Rattle.std.proofs.Common.{◌∙◌}
use Rattle.types.proofs.Turns.{and_channel}
use Rattle.types.proofs.arms.different.Goals as goal

pub loop-arm-preserved : goal.loop-arm-preserved
loop-arm-preserved c =
    and_channel c.args.arms.now c.loop-arm.arm-index c.arm-item.result c.loop-arm.seen.keys c.new_channel.new.seen.keys
    c.loop-arm.outcome c.and-outcome.result c.in_ok-new_channel.field-0 c.loop-arm-test.true c.arm-item.is
    c.in_ok-new_channel.ensures.made c.in_ok-new_channel.ensures.seen c.and-outcome.ensures
    ∙ c.loop-arm.invariant
