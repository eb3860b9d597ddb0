-- One channel more.
use Rattle.std.proofs.Common.{◌∷◌, map, ap, arith}
use Rattle.process_tree.specs.internal.Arms.{arm_of}
use Rattle.process_tree.proofs.CommandCodes.{arm-channel}
use Rattle.process_tree.proofs.OneMore.{one-more}
use Rattle.process_tree.proofs.translate.channels_of.Goals as goal

pub loop-arm-preserved : goal.loop-arm-preserved
loop-arm-preserved c =
    one-more (λ arms. map (λ a. a.0) (map arm_of arms)) c.loop-arm.channels c.push.new.self c.arm-item.result.channel.number c.args.arms.now c.loop-arm.arm-index c.arm-item.result
    (omega arith) c.arm-item.is (λ rest. ap (λ x. x ∷ map (λ a. a.0) (map arm_of rest)) (arm-channel c.arm-item.result)) c.in_ok-push.ensures.ok c.loop-arm.invariant
