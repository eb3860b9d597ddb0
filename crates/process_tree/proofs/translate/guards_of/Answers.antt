-- The guard of one arm more.
use Rattle.std.proofs.Common.{◌∷◌, map, ◌∙◌, sym, ap, arith}
use Rattle.system.specs.Translation.{expression_of}
use Rattle.process_tree.specs.internal.Arms.{guarded_of}
use Rattle.process_tree.proofs.CommandCodes.{guarded-guard}
use Rattle.process_tree.proofs.OneMore.{one-more-seen}
use Rattle.process_tree.proofs.translate.guards_of.Goals as goal

pub loop-arm-preserved : goal.loop-arm-preserved
loop-arm-preserved c =
    one-more-seen expression_of (λ arms. map (λ a. a.0) (map guarded_of arms)) c.loop-arm.guards c.push.new.self c.in_ok-copy.field-0 c.args.arms.now c.loop-arm.arm-index c.arm-item.result
    (omega arith) c.arm-item.is (λ rest. ap (λ x. x ∷ map (λ a. a.0) (map guarded_of rest)) (guarded-guard c.arm-item.result ∙ sym (ap expression_of c.in_ok-copy.ensures))) c.in_ok-push.ensures.ok c.loop-arm.invariant
