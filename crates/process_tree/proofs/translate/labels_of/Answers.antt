-- The labels of one arm more.
use Rattle.std.proofs.Common.{◌∷◌, map, ◌∙◌, sym, ap, arith}
use Rattle.process_tree.specs.internal.Arms.{labelled_of}
use Rattle.process_tree.proofs.CommandCodes.{labelled-labels}
use Rattle.process_tree.proofs.OneMore.{one-more}
use Rattle.process_tree.proofs.translate.labels_of.Goals as goal

pub loop-arm-preserved : goal.loop-arm-preserved
loop-arm-preserved c =
    one-more (λ arms. map (λ a. a.0) (map labelled_of arms)) c.loop-arm.labels c.push.new.self c.in_ok-copied.field-0 c.args.arms.now c.loop-arm.arm-index c.arm-item.result
    (omega arith) c.arm-item.is (λ rest. ap (λ x. x ∷ map (λ a. a.0) (map labelled_of rest)) (labelled-labels c.arm-item.result ∙ sym (c.in_ok-copied.ensures ∙ c.as_slice.ensures))) c.in_ok-push.ensures.ok c.loop-arm.invariant
