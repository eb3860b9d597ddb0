-- A command by its form, and its parts one by one.
use Rattle.std.proofs.Common.{◌∷◌, map, ◌∙◌, sym, ap, arith}
use Rattle.std.proofs.lemmas.Result.{IfOk-weaker}
use Rattle.process_tree.specs.Translation.{code_of}
use Rattle.process_tree.specs.View.{code_view}
use Rattle.process_tree.specs.internal.Arms.{guarded_of, labelled_of, arm_of}
use Rattle.process_tree.proofs.CommandCodes.{loop-made, while-made, if-made, case-made, sequence-made, parallel-made, guarded-body, labelled-body, arm-body}
use Rattle.process_tree.proofs.OneMore.{one-more-seen}
use Rattle.process_tree.proofs.public.Views.{arms_and_else}
use Rattle.process_tree.proofs.translate.+code_of.Goals as goal

pub with_last-returns-in_ok-push-in-Some : goal.with_last-returns-in_ok-push-in-Some
with_last-returns-in_ok-push-in-Some t c =
    arms_and_else _ _ _ _ _ c.in-Some.is c.in_ok-code_of-in-Some.ensures c.in_ok-push-in-Some.ensures.ok

pub codes_of-loop-command-preserved : goal.codes_of-loop-command-preserved
codes_of-loop-command-preserved t c =
    one-more-seen code_view (map code_of) c.loop-command.codes c.push.new.self c.in_ok-code_of.field-0 c.args.commands.now c.loop-command.command-index c.command-item.result
    (omega arith) c.command-item.is (λ rest. ap (λ x. x ∷ map code_of rest) (sym c.in_ok-code_of.ensures)) c.in_ok-push.ensures.ok c.loop-command.invariant

pub bodies_of_if-loop-arm-preserved : goal.bodies_of_if-loop-arm-preserved
bodies_of_if-loop-arm-preserved t c =
    one-more-seen code_view (λ arms. map (λ a. a.1) (map guarded_of arms)) c.loop-arm.codes c.push.new.self c.in_ok-code_of.field-0 c.args.arms.now c.loop-arm.arm-index c.arm-item.result
    (omega arith) c.arm-item.is (λ rest. ap (λ x. x ∷ map (λ a. a.1) (map guarded_of rest)) (guarded-body c.arm-item.result ∙ sym c.in_ok-code_of.ensures)) c.in_ok-push.ensures.ok c.loop-arm.invariant

pub bodies_of_case-loop-arm-preserved : goal.bodies_of_case-loop-arm-preserved
bodies_of_case-loop-arm-preserved t c =
    one-more-seen code_view (λ arms. map (λ a. a.1) (map labelled_of arms)) c.loop-arm.codes c.push.new.self c.in_ok-code_of.field-0 c.args.arms.now c.loop-arm.arm-index c.arm-item.result
    (omega arith) c.arm-item.is (λ rest. ap (λ x. x ∷ map (λ a. a.1) (map labelled_of rest)) (labelled-body c.arm-item.result ∙ sym c.in_ok-code_of.ensures)) c.in_ok-push.ensures.ok c.loop-arm.invariant

pub bodies_of_arms-loop-arm-preserved : goal.bodies_of_arms-loop-arm-preserved
bodies_of_arms-loop-arm-preserved t c =
    one-more-seen code_view (λ arms. map (λ a. a.1) (map arm_of arms)) c.loop-arm.codes c.push.new.self c.in_ok-code_of.field-0 c.args.arms.now c.loop-arm.arm-index c.arm-item.result
    (omega arith) c.arm-item.is (λ rest. ap (λ x. x ∷ map (λ a. a.1) (map arm_of rest)) (arm-body c.arm-item.result ∙ sym c.in_ok-code_of.ensures)) c.in_ok-push.ensures.ok c.loop-arm.invariant

pub code_of-returns-in_ok-body-in-Loop : goal.code_of-returns-in_ok-body-in-Loop
code_of-returns-in_ok-body-in-Loop t c =
    IfOk-weaker c.repeat.result _ _ (λ made h. loop-made c.args.command.now c.get.result.now c.in-Loop.body _ _ c.get.ensures c.in-Loop.is c.in_ok-body-in-Loop.ensures h) c.repeat.ensures

pub code_of-returns-in_ok-body-in-While : goal.code_of-returns-in_ok-body-in-While
code_of-returns-in_ok-body-in-While t c =
    IfOk-weaker c.repeat_while.result _ _ (λ made h. while-made c.args.command.now c.get.result.now c.in-While.guard c.in-While.body _ _ c.get.ensures c.in-While.is c.in_ok-body-in-While.ensures h) c.repeat_while.ensures

pub code_of-returns-in_ok-bodies-in-If-2 : goal.code_of-returns-in_ok-bodies-in-If-2
code_of-returns-in_ok-bodies-in-If-2 t c =
    IfOk-weaker c.decide_if.result _ _ (λ made h. if-made c.args.command.now c.get.result.now c.in-If.arms _ _ c.in-If.last _ _ _ _ c.get.ensures c.in-If.is c.as_slice.ensures c.as_slice-in-If.ensures c.is_some.ensures
    c.in_ok-bodies-in-If.ensures c.in_ok-bodies-in-If-2.ensures h) c.decide_if.ensures

pub code_of-returns-in_ok-bodies-in-Case-2 : goal.code_of-returns-in_ok-bodies-in-Case-2
code_of-returns-in_ok-bodies-in-Case-2 t c =
    IfOk-weaker c.decide_case.result _ _ (λ made h. case-made c.args.command.now c.get.result.now c.in-Case.subject c.in-Case.arms _ _ c.in-Case.last _ _ _ _ c.get.ensures c.in-Case.is c.as_slice-in-Case.ensures c.as_slice-in-Case-2.ensures c.is_some-in-Case.ensures
    c.in_ok-bodies-in-Case.ensures c.in_ok-bodies-in-Case-2.ensures h) c.decide_case.ensures

pub code_of-returns-in_ok-codes-in-Sequence : goal.code_of-returns-in_ok-codes-in-Sequence
code_of-returns-in_ok-codes-in-Sequence t c =
    IfOk-weaker c.in_turn.result _ _ (λ made h. sequence-made c.args.command.now c.get.result.now c.in-Sequence.children _ _ _ c.get.ensures c.in-Sequence.is c.as_slice-in-Sequence.ensures c.in_ok-codes-in-Sequence.ensures h) c.in_turn.ensures

pub code_of-returns-in_ok-codes-in-Parallel : goal.code_of-returns-in_ok-codes-in-Parallel
code_of-returns-in_ok-codes-in-Parallel t c =
    IfOk-weaker c.side_by_side.result _ _ (λ made h. parallel-made c.args.command.now c.get.result.now c.in-Parallel.children _ _ _ c.get.ensures c.in-Parallel.is c.as_slice-in-Parallel.ensures c.in_ok-codes-in-Parallel.ensures h) c.side_by_side.ensures
