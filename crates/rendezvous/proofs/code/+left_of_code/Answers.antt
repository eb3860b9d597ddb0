-- Commands, put together from their parts.
use Rattle.std.proofs.Common.{map, None, ap, ◌∙◌}
use Rattle.std.proofs.lemmas.Result.{IfOk-weaker}
use Rattle.system.specs.Residual.{test, choose}
use Rattle.system.specs.Translation.{arms_of, decision_of}
use Rattle.calculus.specs.ResidualTree.{residual_of_tree}
use Rattle.rendezvous.proofs.Rows.{sequence_made, parallel_made, test_made, await_made}
use Rattle.rendezvous.proofs.code.+left_of_code.Goals as goal

pub left_in_turn-returns : goal.left_in_turn-returns
left_in_turn-returns t c =
    IfOk-weaker c.in_sequence.result _ _
    (λ made h. sequence_made c.args.row.now c.as_slice.result.now c.in_ok-children.children made c.as_slice.ensures c.in_ok-children.ensures h)
    c.in_sequence.ensures

pub left_side_by_side-returns : goal.left_side_by_side-returns
left_side_by_side-returns t c =
    IfOk-weaker c.in_parallel.result _ _
    (λ made h. parallel_made c.args.row.now c.as_slice.result.now c.in_ok-children.children made c.as_slice.ensures c.in_ok-children.ensures h)
    c.in_parallel.ensures

pub left_of_decide-returns : goal.left_of_decide-returns
left_of_decide-returns t c =
    IfOk-weaker c.test.result _ _
    (λ made h. test_made c.args.decide.now c.as_slice.result.now c.in_ok-arms.arms made c.as_slice.ensures c.in_ok-arms.ensures (h ∙ ap (λ d. test d (arms_of (map residual_of_tree c.in_ok-arms.arms) None)) (ap decision_of c.in_ok-decision.ensures)))
    c.test.ensures

pub left_of_await-returns : goal.left_of_await-returns
left_of_await-returns t c =
    IfOk-weaker c.choose.result _ _
    (λ made h. await_made c.args.waiting.now c.as_slice.result.now c.in_ok-arms.arms made c.as_slice.ensures c.in_ok-arms.ensures (h ∙ ap (λ ds. choose ds (arms_of (map residual_of_tree c.in_ok-arms.arms) None)) c.as_slice-2.ensures))
    c.choose.ensures
