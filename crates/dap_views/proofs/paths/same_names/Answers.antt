use Rattle.std.proofs.Common.{sym, ◌∙◌}
use Rattle.dap_views.proofs.Cutting.{differ_on, same_on}
use Rattle.dap_views.proofs.paths.same_names.Goals as goal

pub returns-then-not-is_same_name : goal.returns-then-not-is_same_name
returns-then-not-is_same_name c =
    differ_on c.args.drives c.args.free c.args.steps c.loop-step.step c.loop-step.left.now c.loop-step.right.now c.cut_last.result.1.now
    c.cut_last-in-loop-step.result.1.now c.loop-step-test.true c.cut_last.ensures.name_is c.cut_last-in-loop-step.ensures.name_is
    (sym c.is_nothing.ensures ∙ c.if-is_nothing.false) (sym c.is_same_name.ensures ∙ c.if-not-is_same_name.true)
    ∙ c.loop-step.invariant

pub loop-step-preserved : goal.loop-step-preserved
loop-step-preserved c =
    same_on c.args.drives c.args.free c.args.steps c.loop-step.step c.loop-step.left.now c.loop-step.right.now c.cut_last.result.0.now
    c.cut_last.result.1.now c.cut_last-in-loop-step.result.0.now c.cut_last-in-loop-step.result.1.now c.loop-step-test.true
    c.cut_last.ensures.before c.cut_last.ensures.name_is c.cut_last-in-loop-step.ensures.before c.cut_last-in-loop-step.ensures.name_is
    (sym c.is_nothing.ensures ∙ c.if-is_nothing.false) (sym c.is_same_name.ensures ∙ c.if-not-is_same_name.false)
    ∙ c.loop-step.invariant
