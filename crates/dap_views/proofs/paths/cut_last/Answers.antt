use Rattle.std.proofs.Common.{length, sym, ◌∙◌}
use Rattle.dap_views.proofs.Cutting.{passed_on}
use Rattle.dap_views.proofs.paths.cut_last.Goals as goal

pub loop-step-preserved : goal.loop-step-preserved
loop-step-preserved c =
    passed_on c.args.drives (length c.args.path.now) c.loop-step.step c.loop-step.above c.in-Some.more c.loop-step.rest.now c.cut.result.0.now
    c.cut.result.1.now c.loop-step-test.true c.cut.ensures.before c.cut.ensures.behind (sym c.passing.ensures ∙ c.in-Some.is)
    ∙ c.loop-step.invariant
