use Rattle.std.proofs.Common.{subst}
use Rattle.locked_execution.specs.AtDesk.{AtDesk}
use Rattle.dap_moves.specs.internal.Turning.{EndsAfter}
use Rattle.dap_moves.proofs.Nearest.{meant_may}
use Rattle.dap_moves.proofs.run.after_most.Goals as goal

pub returns-in-Ok-clause-ends : goal.returns-in-Ok-clause-ends
returns-in-Ok-clause-ends c =
    subst (λ (d : AtDesk). EndsAfter d c.args.plan.now.only c.args.turn c.most_among.result) c.ready_events.ensures.same c.most_among.ensures

pub returns-in-Err-clause-ends : goal.returns-in-Err-clause-ends
returns-in-Err-clause-ends c =
    let it = meant_may c.args.desk.now c.args.plan.now.only c.args.turn c.meant.result c.meant.ensures in
    (it.0, it.1, c.in-Err.ensures.memory)
