use Rattle.std.proofs.Common.{refl, subst}
use Rattle.locked_execution.specs.AtDesk.{AtDesk}
use Rattle.dap_moves.specs.internal.Turning.{TakesOne}
use Rattle.dap_moves.proofs.Nearest.{meant_may}
use Rattle.dap_moves.proofs.Running.{held_here}
use Rattle.dap_moves.proofs.run.look_and_step.Goals as goal

pub returns-in-Ok-clause-takes : goal.returns-in-Ok-clause-takes
returns-in-Ok-clause-takes c =
    subst (λ (d : AtDesk). TakesOne c.args.plan.now c.args.turn c.args.seen.now.items d c.step_among.new.desk c.step_among.result c.step_among.new.seen.items)
    c.in-Ok.ensures.same c.step_among.ensures.takes

pub returns-in-Err-clause-takes : goal.returns-in-Err-clause-takes
returns-in-Err-clause-takes c =
    held_here c.args.plan.now c.args.turn c.args.seen.now.items c.args.seen.now.items c.args.desk.now c.ready_events.new.desk c.meant.result
    c.in-Err.why c.in-Err.ensures.same (meant_may c.args.desk.now c.args.plan.now.only c.args.turn c.meant.result c.meant.ensures)
    c.in-Err.ensures.memory refl
