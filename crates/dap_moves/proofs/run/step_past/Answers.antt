use Rattle.std.proofs.Common.{sym, subst}
use Rattle.dap_moves.specs.declared.run.Turn.{Turn}
use Rattle.dap_moves.specs.internal.Turning.{TakesOne}
use Rattle.dap_moves.proofs.Running.{took_at}
use Rattle.dap_moves.proofs.run.step_past.Goals as goal

pub returns-clause-takes : goal.returns-clause-takes
returns-clause-takes c = λ turn seen may.
    subst (λ (t : Turn). TakesOne c.args.plan.now turn seen c.args.desk.now c.step_at-reply.new.desk t seen) (sym c.told.ensures)
    (took_at c.args.plan.now turn seen c.args.desk.now c.step_at-reply.new.desk c.args.event.now c.args.branch c.step_at-reply.result may
    c.step_at-reply.ensures.steps)
