use Rattle.std.proofs.Common.{List, refl, ap, subst, sym}
use Rattle.runs.specs.declared.event.Choice.{Choice}
use Rattle.dap_requests.specs.Forth.{SeenAfter, stop_of}
use Rattle.dap_requests.proofs.moves.take.Goals as goal

pub returns-clause-goes : goal.returns-clause-goes
returns-clause-goes c = (
  stop_of c.args.program.now.excepts c.step_at-reply.result,
  c.tell_took.ensures.stops,
  (
    c.step_at-reply.result,
    c.step_at-reply.ensures.steps,
    refl,
    subst (λ (seen : List Choice). SeenAfter c.step_at-reply.result c.args.memo.now.seen.items seen)
        (sym (ap (λ v. v.items) c.tell_took.ensures.seen)) c.forget_seen.ensures,
  ),
)
