use Rattle.std.proofs.Common.{Ok, sym, subst}
use Rattle.runs.specs.Does.{Undoes}
use Rattle.runs.specs.declared.event.Event.{Event}
use Rattle.machine.specs.Results.{undo_reply}
use Rattle.machine.specs.internal.Histories.{execution}
use Rattle.machine.proofs.history.History.undo.Goals as goal

pub returns-in-Ok-clause-answers : goal.returns-in-Ok-clause-answers
returns-in-Ok-clause-answers c = λ system.
    let h = c.args.self.now in
    subst (λ (e : Event). Undoes (execution system h) c.args.ticket (undo_reply c.args.ticket (Ok e)) (execution system c.undo_boxed.new.self))
    (sym c.into_inner.ensures) (c.in-Ok.ensures.answers system)

pub returns-in-Ok-clause-marked : goal.returns-in-Ok-clause-marked
returns-in-Ok-clause-marked c = c.in-Ok.ensures.marked
