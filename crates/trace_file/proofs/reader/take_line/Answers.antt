use Rattle.std.proofs.Common.{ap, refl, ◌∙◌, Err}
use Rattle.std.proofs.lemmas.Result.{err_from_is_err_and}
use Rattle.trace_file.proofs.LineLemmas.{no-step-fields}
use Rattle.trace_file.proofs.LoadLemmas.{fails, line-stops}
use Rattle.trace_file.proofs.reader.take_line.Goals as goal

pub returns-in_default-clause-line : goal.returns-in_default-clause-line
returns-in_default-clause-line c = (refl, no-step-fields c.args.rest.now c.in_default.ensures)

pub returns-in_err-refuse_long-clause-line : goal.returns-in_err-refuse_long-clause-line
returns-in_err-refuse_long-clause-line c =
    let p = err_from_is_err_and c.from_residual.result c.from_residual.ensures.1 in
    fails c.from_residual.result c.in_err-refuse_long.field-0.0 _ _ (p.1 ∙ ap Err p.2)
    (c.in_err-refuse_long.ensures c.args.rest.now c.in-Some.after.now c.in-Some.ensures)

pub returns-in_default-2-clause-line : goal.returns-in_default-2-clause-line
returns-in_default-2-clause-line c =
    (refl, rw c.in_default-2.is at c.in_ok-choice.ensures c.args.rest.now c.in-Some.after.now c.in-Some.ensures)

pub returns-in_err-take_step-clause-line : goal.returns-in_err-take_step-clause-line
returns-in_err-take_step-clause-line c =
    let p = err_from_is_err_and c.from_residual-in_err-take_step.result c.from_residual-in_err-take_step.ensures.1 in
    fails c.from_residual-in_err-take_step.result c.in_err-take_step.field-0.0 _ _ (p.1 ∙ ap Err p.2)
    (line-stops c.args.machine.now c.in-Some-2.choice c.args.rest.now c.in-Some.after.now c.args.number c.in_err-take_step.field-0.0
    (rw c.in-Some-2.is at c.in_ok-choice.ensures c.args.rest.now c.in-Some.after.now c.in-Some.ensures) c.in_err-take_step.ensures.step)

pub returns-clause-line : goal.returns-clause-line
returns-clause-line c = (
  c.in-Some-2.choice,
  rw c.in-Some-2.is at c.in_ok-choice.ensures c.args.rest.now c.in-Some.after.now c.in-Some.ensures,
  c.in_ok-take_step.ensures.step,
)
