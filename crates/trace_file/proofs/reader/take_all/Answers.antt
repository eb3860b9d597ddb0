-- All lines are taken, and then the order is looked at.
use Rattle.std.proofs.Common.{ap, ◌∙◌, Err}
use Rattle.std.proofs.lemmas.Result.{MatchResult-weaker, err_from_is_err_and}
use Rattle.trace_file.proofs.LoadLemmas.{fails, steps-refused, loaded, order-refused}
use Rattle.trace_file.proofs.reader.take_all.Goals as goal

pub returns-in_err-take_steps : goal.returns-in_err-take_steps
returns-in_err-take_steps c = λ text has.
    let p = err_from_is_err_and c.from_residual.result c.from_residual.ensures.1 in
    fails c.from_residual.result c.in_err-take_steps.field-0.0 _ _ (p.1 ∙ ap Err p.2)
    (steps-refused c.args.machine.now.checked c.args.version text c.args.steps.now c.in_err-take_steps.field-0.0 has c.in_err-take_steps.ensures)

pub refuse_disorder-requires : goal.refuse_disorder-requires
refuse_disorder-requires c = c.in_ok-take_steps.ensures.begins.lines

pub returns : goal.returns
returns c = λ text has.
    MatchResult-weaker c.refuse_disorder.result c.refuse_disorder.ensures
    (λ _ order. loaded c.args.machine.now.checked c.args.version text c.args.steps.now c.take_steps.new.machine has c.in_ok-take_steps.ensures order)
    (λ fault stops. order-refused c.args.machine.now.checked c.args.version text c.args.steps.now c.take_steps.new.machine fault has c.in_ok-take_steps.ensures stops)
