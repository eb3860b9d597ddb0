-- The system of the machine is that of the trace.
use Rattle.std.proofs.Common.{ap, ◌∙◌, subst, Err}
use Rattle.std.proofs.lemmas.Result.{err_from_is_err_and}
use Rattle.trace_file.specs.Loading.{IsLoaded, IsRefused}
use Rattle.trace_file.proofs.LoadLemmas.{fails, new-system, is-new}
use Rattle.trace_file.proofs.reader.load_steps.Goals as goal

pub take_all-requires : goal.take_all-requires
take_all-requires c = is-new c.args.checked c.in_ok-machine.machine c.in_ok-machine.ensures

pub returns-in_err-take_all : goal.returns-in_err-take_all
returns-in_err-take_all c = λ text has.
    let p = err_from_is_err_and c.from_residual-in_err-take_all.result c.from_residual-in_err-take_all.ensures.1 in
    fails c.from_residual-in_err-take_all.result c.in_err-take_all.field-0.0 _ _ (p.1 ∙ ap Err p.2)
    (subst (λ s. IsRefused s text c.in_err-take_all.field-0.0) (new-system c.args.checked c.in_ok-machine.machine c.in_ok-machine.ensures) (c.in_err-take_all.ensures text has))

pub returns : goal.returns
returns c = λ text has.
    subst (λ s. IsLoaded s text c.take_all.new.machine) (new-system c.args.checked c.in_ok-machine.machine c.in_ok-machine.ensures) (c.in_ok-take_all.ensures text has)
