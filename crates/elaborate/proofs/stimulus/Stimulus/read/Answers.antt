use Rattle.std.proofs.lemmas.Result.{err_from_is_err_and}
use Rattle.elaborate.proofs.Fewness.{none_missing}
use Rattle.elaborate.proofs.stimulus.Stimulus.read.Goals as goal

pub returns-in_err-front-clause-fault : goal.returns-in_err-front-clause-fault
returns-in_err-front-clause-fault c =
    let p = err_from_is_err_and c.from_residual.result c.from_residual.ensures.1 in rw (p.1, p.2) c.in_err-front.ensures.fault

pub returns-clause-entries : goal.returns-clause-entries
returns-clause-entries c =
    none_missing c.args.text.now c.in_ok-front.front.stimulus.entries c.in_ok-front.front.is_cut c.in_ok-front.ensures.entries
    c.in_ok-front.ensures.few.1
