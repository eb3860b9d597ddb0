use Rattle.std.proofs.lemmas.Result.{err_from_is_err_and}
use Rattle.front_end.proofs.MakingLemmas.{unread}
use Rattle.front_end.proofs.make.made_whole.Goals as goal

pub returns-in_err-stimulus-clause-fault : goal.returns-in_err-stimulus-clause-fault
returns-in_err-stimulus-clause-fault c =
    let p = err_from_is_err_and c.from_residual.result c.from_residual.ensures.1 in
    rw (p.1, p.2) (unread c.args.typed.now c.args.text.now c.in_err-stimulus.field-0.0 c.in_err-stimulus.ensures.fault)
