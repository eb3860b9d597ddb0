use Rattle.std.proofs.lemmas.Result.{err_from_is_err_and}
use Rattle.front_end.proofs.MakingLemmas.{unread, unmade_front, all_read}
use Rattle.front_end.proofs.make.make_system.Goals as goal

pub returns-in_err-front-clause-fault : goal.returns-in_err-front-clause-fault
returns-in_err-front-clause-fault c =
    let p = err_from_is_err_and c.from_residual.result c.from_residual.ensures.1 in
    rw (p.1, p.2) (unread c.args.typed.now c.args.text.now c.in_err-front.field-0.0 c.in_err-front.ensures.fault)

pub made_of-requires : goal.made_of-requires
made_of-requires c =
    all_read c.args.text.now c.in_ok-front.front.stimulus.entries c.in_ok-front.front.is_cut c.if-not-front.true c.in_ok-front.ensures.entries

pub returns-in_err-refuse_front-clause-fault : goal.returns-in_err-refuse_front-clause-fault
returns-in_err-refuse_front-clause-fault c =
    let p = err_from_is_err_and c.from_residual-in_err-refuse_front.result c.from_residual-in_err-refuse_front.ensures.1 in
    rw (p.1, p.2)
    (unmade_front c.args.typed.now c.args.text.now c.in_ok-front.front.stimulus.entries c.in_err-refuse_front.field-0.0
    (c.in_ok-front.ensures.entries.0, c.in_ok-front.ensures.entries.1) c.in_err-refuse_front.ensures.fault)
