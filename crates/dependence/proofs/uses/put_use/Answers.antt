use Rattle.std.proofs.lemmas.Result.{on_ok_weaker, on_err_weaker}
use Rattle.dependence.proofs.TicketLaws.{row-ascends, set-ascends, use-put, use-same}
use Rattle.dependence.proofs.uses.put_use.Goals as goal

pub put_ticket-requires : goal.put_ticket-requires
put_ticket-requires c =
    row-ascends c.args.rows.now.items c.args.number c.index_mut.result.now c.requires.within c.requires.ascend c.index_mut.ensures.value

pub returns-clause-ascend : goal.returns-clause-ascend
returns-clause-ascend c =
    set-ascends c.args.rows.now.items c.args.number c.index_mut.result.now c.requires.within c.requires.ascend c.put_ticket.new.tickets c.put_ticket.ensures.ascends

pub returns-clause-put : goal.returns-clause-put
returns-clause-put c =
    on_ok_weaker c.put_ticket.result
    (λ put. use-put c.args.rows.now.items c.args.number c.index_mut.result.now c.requires.within c.requires.ascend c.put_ticket.new.tickets c.index_mut.ensures.value c.args.ticket put)
    c.put_ticket.ensures.put

pub returns-clause-refused : goal.returns-clause-refused
returns-clause-refused c =
    on_err_weaker c.put_ticket.result
    (λ same. use-same c.args.rows.now.items c.args.number c.index_mut.result.now c.requires.within c.requires.ascend c.put_ticket.new.tickets c.index_mut.ensures.value c.args.ticket same)
    c.put_ticket.ensures.refused
