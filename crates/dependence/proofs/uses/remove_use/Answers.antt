use Rattle.std.proofs.Common.{◌<◌, ◌≤◌, length, arith}
use Rattle.dependence.proofs.TicketLaws.{row-ascends, set-ascends, use-gone, use-past}
use Rattle.dependence.proofs.uses.remove_use.Goals as goal

pub remove_ticket-requires : goal.remove_ticket-requires
remove_ticket-requires c =
    let less : c.args.number < length c.args.rows.now.items = omega (arith, c.if-number-len.true, c.len.ensures, c.args.rows.now.ok) in
    row-ascends c.args.rows.now.items c.args.number c.index_mut.result.now less c.requires c.index_mut.ensures.value

pub returns-then-number-len-clause-ascend : goal.returns-then-number-len-clause-ascend
returns-then-number-len-clause-ascend c =
    let less : c.args.number < length c.args.rows.now.items = omega (arith, c.if-number-len.true, c.len.ensures, c.args.rows.now.ok) in
    set-ascends c.args.rows.now.items c.args.number c.index_mut.result.now less c.requires c.remove_ticket.new.tickets c.remove_ticket.ensures.ascends

pub returns-then-number-len-clause-removed : goal.returns-then-number-len-clause-removed
returns-then-number-len-clause-removed c =
    let less : c.args.number < length c.args.rows.now.items = omega (arith, c.if-number-len.true, c.len.ensures, c.args.rows.now.ok) in
    use-gone c.args.rows.now.items c.args.number c.index_mut.result.now less c.requires c.remove_ticket.new.tickets c.index_mut.ensures.value c.args.ticket c.remove_ticket.ensures.removed

pub returns-else-number-len-clause-removed : goal.returns-else-number-len-clause-removed
returns-else-number-len-clause-removed c = λ x t. use-past c.args.rows.now.items c.args.number c.args.ticket x t (let short : length c.args.rows.now.items ≤ c.args.number = omega (arith, c.if-number-len.false, c.len.ensures, c.args.rows.now.ok) in short)
