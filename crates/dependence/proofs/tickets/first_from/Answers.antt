use Rattle.std.proofs.Common.{◌≤◌, arith}
use Rattle.dependence.proofs.TicketLaws.{first-less, first-least, none-from}
use Rattle.dependence.proofs.tickets.first_from.Goals as goal

pub returns-then-ticket-below : goal.returns-then-ticket-below
returns-then-ticket-below c =
    let at = c.in-Some.ensures.lookup in
    first-less c.args.tickets.now c.args.from c.args.below c.count_below-count.result c.in-Some.ticket.now c.requires c.count_below-count.ensures at.3.0 at.1 c.if-ticket-below.true

pub returns-else-ticket-below : goal.returns-else-ticket-below
returns-else-ticket-below c = λ t i from below.
    let at = c.in-Some.ensures.lookup in
    let le : c.in-Some.ticket.now ≤ t = first-least c.args.tickets.now c.args.from c.count_below-count.result c.in-Some.ticket.now c.requires c.count_below-count.ensures at.3.0 at.1 t i from in
    omega (arith, c.if-ticket-below.false)

pub returns-in-None : goal.returns-in-None
returns-in-None c = λ t i from below.
    none-from c.args.tickets.now c.args.from c.count_below-count.result t c.count_below-count.ensures c.in-None.ensures.lookup.3 i from
