use Rattle.std.proofs.Common.{get_or}
use Rattle.dependence.proofs.public.ListPlaces.{in-read}
use Rattle.dependence.proofs.unreached.have_common.Goals as goal

pub returns-then-is_among : goal.returns-then-is_among
returns-then-is_among c = λ yes. (
  get_or c.args.tickets.now c.loop-ticket.ticket-index 0,
  c.is_among.ensures c.if-is_among.true,
  in-read c.args.tickets.now c.loop-ticket.ticket-index c.loop-ticket-test.true,
)
