-- Tickets.
use Rattle.runs.proofs.public.ObjectLaws.{tickets-grow}
use Rattle.runs.proofs.object_laws.ticket_law.Goals as goal

pub returns : goal.returns
returns c = tickets-grow
