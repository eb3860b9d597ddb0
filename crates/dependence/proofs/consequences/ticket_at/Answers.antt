use Rattle.std.proofs.Common.{sym}
use Rattle.dependence.proofs.consequences.ticket_at.Goals as goal

pub returns : goal.returns
returns c = (c.in-Some.field-0-1.now, sym c.in-Some.ensures.entry)
