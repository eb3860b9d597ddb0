use Rattle.line_text.proofs.public.NumberLemmas.{ticket-read}
use Rattle.line_text.proofs.operands.read_ticket.Goals as goal

pub returns : goal.returns
returns c = ticket-read c.read_number.result c.args.rest.now c.in_ok-behind_space.field-0.now c.in_ok-behind_space.ensures c.read_number.ensures
