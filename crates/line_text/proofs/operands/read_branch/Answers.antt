use Rattle.line_text.proofs.public.NumberLemmas.{branch-read}
use Rattle.line_text.proofs.operands.read_branch.Goals as goal

pub returns : goal.returns
returns c = branch-read c.args.rest.now _ c.narrow.result c.in_ok-read_ticket.ensures c.narrow.ensures
