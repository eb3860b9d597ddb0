use Rattle.dap_requests.proofs.public.Saying.{says_none}
use Rattle.dap.proofs.restart.tell_unwatched.Goals as goal

pub returns-else-is_lost : goal.returns-else-is_lost
returns-else-is_lost c = says_none c.args.answer.now
