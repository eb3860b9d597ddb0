use Rattle.dap_requests.proofs.public.Saying.{ends_on}
use Rattle.dap.proofs.begin.begin_free.Goals as goal

pub returns-clause-ends : goal.returns-clause-ends
returns-clause-ends c = ends_on c.args.answer.now c.run_free-is_well.new.answer c.tell_end.new.answer c.run_free-is_well.ensures.tells c.tell_end.ensures
