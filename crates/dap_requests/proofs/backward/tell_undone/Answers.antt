use Rattle.dap_messages.specs.declared.told.Stop.{Stop}
use Rattle.dap_requests.proofs.public.Saying.{stops_on}
use Rattle.dap_requests.proofs.backward.tell_undone.Goals as goal

pub returns : goal.returns
returns c = stops_on c.args.answer.now c.tell_step.new.answer c.stop.new.answer Stop.Stepped c.args.branch c.tell_step.ensures c.stop.ensures
