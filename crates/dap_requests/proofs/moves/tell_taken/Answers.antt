use Rattle.dap_messages.specs.declared.told.Stop.{Stop}
use Rattle.dap_requests.proofs.public.Saying.{stops_on}
use Rattle.dap_requests.proofs.moves.tell_taken.Goals as goal

pub returns : goal.returns
returns c =
    stops_on c.args.answer.now c.tell_outputs.new.answer c.stop.new.answer Stop.Stepped c.args.branch c.tell_outputs.ensures
    (stops_on c.tell_outputs.new.answer c.tell_live.new.answer c.stop.new.answer Stop.Stepped c.args.branch c.tell_live.ensures c.stop.ensures)
