use Rattle.dap_messages.specs.declared.told.Stop.{Stop}
use Rattle.dap_requests.proofs.public.Saying.{stops_now}
use Rattle.dap_requests.proofs.said.stop_at_line.Goals as goal

pub returns : goal.returns
returns c =
    stops_now c.args.answer.now c.note.new.self Stop.AtLine c.args.branch c.add_hits.new.body
    (c.add_hits.ensures Stop.AtLine c.args.branch c.stopped-body.ensures) c.note.ensures.adds c.note.ensures.whole
