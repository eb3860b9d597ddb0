use Rattle.dap_requests.proofs.Reading.{reading_leaves}
use Rattle.dap_requests.proofs.console.asked_alone.Goals as goal

pub returns : goal.returns
returns c = reading_leaves c.args.desk.now c.asked.new.desk 0 c.args.command.now c.asked.result c.requires c.asked.ensures.answers
