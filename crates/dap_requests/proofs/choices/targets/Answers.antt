use Rattle.serde_json.specs.View.{view}
use Rattle.dap_requests.proofs.Choosing.{targets_named, targets_none}
use Rattle.dap_requests.proofs.choices.targets.Goals as goal

pub returns-in-Some : goal.returns-in-Some
returns-in-Some c =
    targets_named c.args.machine.now c.args.program.now.index c.args.program.now.sight (view c.args.request.now.arguments) c.targets_in.new.answer
    c.number.result _ c.number.ensures c.in-Some.is c.targets_in.ensures

pub returns-in-None : goal.returns-in-None
returns-in-None c = λ full.
    targets_none c.args.machine.now c.args.program.now.index c.args.program.now.sight (view c.args.request.now.arguments) c.refuse.new.self
    c.number.result c.number.ensures c.in-None.is c.refuse.ensures.refused
