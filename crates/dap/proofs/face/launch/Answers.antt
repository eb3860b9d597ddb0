use Rattle.std.proofs.Common.{ap}
use Rattle.serde_json.specs.View.{view}
use Rattle.dap.proofs.Opening.{launches_none, launches_so}
use Rattle.dap.proofs.face.launch.Goals as goal

pub returns-in-Some : goal.returns-in-Some
returns-in-Some g c =
    launches_so (g.F.Sources.reads c.args.files.now) c.args.counting c.args.excepts (view c.args.request.now.arguments)
    (view c.arguments.result.now) c.args.answer.now c.start.new.answer c.keep.new.answer c.in-Some.found c.keep.result (ap view c.arguments.ensures)
    c.in-Some.ensures c.keep.ensures.found c.keep.ensures.done c.keep.ensures.tells c.keep.ensures.behind

pub returns-in-None : goal.returns-in-None
returns-in-None g c =
    launches_none (g.F.Sources.reads c.args.files.now) c.args.counting c.args.excepts (view c.args.request.now.arguments)
    (view c.arguments.result.now) c.args.answer.now c.start.new.answer (ap view c.arguments.ensures) c.in-None.ensures
