use Rattle.serde_json.specs.View.{view}
use Rattle.dap_threads.proofs.Unfolding.{scopes_named, scopes_none}
use Rattle.dap_threads.proofs.values.scopes.Goals as goal

pub returns-in-Some : goal.returns-in-Some
returns-in-Some c =
    scopes_named c.args.machine.now c.args.program.now.index c.args.program.now.sight (view c.args.request.now.arguments) c.scopes_in.new.answer
    c.number.result _ c.number.ensures c.in-Some.is c.scopes_in.ensures

pub returns-in-None : goal.returns-in-None
returns-in-None c = λ full.
    scopes_none c.args.machine.now c.args.program.now.index c.args.program.now.sight (view c.args.request.now.arguments) c.refuse.new.self
    c.number.result c.number.ensures c.in-None.is c.refuse.ensures.refused
