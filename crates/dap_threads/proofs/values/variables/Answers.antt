use Rattle.std.proofs.Common.{codes, map}
use Rattle.serde_json.specs.View.{view}
use Rattle.dap_threads.proofs.Unfolding.{gives_list, variables_given, variables_none}
use Rattle.dap_threads.proofs.values.variables.Goals as goal

pub returns-in-Some : goal.returns-in-Some
returns-in-Some c = λ full.
    let list = c.unfolded-list.result in
    variables_given c.args.machine.now c.args.program.now.index (view c.args.request.now.arguments) c.body.new.self c.handle_named.result
    c.in-Some.handle (map view list.made.items) c.handle_named.ensures.handle c.in-Some.is
    (gives_list (codes "variables") c.listing.result list c.body.new.self c.listing.ensures.lists c.body.ensures.body full)
    (c.unfolded-list.ensures (c.listing.ensures.whole (c.body.ensures.body full).0))

pub returns-in-None : goal.returns-in-None
returns-in-None c = λ full.
    variables_none c.args.machine.now c.args.program.now.index (view c.args.request.now.arguments) c.handle_named.new.answer
    c.handle_named.result c.handle_named.ensures.handle c.in-None.is c.in-None.ensures.outcome.0
