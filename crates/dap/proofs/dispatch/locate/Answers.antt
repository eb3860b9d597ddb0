use Rattle.std.proofs.Common.{codes}
use Rattle.serde_json.specs.View.{view}
use Rattle.dap_messages.specs.Arguments.{number_named}
use Rattle.dap.proofs.Going.{locates_beside}
use Rattle.dap.proofs.dispatch.locate.Goals as goal

pub returns-clause-located : goal.returns-clause-located
returns-clause-located c =
    locates_beside (number_named (codes "line") (view c.args.request.now.arguments)) (view c.args.request.now.arguments)
    c.args.machine.now.checked.main c.args.program.now c.locations.new.answer c.replace-notes.result c.locations.ensures
