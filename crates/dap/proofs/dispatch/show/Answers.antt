use Rattle.serde_json.specs.View.{view}
use Rattle.dap.proofs.Going.{shows_beside}
use Rattle.dap.proofs.dispatch.show.Goals as goal

pub returns-clause-shows : goal.returns-clause-shows
returns-clause-shows c =
    shows_beside c.args.request.now.kind c.args.machine.now c.args.program.now.index c.args.program.now.sight (view c.args.request.now.arguments)
    c.tell.new.answer c.replace-notes.result c.tell.ensures.shows
