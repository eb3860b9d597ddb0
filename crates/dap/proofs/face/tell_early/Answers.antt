use Rattle.serde_json.specs.View.{view}
use Rattle.dap.proofs.Opening.{known_beside}
use Rattle.dap.proofs.face.tell_early.Goals as goal

pub returns-clause-answers : goal.returns-clause-answers
returns-clause-answers c = λ other.
    known_beside c.args.request.now.kind (view c.args.request.now.arguments) c.args.answer.now
    (record c.args.answer.now { notes = c.replace-notes.new.dest }) c.tell_none.new.answer c.replace-notes.result other
    (c.tell_none.ensures.answers other)
