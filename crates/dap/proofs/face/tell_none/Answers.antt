use Rattle.std.proofs.Common.{refl}
use Rattle.dap_messages.specs.declared.kind.Kind.{Kind}
use Rattle.serde_json.specs.View.{view}
use Rattle.dap.proofs.Opening.{known_as, known_other, not_opened}
use Rattle.dap.proofs.face.tell_none.Goals as goal

pub returns-in-Disconnect-clause-refused : goal.returns-in-Disconnect-clause-refused
returns-in-Disconnect-clause-refused c = λ closed. not_opened c.args.request.now.kind Kind.Disconnect c.in-Disconnect.is refl closed

pub returns-in-Threads-clause-refused : goal.returns-in-Threads-clause-refused
returns-in-Threads-clause-refused c = λ closed. not_opened c.args.request.now.kind Kind.Threads c.in-Threads.is refl closed

pub returns-in-SetBreakpoints-clause-refused : goal.returns-in-SetBreakpoints-clause-refused
returns-in-SetBreakpoints-clause-refused c = λ closed. not_opened c.args.request.now.kind Kind.SetBreakpoints c.in-SetBreakpoints.is refl closed

pub returns-in-SetDataBreakpoints-clause-refused : goal.returns-in-SetDataBreakpoints-clause-refused
returns-in-SetDataBreakpoints-clause-refused c = λ closed. not_opened c.args.request.now.kind Kind.SetDataBreakpoints c.in-SetDataBreakpoints.is refl closed

pub returns-in-Attach-clause-refused : goal.returns-in-Attach-clause-refused
returns-in-Attach-clause-refused c = λ closed. c.attach.ensures.refused

pub returns-in-Other-clause-refused : goal.returns-in-Other-clause-refused
returns-in-Other-clause-refused c = λ closed. c.unknown.ensures.refused

pub returns-in_default-clause-refused : goal.returns-in_default-clause-refused
returns-in_default-clause-refused c = λ closed. c.refuse.ensures.refused

pub returns-in-Disconnect-clause-answers : goal.returns-in-Disconnect-clause-answers
returns-in-Disconnect-clause-answers c = λ other.
    known_as c.args.request.now.kind Kind.Disconnect (view c.args.request.now.arguments) c.args.answer.now c.did.new.self c.in-Disconnect.is tt

pub returns-in-Threads-clause-answers : goal.returns-in-Threads-clause-answers
returns-in-Threads-clause-answers c = λ other.
    known_as c.args.request.now.kind Kind.Threads (view c.args.request.now.arguments) c.args.answer.now c.body.new.self c.in-Threads.is tt

pub returns-in-SetBreakpoints-clause-answers : goal.returns-in-SetBreakpoints-clause-answers
returns-in-SetBreakpoints-clause-answers c = λ other.
    known_as c.args.request.now.kind Kind.SetBreakpoints (view c.args.request.now.arguments) c.args.answer.now c.set_before.new.answer c.in-SetBreakpoints.is c.set_before.ensures

pub returns-in-SetDataBreakpoints-clause-answers : goal.returns-in-SetDataBreakpoints-clause-answers
returns-in-SetDataBreakpoints-clause-answers c = λ other.
    known_as c.args.request.now.kind Kind.SetDataBreakpoints (view c.args.request.now.arguments) c.args.answer.now c.set_data_before.new.answer c.in-SetDataBreakpoints.is c.set_data_before.ensures

pub returns-in-Attach-clause-answers : goal.returns-in-Attach-clause-answers
returns-in-Attach-clause-answers c = λ other.
    known_as c.args.request.now.kind Kind.Attach (view c.args.request.now.arguments) c.args.answer.now c.attach.new.answer c.in-Attach.is c.attach.ensures.number

pub returns-in-Other-clause-answers : goal.returns-in-Other-clause-answers
returns-in-Other-clause-answers c = λ other.
    known_as c.args.request.now.kind Kind.Other (view c.args.request.now.arguments) c.args.answer.now c.unknown.new.answer c.in-Other.is tt

pub returns-in_default-clause-answers : goal.returns-in_default-clause-answers
returns-in_default-clause-answers c = λ other.
    known_other c.args.request.now.kind (view c.args.request.now.arguments) c.args.answer.now c.refuse.new.self c.in_default.not-SetBreakpoints
    c.in_default.not-SetDataBreakpoints c.in_default.not-Attach other
