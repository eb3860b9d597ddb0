use Rattle.std.proofs.Common.{Some, refl}
use Rattle.serde_json.specs.View.{view}
use Rattle.dap_messages.specs.declared.kind.Kind.{Kind}
use Rattle.dap.proofs.Opening.{early_as, early_none, excepts_as, excepts_other, known_as, not_opened}
use Rattle.dap.proofs.face.Face.serve_known.Goals as goal

pub returns-in-Launch-clause-early : goal.returns-in-Launch-clause-early
returns-in-Launch-clause-early g c = λ closed. not_opened c.args.request.now.kind Kind.Launch c.in-Launch.is refl closed

pub returns-in-SetExceptionBreakpoints-clause-early : goal.returns-in-SetExceptionBreakpoints-clause-early
returns-in-SetExceptionBreakpoints-clause-early g c = λ closed.
    not_opened c.args.request.now.kind Kind.SetExceptionBreakpoints c.in-SetExceptionBreakpoints.is refl closed

pub returns-in_default-clause-early : goal.returns-in_default-clause-early
returns-in_default-clause-early g c = λ closed. (c.tell_early.ensures.refused closed, c.tell_early.ensures.quiet, refl)

pub returns-in-Launch-clause-first : goal.returns-in-Launch-clause-first
returns-in-Launch-clause-first g c =
    early_as c.args.request.now.kind Kind.Launch (g.F.Sources.reads c.args.files.now) (Some c.args.counting) c.args.self.now.excepts
    (view c.args.request.now.arguments) c.args.answer.now c.launch.new.answer c.launch.result c.in-Launch.is c.launch.ensures

pub returns-in-SetExceptionBreakpoints-clause-first : goal.returns-in-SetExceptionBreakpoints-clause-first
returns-in-SetExceptionBreakpoints-clause-first g c =
    early_as c.args.request.now.kind Kind.SetExceptionBreakpoints (g.F.Sources.reads c.args.files.now) (Some c.args.counting)
    c.args.self.now.excepts (view c.args.request.now.arguments) c.args.answer.now c.set_filters.new.answer c.args.self.now.launched
    c.in-SetExceptionBreakpoints.is (c.requires, c.set_filters.ensures.quiet)

pub returns-in_default-clause-first : goal.returns-in_default-clause-first
returns-in_default-clause-first g c =
    early_none c.args.request.now.kind (g.F.Sources.reads c.args.files.now) (Some c.args.counting) c.args.self.now.excepts
    (view c.args.request.now.arguments) c.args.answer.now c.tell_early.new.answer c.args.self.now.launched c.in_default.not-Launch c.requires
    c.tell_early.ensures.quiet

pub returns-in-Launch-clause-excepts : goal.returns-in-Launch-clause-excepts
returns-in-Launch-clause-excepts g c =
    excepts_as c.args.request.now.kind Kind.Launch (view c.args.request.now.arguments) c.args.self.now.excepts c.args.self.now.excepts
    c.in-Launch.is refl

pub returns-in-SetExceptionBreakpoints-clause-excepts : goal.returns-in-SetExceptionBreakpoints-clause-excepts
returns-in-SetExceptionBreakpoints-clause-excepts g c =
    excepts_as c.args.request.now.kind Kind.SetExceptionBreakpoints (view c.args.request.now.arguments) c.args.self.now.excepts
    c.set_filters.new.excepts c.in-SetExceptionBreakpoints.is c.set_filters.ensures.excepts

pub returns-in_default-clause-excepts : goal.returns-in_default-clause-excepts
returns-in_default-clause-excepts g c =
    excepts_other c.args.request.now.kind (view c.args.request.now.arguments) c.args.self.now.excepts
    c.in_default.not-SetExceptionBreakpoints

pub returns-in-Launch-clause-answers : goal.returns-in-Launch-clause-answers
returns-in-Launch-clause-answers g c =
    known_as c.args.request.now.kind Kind.Launch (view c.args.request.now.arguments) c.args.answer.now c.launch.new.answer c.in-Launch.is tt

pub returns-in-SetExceptionBreakpoints-clause-answers : goal.returns-in-SetExceptionBreakpoints-clause-answers
returns-in-SetExceptionBreakpoints-clause-answers g c =
    known_as c.args.request.now.kind Kind.SetExceptionBreakpoints (view c.args.request.now.arguments) c.args.answer.now c.set_filters.new.answer
    c.in-SetExceptionBreakpoints.is c.set_filters.ensures.answers

pub returns-in_default-clause-answers : goal.returns-in_default-clause-answers
returns-in_default-clause-answers g c = c.tell_early.ensures.answers c.in_default.not-SetExceptionBreakpoints
