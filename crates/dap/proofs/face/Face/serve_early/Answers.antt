use Rattle.std.proofs.Common.{refl}
use Rattle.serde_json.specs.View.{view}
use Rattle.dap_messages.specs.declared.kind.Kind.{Kind}
use Rattle.dap.proofs.Opening.{answers_known, answers_stranger, early_known, early_unknown, excepts_known, excepts_unknown, not_opened}
use Rattle.dap.proofs.face.Face.serve_early.Goals as goal

pub returns-in-Some-clause-early : goal.returns-in-Some-clause-early
returns-in-Some-clause-early g c = c.serve_known.ensures.early

pub returns-in-None-clause-early : goal.returns-in-None-clause-early
returns-in-None-clause-early g c = λ closed. (
  c.refuse_unknown.ensures.refused (λ is. not_opened c.args.request.now.kind Kind.Disconnect is refl closed),
  c.refuse_unknown.ensures.quiet,
  refl,
)

pub returns-in-Some-clause-first : goal.returns-in-Some-clause-first
returns-in-Some-clause-first g c =
    early_known c.args.request.now.kind (g.F.Sources.reads c.args.files.now) c.args.self.now.client c.in-Some.counting c.args.self.now.excepts
    (view c.args.request.now.arguments) c.args.answer.now c.serve_known.new.answer c.serve_known.new.self.launched c.in-Some.is
    c.serve_known.ensures.first

pub returns-in-None-clause-first : goal.returns-in-None-clause-first
returns-in-None-clause-first g c =
    early_unknown c.args.request.now.kind (g.F.Sources.reads c.args.files.now) c.args.self.now.client c.args.self.now.excepts
    (view c.args.request.now.arguments) c.args.answer.now c.refuse_unknown.new.answer c.args.self.now.launched c.in-None.is
    c.refuse_unknown.ensures.refused c.requires c.refuse_unknown.ensures.quiet

pub returns-in-Some-clause-excepts : goal.returns-in-Some-clause-excepts
returns-in-Some-clause-excepts g c =
    excepts_known c.args.self.now.client c.in-Some.counting c.args.request.now.kind (view c.args.request.now.arguments) c.args.self.now.excepts
    c.serve_known.new.self.excepts c.in-Some.is c.serve_known.ensures.excepts

pub returns-in-None-clause-excepts : goal.returns-in-None-clause-excepts
returns-in-None-clause-excepts g c =
    excepts_unknown c.args.self.now.client c.args.request.now.kind (view c.args.request.now.arguments) c.args.self.now.excepts c.in-None.is

pub returns-in-Some-clause-answers : goal.returns-in-Some-clause-answers
returns-in-Some-clause-answers g c =
    answers_known c.args.self.now.client c.in-Some.counting c.args.request.now.kind (view c.args.request.now.arguments) c.args.answer.now c.serve_known.new.answer
    c.in-Some.is c.serve_known.ensures.answers

pub returns-in-None-clause-answers : goal.returns-in-None-clause-answers
returns-in-None-clause-answers g c =
    answers_stranger c.args.self.now.client c.args.request.now.kind (view c.args.request.now.arguments) c.args.answer.now c.refuse_unknown.new.answer c.in-None.is
    c.refuse_unknown.ensures.refused
