use Rattle.serde_json.specs.View.{view}
use Rattle.dap.proofs.Opening.{excepts_after, excepts_before, goes_early}
use Rattle.dap.proofs.face.Face.serve.Goals as goal

pub returns-in-None-clause-goes : goal.returns-in-None-clause-goes
returns-in-None-clause-goes g c =
    goes_early (g.F.Sources.reads c.args.files.now) c.args.self.now.launched c.serve_early.new.self.launched c.args.self.now.client
    c.args.self.now.excepts c.args.request.now c.args.answer.now c.serve_early.new.answer c.in-None.is c.serve_early.ensures.first

pub returns-in-None-clause-early : goal.returns-in-None-clause-early
returns-in-None-clause-early g c = λ none. c.serve_early.ensures.early

pub returns-in-None-clause-first : goal.returns-in-None-clause-first
returns-in-None-clause-first g c = λ none. c.serve_early.ensures.first

pub returns-in-Some-clause-excepts : goal.returns-in-Some-clause-excepts
returns-in-Some-clause-excepts g c =
    excepts_after c.args.self.now.launched _ c.args.self.now.client c.args.request.now.kind (view c.args.request.now.arguments)
    c.args.self.now.excepts c.in-Some.is

pub returns-in-None-clause-excepts : goal.returns-in-None-clause-excepts
returns-in-None-clause-excepts g c =
    excepts_before c.args.self.now.launched c.args.self.now.client c.args.request.now.kind (view c.args.request.now.arguments)
    c.args.self.now.excepts c.serve_early.new.self.excepts c.in-None.is c.serve_early.ensures.excepts

pub returns-in-None-clause-answers : goal.returns-in-None-clause-answers
returns-in-None-clause-answers g c = λ none. c.serve_early.ensures.answers
