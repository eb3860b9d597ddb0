use Rattle.std.proofs.Common.{inl, refl, ◌∙◌}
use Rattle.serde_json.specs.View.{view}
use Rattle.dap_messages.specs.declared.kind.Kind.{Kind}
use Rattle.dap.proofs.Going.{goes_nowhere}
use Rattle.dap.proofs.Opening.{client_meets, client_stays, early_as, excepts_met, not_opened}
use Rattle.dap.proofs.face.Face.hear.Goals as goal

pub returns-in-Initialize-clause-goes : goal.returns-in-Initialize-clause-goes
returns-in-Initialize-clause-goes g c =
    inl
    (goes_nowhere c.args.self.now.launched c.initialize.new.self.launched c.args.request.now c.args.answer.now c.initialize.new.answer
    Kind.Initialize c.in-Initialize.is (λ other. absurd (cc)) refl refl (λ d p. c.initialize.ensures.quiet) tt
    (λ m index sight d. tt) (λ arguments c p. refl)
    c.initialize.ensures.launched)

pub returns-in-Initialize-clause-early : goal.returns-in-Initialize-clause-early
returns-in-Initialize-clause-early g c = λ none closed.
    not_opened c.args.request.now.kind Kind.Initialize c.in-Initialize.is refl closed

pub returns-in-Initialize-clause-again : goal.returns-in-Initialize-clause-again
returns-in-Initialize-clause-again g c = λ same known.
    let again = c.initialize.ensures.again known in (again.0, c.initialize.ensures.quiet, again.1)

pub returns-in-Initialize-clause-first : goal.returns-in-Initialize-clause-first
returns-in-Initialize-clause-first g c = λ none.
    early_as c.args.request.now.kind Kind.Initialize (g.F.Sources.reads c.args.files.now) c.args.self.now.client c.args.self.now.excepts
    (view c.args.request.now.arguments) c.args.answer.now c.initialize.new.answer c.initialize.new.self.launched c.in-Initialize.is
    (c.initialize.ensures.launched ∙ none, c.initialize.ensures.quiet)

pub returns-in-Initialize-clause-client : goal.returns-in-Initialize-clause-client
returns-in-Initialize-clause-client g c = λ done.
    client_meets c.args.request.now.kind c.args.self.now.client c.initialize.new.self.client (view c.args.request.now.arguments)
    c.initialize.new.answer c.in-Initialize.is (c.initialize.ensures.client done)

pub returns-in-Initialize-clause-excepts : goal.returns-in-Initialize-clause-excepts
returns-in-Initialize-clause-excepts g c =
    excepts_met c.args.self.now.launched c.args.self.now.client c.args.request.now.kind (view c.args.request.now.arguments)
    c.args.self.now.excepts c.initialize.new.self.excepts c.in-Initialize.is c.initialize.ensures.excepts

pub returns-in_default-clause-early : goal.returns-in_default-clause-early
returns-in_default-clause-early g c = c.serve.ensures.early

pub returns-in_default-clause-again : goal.returns-in_default-clause-again
returns-in_default-clause-again g c = λ same known. absurd (c.in_default.not-Initialize same)

pub returns-in_default-clause-first : goal.returns-in_default-clause-first
returns-in_default-clause-first g c = c.serve.ensures.first

pub returns-in_default-clause-client : goal.returns-in_default-clause-client
returns-in_default-clause-client g c = λ done.
    client_stays c.args.request.now.kind c.args.self.now.client c.serve.new.self.client (view c.args.request.now.arguments) c.serve.new.answer
    c.in_default.not-Initialize c.serve.ensures.client

pub returns-in-Initialize-clause-answers : goal.returns-in-Initialize-clause-answers
returns-in-Initialize-clause-answers g c = λ none other. absurd (other c.in-Initialize.is)

pub returns-in_default-clause-answers : goal.returns-in_default-clause-answers
returns-in_default-clause-answers g c = λ none other. c.serve.ensures.answers none
