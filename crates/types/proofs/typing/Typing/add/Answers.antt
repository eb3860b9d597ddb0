use Rattle.std.proofs.Common.{ap, sym, subst, ◌∙◌}
use Rattle.types.specs.Declarations.{with_procedures}
use Rattle.types.specs.internal.Judged.{Judgement, Judges}
use Rattle.types.specs.internal.Least.{least}
use Rattle.types.specs.internal.Scopes.{scope_of}
use Rattle.types.proofs.public.JudgedLemmas.{judges-more, spent-more}
use Rattle.types.proofs.typing.Typing.add.Goals as goal

pub returns-clause-judged : goal.returns-clause-judged
returns-clause-judged c = λ d is.
    judges-more (record { scope = scope_of c.self.inside.scope; found = c.self.inside.found })
    (record { scope = scope_of c.settled_procedures.new.scope; found = c.in_ok-self-inside.field-0 }) c.args.procedures.now d
    (subst (λ (j : Judgement). Judges j d) (sym c.self.view_is) is)
    (c.in_ok-self-inside.ensures.made ∙ ap (λ f. with_procedures least (scope_of c.self.inside.scope) f c.args.procedures.now) c.replace-found.ensures.value)
    c.in_ok-self-inside.ensures.visible

pub returns-clause-spent : goal.returns-clause-spent
returns-clause-spent c = λ spent.
    c.in_ok-self-inside.ensures.made
    ∙ spent-more (scope_of c.self.inside.scope) c.replace-found.result c.args.procedures.now
    (c.replace-found.ensures.value ∙ ap (λ (j : Judgement). j.found) c.self.view_is ∙ spent)
