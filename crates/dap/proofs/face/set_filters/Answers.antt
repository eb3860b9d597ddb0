use Rattle.std.proofs.Common.{Bool, Option, subst}
use Rattle.dap_requests.specs.Sets.{AnswersFilters}
use Rattle.dap.proofs.face.set_filters.Goals as goal

pub returns-clause-answers : goal.returns-clause-answers
returns-clause-answers c =
    subst (λ (o : Option Bool). AnswersFilters o c.args.answer.now c.asks_for_refusals-asked.new.answer) c.asks_for_refusals-asked.ensures.refusals
    c.asks_for_refusals-asked.ensures.answers
