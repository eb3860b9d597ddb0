use Rattle.std.proofs.Common.{Bool, Option, subst}
use Rattle.serde_json.specs.View.{view}
use Rattle.dap_requests.specs.Sets.{AnswersFilters}
use Rattle.dap_requests.proofs.Setting.{excepts_none, excepts_some}
use Rattle.dap_requests.proofs.breakpoints.set_exceptions.Goals as goal

pub returns-in-Some-clause-sets : goal.returns-in-Some-clause-sets
returns-in-Some-clause-sets c =
    excepts_some (view c.args.request.now.arguments) c.args.program.now c.in-Some.excepts c.asks_for_refusals.result
    c.asks_for_refusals.ensures.refusals c.in-Some.is

pub returns-in-None-clause-sets : goal.returns-in-None-clause-sets
returns-in-None-clause-sets c =
    excepts_none (view c.args.request.now.arguments) c.args.program.now c.asks_for_refusals.result c.asks_for_refusals.ensures.refusals
    c.in-None.is

pub returns-in-Some-clause-answers : goal.returns-in-Some-clause-answers
returns-in-Some-clause-answers c =
    subst (λ (o : Option Bool). AnswersFilters o c.args.answer.now c.asks_for_refusals.new.answer) c.asks_for_refusals.ensures.refusals
    c.asks_for_refusals.ensures.answers

pub returns-in-None-clause-answers : goal.returns-in-None-clause-answers
returns-in-None-clause-answers c =
    subst (λ (o : Option Bool). AnswersFilters o c.args.answer.now c.asks_for_refusals.new.answer) c.asks_for_refusals.ensures.refusals
    c.asks_for_refusals.ensures.answers
