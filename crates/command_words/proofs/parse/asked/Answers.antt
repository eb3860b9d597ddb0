use Rattle.std.proofs.Common.{Option, map, subst}
use Rattle.command_words.specs.declared.request.Request.{Request}
use Rattle.command_words.specs.internal.Building.{Finds}
use Rattle.command_words.proofs.Handing.{refused}
use Rattle.command_words.proofs.WordLemmas.{memory_refused, none_found}
use Rattle.command_words.proofs.parse.asked.Goals as goal

pub returns-in_err-found : goal.returns-in_err-found
returns-in_err-found g c =
    refused c.from_residual.result c.in_err-found.field-0.0 _ _ c.in_err-found.ensures c.from_residual.ensures.1

pub returns-in-Some : goal.returns-in-Some
returns-in-Some g c =
    subst (λ (o : Option Request). Finds (map g.S.AsStr.text c.args.words.now) o) c.in-Some.is c.in_ok-found.ensures

pub returns-in_err-error-in-None : goal.returns-in_err-error-in-None
returns-in_err-error-in-None g c =
    memory_refused c.from_residual-in_err-error-in-None.result (map g.S.AsStr.text c.args.words.now) _
    c.from_residual-in_err-error-in-None.ensures.1

pub returns-in_ok-error-in-None : goal.returns-in_ok-error-in-None
returns-in_ok-error-in-None g c =
    none_found (map g.S.AsStr.text c.args.words.now) c.in_ok-error-in-None.field-0
    (subst (λ (o : Option Request). Finds (map g.S.AsStr.text c.args.words.now) o) c.in-None.is c.in_ok-found.ensures)
    c.in_ok-error-in-None.ensures.kind
