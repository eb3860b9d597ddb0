-- The tokens are all that the source can have.
use Rattle.std.proofs.Common.{◌≡◌, List, ap, ◌∙◌}
use Rattle.std.proofs.lemmas.Result.{IfOk-weaker}
use Rattle.lexer.specs.Tokens.{AreTokens}
use Rattle.lexer.specs.declared.token.Token.{Token}
use Rattle.described.specs.Enumerations.{enumerations_of}
use Rattle.described.specs.declared.enumeration.Enumeration.{Enumeration}
use Rattle.described.proofs.enumeration.enumerations_in.Goals as goal

pub returns-in-Ok : goal.returns-in-Ok
returns-in-Ok c =
    IfOk-weaker c.enumerations_of.result
    (λ (found : List Enumeration). found ≡ enumerations_of c.as_slice.result.now)
    (λ (found : List Enumeration). (tokens : List Token) → AreTokens c.args.source.now tokens → found ≡ enumerations_of tokens)
    (λ found h. λ tokens are. h ∙ ap enumerations_of (c.as_slice.ensures.value ∙ c.in-Ok.ensures.every_source tokens are))
    c.enumerations_of.ensures
