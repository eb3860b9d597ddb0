-- Parts of a description: each begins with the word `procedure`, and the first one may begin with types.
-- No reader has to believe it: `proofs/public/PartLaws.antt` ties it to `Parses` and `IsRefused` of `Accepted.antt`,
-- for callers that parse part by part.
use Rattle.std.specs.Prelude.{List, ◌++◌}
use Rattle.lexer.specs.declared.token.Token.{Token}
use Rattle.lexer.specs.internal.Parts.{BeginsProcedure}
use Rattle.syntax.specs.declared.declaration.Description.{Description}
use Rattle.parser.specs.Accepted.{IsRefused, Parses}
use Rattle.refusals.specs.declared.parser.Fault.{Fault}

-- the first description with the procedures of the second behind its own
abbrev pub joined : Description → Description → Description
joined first second = record { types = first.types; procedures = first.procedures ++ second.procedures }

-- Behind these tokens, which are the description, a part that begins with `procedure` is what it is alone.
pub record Opens (before : List Token) (given : Description) : Type 0 where
  pub parses : (part : List Token) → BeginsProcedure part → (more : Description) → Parses part more →
      Parses (before ++ part) (joined given more)
  pub refused : (part : List Token) → BeginsProcedure part → (fault : Fault) → IsRefused part fault →
      IsRefused (before ++ part) fault
