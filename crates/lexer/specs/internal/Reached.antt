-- How far a source is read, told by what it is to read on.
-- No reader has to believe it: `proofs/ReadingLemmas.antt` begins it with nothing read, and ends it with `AreTokens` of
-- `Tokens.antt` or with
-- `IsRefused` of `Refusal.antt`.
use Rattle.std.specs.Prelude.{◌≡◌, ◌+◌, List, ◌++◌, length}
use Rattle.syntax.specs.Texts.{Text}
use Rattle.lexer.specs.Cut.{Piece, joined}
use Rattle.lexer.specs.Tokens.{IsReadTo, first_position, tokens_from}
use Rattle.lexer.specs.declared.position.Position.{Position}
use Rattle.lexer.specs.declared.token.Token.{Token}

-- The source is read to `end`, and its tokens are those given and then those of the later pieces, which begin
-- at the position.
pub record Reading (source : Text) (tokens : List Token) (position : Position) (later : List Piece)
    (end : Text) : Type 0 where
  pub pieces : List Piece
  pub read : IsReadTo source pieces end
  pub same : tokens_from first_position pieces ≡ tokens ++ tokens_from position later
  pub offset : length (joined pieces) ≡ position.offset + length (joined later)

-- The source is read up to `rest`, with these tokens: to read on there is to read the source.
pub record Reaches (source : Text) (tokens : List Token) (position : Position) (rest : Text) : Type 0 where
  pub onward : (later : List Piece) (end : Text) → IsReadTo rest later end → Reading source tokens position later end
