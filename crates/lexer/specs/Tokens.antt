-- The tokens of a source.
use Rattle.std.specs.Prelude.{◌≡◌, ℕ, ◌+◌, ◌-◌, ◌*◌, ◌^◌, ◌<◌, List, [], ◌∷◌, ◌++◌, length, Option, Some, None, unwrap_or}
use Rattle.std.specs.Option.{option_map, option_to_list}
use Rattle.std.specs.List.{count_by}
use Rattle.syntax.specs.Texts.{Text, is_end}
use Rattle.lexer.specs.Cut.{Piece, joined, IsCut}
use Rattle.lexer.specs.Table.{symbol, reserved_word}
use Rattle.lexer.specs.declared.class.Class.{Class}
use Rattle.lexer.specs.declared.class.Class.TheVariants as class
use Rattle.lexer.specs.declared.position.Position.{Position}
use Rattle.lexer.specs.declared.token.Kind.{Kind}
use Rattle.lexer.specs.declared.token.Kind.TheVariants.{Name, Number, End}
use Rattle.lexer.specs.declared.token.Token.{Token}

-- the value of the digits that follow on digits of a value
abbrev pub value_from : ℕ → Text → ℕ
value_from value [] = value
value_from value (digit ∷ digits) = value_from (10 * value + (digit - 48)) digits

-- the value of decimal digits
abbrev pub value_of : Text → ℕ
value_of digits = value_from 0 digits

-- the kind of a piece, where it makes a token
abbrev pub kind_of : Class → Text → Option Kind
kind_of class.Word text = Some (unwrap_or (reserved_word text) Name)
kind_of class.Number text = Some Number
kind_of class.Symbol text = symbol text
kind_of class.Blank text = None
kind_of class.LineComment text = None
kind_of class.NestedComment text = None
kind_of class.OpenComment text = None

-- the number that a token of the class has
abbrev pub token_number : Class → Text → ℕ
token_number class.Number text = value_of text
token_number class.Word text = 0
token_number class.Symbol text = 0
token_number class.Blank text = 0
token_number class.LineComment text = 0
token_number class.NestedComment text = 0
token_number class.OpenComment text = 0

-- the position behind a text that begins at the position
abbrev pub behind : Position → Text → Position
behind position text = record { offset = position.offset + length text; line = position.line + count_by is_end text }

-- a token with this text at the position
abbrev pub token_at : Position → Kind → Text → ℕ → Token
token_at position kind text number = record {
  kind = kind;
  text = text;
  number = number;
  span = record { start = position.offset; stop = position.offset + length text; line = position.line };
}

-- the token of a piece at the position, or none for blanks and comments
abbrev pub token_of : Position → Class → Text → Option Token
token_of position class text =
    option_map (λ kind. token_at position kind text (token_number class text)) (kind_of class text)

-- whether a piece is no fault in itself: no open comment, and no number of 2^64 or more
abbrev pub IsReadable : Class → Text → Type 0
IsReadable class.Number text = value_of text < 2 ^ 64
IsReadable class.OpenComment text = ⊥
IsReadable class.Word text = Unit {0}
IsReadable class.Symbol text = Unit {0}
IsReadable class.Blank text = Unit {0}
IsReadable class.LineComment text = Unit {0}
IsReadable class.NestedComment text = Unit {0}

-- each piece is readable
abbrev pub AreReadable : List Piece → Type 0
AreReadable [] = Unit {0}
AreReadable (piece ∷ pieces) = IsReadable piece.class piece.text × AreReadable pieces

-- the source is cut into the pieces and the rest, and each piece is readable
pub record IsReadTo (source : Text) (pieces : List Piece) (rest : Text) : Type 0 where
  pub whole : source ≡ joined pieces ++ rest
  pub cut : IsCut pieces rest
  pub readable : AreReadable pieces

-- the tokens of pieces of which the first is at the position, and behind them the end
abbrev pub tokens_from : Position → List Piece → List Token
tokens_from position [] = token_at position End [] 0 ∷ []
tokens_from position (piece ∷ pieces) =
    option_to_list (token_of position piece.class piece.text) ++ tokens_from (behind position piece.text) pieces

-- the first position of a source
abbrev pub first_position : Position
first_position = record { offset = 0; line = 1 }

-- the source is cut into readable pieces, and these are its tokens
abbrev pub AreTokens : Text → List Token → Type 0
AreTokens source tokens =
    (pieces : List Piece) × IsReadTo source pieces [] × (tokens ≡ tokens_from first_position pieces)
