-- A source that is cut into the longest spellings.
use Rattle.std.specs.Prelude.{◌≡◌, ◌≢◌, List, [], ◌∷◌, ◌++◌}
use Rattle.syntax.specs.Texts.{Text}
use Rattle.lexer.specs.Spelling.{Spells}
use Rattle.lexer.specs.declared.class.Class.{Class}

-- a part of the source, with what it spells
pub record Piece : Type 0 where
  pub class : Class
  pub text : Text

-- the texts of the pieces, one behind the other
abbrev pub joined : List Piece → Text
joined [] = []
joined (piece ∷ pieces) = piece.text ++ joined pieces

-- the piece is a spelling, and together with more of what stands behind it it is none
pub record IsLongest (piece : Piece) (after : Text) : Type 0 where
  pub spelled : Spells piece.class piece.text
  pub longest : (more beyond : Text) → after ≡ more ++ beyond → more ≢ [] → (class : Class) →
      ¬ Spells class (piece.text ++ more)

-- each piece is the longest spelling at its position, where `rest` stands behind the last one
abbrev pub IsCut : List Piece → Text → Type 0
IsCut [] rest = Unit {0}
IsCut (piece ∷ pieces) rest = IsLongest piece (joined pieces ++ rest) × IsCut pieces rest
