-- The text of a piece.
use Rattle.std.specs.Prelude.{ℕ, List}
use Rattle.std.specs.Fmt.{decimal}
use Rattle.address.specs.Text.{text_of}
use Rattle.text_parts.specs.declared.Piece.{Piece}

-- what a piece shows
abbrev pub shown : Piece → List ℕ
shown (Piece.Words words) = words.now
shown (Piece.Number number) = decimal number
shown (Piece.Name name) = name.now
shown (Piece.Place place) = text_of place.now
