-- The text of a field.
use Rattle.std.specs.Prelude.{ℕ, List}
use Rattle.std.specs.Fmt.{decimal}
use Rattle.address.specs.Text.{text_of}
use Rattle.line_text.specs.EventText.{field}
use Rattle.line_text.specs.declared.field.Field.{Field}

-- what stands in the field
abbrev pub shown : Field → List ℕ
shown (Field.Word word) = word.now
shown (Field.Number number) = decimal number
shown (Field.Name name) = name.now
shown (Field.Place place) = text_of place.now

-- the field behind a space
abbrev pub spaced : Field → List ℕ
spaced it = field (shown it)
