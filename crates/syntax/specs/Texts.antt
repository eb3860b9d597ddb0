-- Texts, and their lines.
use Rattle.std.specs.Prelude.{ℕ, Bool, ◌==◌, if◌then◌else◌, List, [], ◌∷◌}
use Rattle.std.specs.List.{onto_first}

-- a text, as the list of its bytes
abbrev pub Text : Type 0
Text = List ℕ

-- the byte that ends a line
abbrev pub line_end : ℕ
line_end = 10

-- whether the byte ends a line
abbrev pub is_end : ℕ → Bool
is_end byte = byte == line_end

-- the lines of a text: each ends at a byte that ends a line, the last one there or with the text
abbrev pub lines : Text → List Text
lines [] = []
lines (byte ∷ text) = if is_end byte then [] ∷ lines text else onto_first byte (lines text)
