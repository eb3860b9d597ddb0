-- What stands in a part of a text.
use Rattle.std.specs.Prelude.{ℕ, List, [], ◌&&◌, nat_le, length, slice_range, if◌then◌else◌}
use Rattle.syntax.specs.declared.span.Span.{Span}

-- the bytes of the part; none where the text does not have them
abbrev pub text_of : List ℕ → Span → List ℕ
text_of text span =
    if nat_le span.start span.stop && nat_le span.stop (length text) then slice_range text span.start span.stop else []
