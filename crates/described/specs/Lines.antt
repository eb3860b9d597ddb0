-- The lines of offsets.
use Rattle.std.specs.Prelude.{ℕ, ◌+◌, List, map}
use Rattle.source_places.specs.Places.{ends_before}

-- the line of the byte at an offset, from 1
abbrev pub line_at : List ℕ → ℕ → ℕ
line_at source offset = ends_before source offset + 1

-- those of the bytes at these
abbrev pub lines_at : List ℕ → List ℕ → List ℕ
lines_at source offsets = map (line_at source) offsets
