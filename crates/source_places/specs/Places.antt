-- Where a byte of a text stands: its line, and its column in characters.
use Rattle.std.specs.Prelude.{◌≡◌, ◌≢◌, ℕ, ◌+◌, ◌-◌, ◌<◌, ◌≤◌, ◌==◌, ◌⊎◌, List, length, count_by, slice_index, slice_range, take, min}
use Rattle.bstr.specs.Utf8.{lossy_chars}

-- byte 10, which ends a line
abbrev pub line_end : ℕ
line_end = 10

-- how many lines end before the byte
abbrev pub ends_before : List ℕ → ℕ → ℕ
ends_before text offset = count_by (λ b. b == line_end) (take offset text)

-- the line of the byte at `offset` begins at `start`: a line ends before it or the text begins there, and none ends
-- from there to the byte
pub record BeginsLine (text : List ℕ) (offset start : ℕ) : Type 0 where
  pub before : start ≤ offset
  pub begins : (start ≡ 0) ⊎ (slice_index text (start - 1) ≡ line_end)
  pub inside : (k : ℕ) → start ≤ k → k < offset → slice_index text k ≢ line_end

-- the text has no line with this number: it is 0, or more than the text has
abbrev pub HasNoLine : List ℕ → ℕ → Type 0
HasNoLine text line = 0 < line → ends_before text (length text) + 1 < line

-- an offset in the text, or its end for one behind it
abbrev pub within : List ℕ → ℕ → ℕ
within text offset = min offset (length text)

-- the characters from one byte up to another, as UTF-8: each piece that is no character counts as one
abbrev pub characters : List ℕ → ℕ → ℕ → ℕ
characters text start stop = length (lossy_chars (slice_range text start stop))
