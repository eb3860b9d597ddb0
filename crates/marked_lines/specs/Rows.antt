-- Lines of a text with marks under them.
use Rattle.std.specs.Prelude.{◌≡◌, ◌≢◌, ◌⊎◌, ℕ, ◌+◌, ◌-◌, ◌<◌, ◌≤◌, Bool, false, true, ◌&&◌, nat_le, nat_lt, if◌then◌else◌, List, [], ◌∷◌, ◌++◌, length, max, min, sum_by, replicate, flat_map, slice_index, slice_range, codes, decimal, encode_utf8}
use Rattle.bstr.specs.Utf8.{lossy_chars}
use Rattle.source_places.specs.Places.{BeginsLine, ends_before, line_end, within}
use Rattle.marked_lines.specs.Marks.{blank, blanks_under, columns, shown, signs_under}
use Rattle.marked_lines.specs.declared.marks.Mark.{Mark}
use Rattle.marked_lines.specs.declared.part.Part.{Part}

-- the bytes from one offset up to another, as far as the text has them
abbrev pub between : List ℕ → ℕ → ℕ → List ℕ
between text from to = if nat_le from to && nat_le to (length text) then slice_range text from to else []

-- what stands where a line was cut off, and the blanks under it
abbrev pub cut_off : Bool → List ℕ
cut_off is_cut = if is_cut then codes "..." else []

abbrev pub under_cut : Bool → List ℕ
under_cut is_cut = if is_cut then codes "   " else []

-- bytes as they are shown
abbrev pub shown_text : List ℕ → List ℕ
shown_text bytes = flat_map (λ c. encode_utf8 (shown c)) (lossy_chars bytes)

-- a part of a line as it is shown
abbrev pub part_text : List ℕ → Part → List ℕ
part_text text part =
    cut_off part.is_cut_before ++ shown_text (between text part.from part.to) ++ cut_off part.is_cut_behind

-- what stands in front of a row: the number of its line in so many columns
abbrev pub gutter : List ℕ → ℕ → List ℕ
gutter number wide = codes "  " ++ replicate (wide - length number) blank ++ number ++ codes " | "

-- how many columns bytes take
abbrev pub columns_of : List ℕ → ℕ
columns_of bytes = sum_by columns (lossy_chars bytes)

-- a sign in front where what is marked takes no column
abbrev pub sign_in_front : Bool → ℕ → List ℕ
sign_in_front takes sign = if takes then [] else encode_utf8 sign

-- a sign under each column of what is marked, and one where it takes none; a tab under each tab
abbrev pub mark_signs : List ℕ → ℕ → List ℕ
mark_signs bytes sign =
    sign_in_front (nat_lt 0 (columns_of bytes)) sign ++ signs_under sign (lossy_chars bytes)

-- the signs of marks, the first behind the byte at `behind`: each begins under the first character that it marks, and
-- has a sign under each column up to its end, or that of the part. A mark of no bytes has one sign or more, up to where
-- a character of four bytes ends
abbrev pub IsSigns : List ℕ → Part → ℕ → List Mark → List ℕ → Type 0
IsSigns text part behind [] told = told ≡ []
IsSigns text part behind (mark ∷ marks) told =
    (stop : ℕ) × (rest : List ℕ) × (mark.start < mark.stop → stop ≡ min mark.stop part.to)
    × (mark.stop ≤ mark.start → stop ≤ mark.start + 4)
    × (told ≡ blanks_under (lossy_chars (between text behind mark.start)) ++ mark_signs (between text mark.start stop)
    mark.sign ++ rest)
    × IsSigns text part (max stop mark.start) marks rest

-- what is said of the last mark stands behind the signs
abbrev pub last_note : List Mark → List ℕ
last_note [] = []
last_note (mark ∷ []) = mark.note.now
last_note (mark ∷ next ∷ marks) = last_note (next ∷ marks)

abbrev pub behind_blank : List ℕ → List ℕ
behind_blank [] = []
behind_blank (byte ∷ note) = codes " " ++ byte ∷ note

-- what is said of another mark stands in a row of its own, under the first character that it marks
abbrev pub note_row : List ℕ → Part → ℕ → ℕ → List ℕ → List ℕ
note_row text part wide start [] = []
note_row text part wide start (byte ∷ note) =
    gutter [] wide ++ under_cut part.is_cut_before ++ blanks_under (lossy_chars (between text part.from start))
    ++ (byte ∷ note) ++ codes "\n"

-- those of all marks but the last, from the right to the left
abbrev pub note_rows : List ℕ → Part → ℕ → List Mark → List ℕ
note_rows text part wide [] = []
note_rows text part wide (mark ∷ []) = []
note_rows text part wide (mark ∷ next ∷ marks) =
    note_rows text part wide (next ∷ marks) ++ note_row text part wide mark.start mark.note.now

-- a line ends there, or the text does
abbrev pub IsEnd : List ℕ → ℕ → Type 0
IsEnd text end = (end ≡ length text) ⊎ (slice_index text end ≡ line_end)

-- what is shown of a line that begins at `start` ends there: where the line ends, or before a byte 13 at its end, which
-- is shown where it is kept
abbrev pub EndsShown : List ℕ → Bool → ℕ → ℕ → Type 0
EndsShown text true start end = IsEnd text end
EndsShown text false start end =
    (IsEnd text end × (start < end → slice_index text (end - 1) ≢ 13))
    ⊎ ((slice_index text end ≡ 13) × IsEnd text (end + 1))

-- so many bytes are shown at least of a line of which some behind them are cut off
abbrev pub least_shown : ℕ
least_shown = 160

-- the part is one of the line of the byte at the offset, and all of it where nothing is cut off. A byte 13 at its end
-- belongs to it where it is kept
pub record IsPartAt (text : List ℕ) (keeps : Bool) (offset : ℕ) (part : Part) : Type 0 where
  pub line : part.line ≡ ends_before text (within text offset) + 1
  pub start : ℕ
  pub begins : BeginsLine text (within text offset) start
  pub behind : start ≤ part.from
  pub whole : part.is_cut_before ≡ false → part.from ≡ start
  pub inside : (k : ℕ) → part.from ≤ k → k < part.to → k < length text → slice_index text k ≢ line_end
  -- it goes up to the end of the line, or is long and has the byte in it
  pub cut_before : part.is_cut_before ≡ true → start < part.from
  pub all : part.is_cut_behind ≡ false → EndsShown text keeps start part.to
  pub cut_behind : part.is_cut_behind ≡ true → (part.to < length text) × (slice_index text part.to ≢ line_end)
  pub long : part.is_cut_behind ≡ true → part.from + least_shown ≤ part.to
  pub ahead : part.from ≤ within text offset
  pub reached : part.is_cut_behind ≡ true → within text offset ≤ part.to

-- a part of a line, under it these signs, and then what is said of the marks
abbrev pub row_text : List ℕ → ℕ → Part → List ℕ → List Mark → List ℕ
row_text text wide part signs marks =
    gutter (decimal part.line) wide ++ part_text text part ++ codes "\n"
    ++ gutter [] wide ++ under_cut part.is_cut_before ++ signs ++ behind_blank (last_note marks) ++ codes "\n"
    ++ note_rows text part wide marks

-- whether a mark shares a row with the one before it: it begins behind that, in the part or behind its last byte
abbrev pub goes_on : Part → Mark → Mark → Bool
goes_on part before mark =
    nat_le part.from mark.start && nat_le mark.start part.to && nat_le before.stop mark.start
    && nat_lt before.start mark.start

-- these marks share a row with the one before them, and the next one does not
abbrev pub ShareRow : Part → Mark → List Mark → List Mark → Type 0
ShareRow part before [] [] = Unit {0}
ShareRow part before [] (next ∷ later) = goes_on part before next ≡ false
ShareRow part before (mark ∷ marks) later = (goes_on part before mark ≡ true) × ShareRow part mark marks later

-- A row shows a part of the line of its first mark, and under it the marks: as many as can share the row, where these
-- come later.
abbrev pub IsRow : List ℕ → Bool → ℕ → List Mark → List Mark → List ℕ → Type 0
IsRow text keeps wide [] later told = ⊥
IsRow text keeps wide (mark ∷ marks) later told =
    (part : Part) × (signs : List ℕ) × IsPartAt text keeps mark.start part × ShareRow part mark marks later
    × IsSigns text part part.from (mark ∷ marks) signs × (told ≡ row_text text wide part signs (mark ∷ marks))

-- one more row is there
abbrev pub AddsRow : List ℕ → Bool → ℕ → List Mark → List Mark → List ℕ → List ℕ → Type 0
AddsRow text keeps wide row later old new =
    (told : List ℕ) × IsRow text keeps wide row later told × (new ≡ old ++ told)

-- the marks of all rows
abbrev pub marks_in : List (List Mark) → List Mark
marks_in [] = []
marks_in (row ∷ rows) = row ++ marks_in rows

-- rows, where these marks come later
abbrev pub AreRows : List ℕ → Bool → ℕ → List (List Mark) → List Mark → List ℕ → Type 0
AreRows text keeps wide [] later told = told ≡ []
AreRows text keeps wide (row ∷ rows) later told =
    (first : List ℕ) × (rest : List ℕ) × (told ≡ first ++ rest)
    × IsRow text keeps wide row (marks_in rows ++ later) first × AreRows text keeps wide rows later rest

-- rows, each with some of the marks, all of them in turn; a byte 13 at the end of a line is shown where it is kept
abbrev pub AreMarked : List ℕ → Bool → List Mark → List ℕ → Type 0
AreMarked text keeps marks told =
    (wide : ℕ) × (rows : List (List Mark)) × (marks_in rows ≡ marks) × AreRows text keeps wide rows [] told
