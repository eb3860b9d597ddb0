-- The lines that are told of a finding, and the marks under them.
use Rattle.std.specs.Prelude.{◌≡◌, ℕ, Bool, List, [], ◌∷◌, ◌++◌, map, string_bytes, IsPermutation}
use Rattle.std.specs.List.Sorted.{IsNonDecreasingBy}
use Rattle.findings.specs.Heads.{IsHead}
use Rattle.findings.specs.declared.finding.Beside.{Beside}
use Rattle.findings.specs.declared.finding.Finding.{Finding}
use Rattle.marked_lines.specs.Rows.{AreMarked}
use Rattle.marked_lines.specs.declared.marks.Mark.{Mark}

-- a mark as it is seen: the bytes that it marks, its sign, and what is said of them
pub record Seen : Type 0 where
  pub start : ℕ
  pub stop : ℕ
  pub sign : ℕ
  pub note : List ℕ

abbrev pub seen : Mark → Seen
seen mark = record { start = mark.start; stop = mark.stop; sign = mark.sign; note = mark.note.now }

-- what is marked beside a fault has a `-` under it, and a note
abbrev pub seen_beside : Beside → Seen
seen_beside one = record { start = one.start; stop = one.stop; sign = 45; note = string_bytes one.note }

-- the fault itself has a `^` under it
abbrev pub seen_fault : ℕ → ℕ → Seen
seen_fault start stop = record { start = start; stop = stop; sign = 94; note = [] }

-- marks in the order of their places: that of the fault, and what is marked beside it
abbrev pub AreMarksOf : Finding → List Mark → Type 0
AreMarksOf finding marks =
    IsPermutation (seen_fault finding.start finding.stop ∷ map seen_beside finding.beside.items) (map seen marks)
    × IsNonDecreasingBy (λ (mark : Mark). mark.start) marks

-- rows with the marks of a finding, whatever stands behind them; a byte 13 at the end of a line is shown where it is kept
abbrev pub ShowsMarks : List ℕ → Bool → Finding → List ℕ → Type 0
ShowsMarks source keeps finding told =
    (marks : List Mark) × (rows behind : List ℕ) × AreMarksOf finding marks × AreMarked source keeps marks rows
    × (told ≡ rows ++ behind)

-- the first line tells the place and what is wrong, and behind it come rows with the marks
abbrev pub TellsMarked : List ℕ → List ℕ → Bool → Finding → List ℕ → Type 0
TellsMarked name source keeps finding told =
    (first rest : List ℕ) × IsHead name source finding.start (string_bytes finding.what) first
    × ShowsMarks source keeps finding rest × (told ≡ first ++ rest)
