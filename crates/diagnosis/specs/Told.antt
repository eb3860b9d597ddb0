-- What is told of a fault begins with its place, and marks it.
use Rattle.std.specs.Prelude.{◌≡◌, ℕ, ◌+◌, ◌<◌, ◌≤◌, Bool, ◌||◌, ◌&&◌, ◌==◌, nat_le, if◌then◌else◌, List, length, true, false, Option, None, Some, IsTrue, unwrap_or}
use Rattle.std.specs.Bool.{MatchBool}
use Rattle.findings.specs.Marking.{TellsMarked}
use Rattle.findings.specs.declared.finding.Finding.{Finding}
use Rattle.findings.specs.declared.finding.Input.{Input}
use Rattle.source_places.specs.Places.{ends_before, within}
use Rattle.diagnosis.specs.Clashes.{MarksClash}
use Rattle.diagnosis.specs.declared.told.Inputs.{Inputs}

-- refusals at an offset of the source
abbrev pub is_at_offset : ℕ → Bool
is_at_offset number = (nat_le 2 number && nat_le number 13) || (nat_le 15 number && nat_le number 17)

-- refusals of a line of a trace, of the stimulus or of a script
abbrev pub is_of_line : ℕ → Bool
is_of_line number = (nat_le 31 number && nat_le number 34) || (number == 51 || number == 61)

-- the text in which a line is refused
abbrev pub input_of : ℕ → Inputs → Option Input
input_of number inputs =
    if number == 51 then inputs.stimulus else (if number == 61 then inputs.script else inputs.trace)

-- the text is that of a finding at the byte at the offset, or at the end of the source where it ends before: it begins
-- with the name of the source, the line and the column of that byte, and what is wrong; behind that come rows of the
-- source with marks in the order of their places, of which that at the byte is a `^`
abbrev pub TellsOffset : Input → Bool → ℕ → List ℕ → Type 0
TellsOffset source keeps offset told =
    (finding : Finding) × (finding.start ≡ within source.bytes.now offset)
    × TellsMarked source.name.now source.bytes.now keeps finding told

-- so it is of a refusal of the source; that of two branches that share a variable marks the use that clashes
abbrev pub TellsSource : ℕ → Input → ℕ → List ℕ → Type 0
TellsSource number source offset told =
    (finding : Finding) × (finding.start ≡ within source.bytes.now offset)
    × TellsMarked source.name.now source.bytes.now false finding told
    × (number ≡ 15 → MarksClash source.bytes.now finding)

-- where there is such a line, the text is that of a finding at a byte of it
abbrev pub TellsLine : Option Input → ℕ → List ℕ → Type 0
TellsLine None line told = Unit {0}
TellsLine (Some input) line told =
    0 < line → line ≤ ends_before input.bytes.now (length input.bytes.now) + 1 →
    (offset : ℕ) × (ends_before input.bytes.now offset + 1 ≡ line) × TellsOffset input true offset told

-- what is told of a refusal of a line, of the first one where none is named, and of one at an offset of the source
abbrev pub TellsAt : ℕ → Option ℕ → Inputs → List ℕ → Type 0
TellsAt number None inputs told = Unit {0}
TellsAt number (Some offset) inputs told = TellsSource number inputs.source offset told

abbrev pub TellsFault : ℕ → Option ℕ → Inputs → List ℕ → Type 0
TellsFault number field inputs told =
    MatchBool (is_of_line number) (TellsLine (input_of number inputs) (unwrap_or field 1) told)
    (IsTrue (is_at_offset number) → TellsAt number field inputs told)
