-- Where a text is cut at its first space, and what does not begin with one.
-- No reader has to believe it: the contract of `cut_at_space` ties the first to `CutAtSpace` of `Fields.antt`, and
-- `proofs/public/NumberLemmas.antt` the second to the forms of `Operands.antt`.
use Rattle.std.specs.Prelude.{ℕ, ◌≡◌, ◌≤◌, List, length, take, drop}
use Rattle.std.specs.List.{All}
use Rattle.line_text.specs.EventText.{field}
use Rattle.line_text.specs.Fields.{IsNoSpace, BeginsField}

-- so many bytes stand before the first space
abbrev pub IsFieldEnd : List ℕ → ℕ → Type 0
IsFieldEnd text count = (count ≤ length text) × All IsNoSpace (take count text) × BeginsField (drop count text)

-- the text does not begin with a space
abbrev pub IsNoField : List ℕ → Type 0
IsNoField rest = (text : List ℕ) → rest ≡ field text → ⊥
