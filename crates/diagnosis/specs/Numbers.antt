-- Which texts are numbers of a line.
use Rattle.std.specs.Prelude.{ℕ, ◌≤◌, List}
use Rattle.decimal.specs.Reading.{Reads}

-- the text is that of a number up to `most`, in decimal
abbrev pub IsNumberUpTo : List ℕ → ℕ → Type 0
IsNumberUpTo text most = (n : ℕ) × Reads text n × (n ≤ most)

-- it is that of none
abbrev pub IsNoNumberUpTo : List ℕ → ℕ → Type 0
IsNoNumberUpTo text most = (n : ℕ) → Reads text n → n ≤ most → ⊥
