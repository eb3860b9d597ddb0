-- Which number has a decimal text.
use Rattle.std.specs.Prelude.{◌≡◌, ℕ, ◌<◌, ◌^◌, List}
use Rattle.std.specs.Fmt.{decimal}

-- `digits` are the decimal text of the number n, which is below 2^64
abbrev pub Reads : List ℕ → ℕ → Type 0
Reads digits n = (n < 2 ^ 64) × (decimal n ≡ digits)

-- `text` is not the decimal text of a number below 2^64
abbrev pub IsNoNumber : List ℕ → Type 0
IsNoNumber text = (n : ℕ) → Reads text n → ⊥
