-- A text that is that of a greater number is that of no number up to the most.
use Rattle.std.proofs.Common.{◌≡◌, ℕ, ◌<◌, ◌≤◌, List, sym, ◌∙◌, arith}
use Rattle.std.proofs.lemmas.Fmt.{decimal_injective}
use Rattle.decimal.specs.Reading.{Reads, IsNoNumber}
use Rattle.diagnosis.specs.Numbers.{IsNoNumberUpTo}

pub too_great : (text : List ℕ) (number most : ℕ) → Reads text number → most < number → IsNoNumberUpTo text most
too_great text number most reads greater n other small =
    let same : n ≡ number = decimal_injective n number other.0 reads.0 (other.1 ∙ sym reads.1) in
    omega (arith, greater, small, same)

pub no_number : (text : List ℕ) (most : ℕ) → IsNoNumber text → IsNoNumberUpTo text most
no_number text most none n reads small = none n reads
