-- The value of digits only grows.
use Rattle.std.proofs.Common.{◌≡◌, ℕ, ◌+◌, ◌-◌, ◌*◌, ◌≤◌, ◌<◌, ◌^◌, List, [], ◌∷◌, length, get_or, drop, arith}
use Rattle.std.proofs.lemmas.List.{at_drop_more}
use Rattle.lexer.specs.Tokens.{value_from}

-- further digits do not make it less
pub value_from_grows : (value : ℕ) (digits : List ℕ) → value ≤ value_from value digits
value_from_grows value [] = omega arith
value_from_grows value (digit ∷ digits) =
    let more = value_from_grows (10 * value + (digit - 48)) digits in omega (arith, more)

-- a value that has grown too large stays so
pub too_large : (value : ℕ) (digits : List ℕ) (i : ℕ) → i < length digits → value_from value (drop i digits) ≡ value_from 0 digits → 2 ^ 64 ≤ 10 * value + (get_or digits i 0 - 48) → ¬ (value_from 0 digits < 2 ^ 64)
too_large value digits i within e large small =
    let more = value_from_grows (10 * value + (get_or digits i 0 - 48)) (drop (i + 1) digits) in
    let step : value_from value (drop i digits) ≡ value_from (10 * value + (get_or digits i 0 - 48)) (drop (i + 1) digits) = at_drop_more (value_from value) digits i 0 within in
    omega (arith, more, step, e)
