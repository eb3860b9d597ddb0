-- Decimal digits and the numbers below 2^64 that they are the text of.
use Rattle.std.proofs.Common.{◌≡◌, ℕ, ◌+◌, ◌*◌, ◌-◌, ◌<◌, ◌≤◌, ◌^◌, List, length, take, get_or, ap, subst, sym, inl, inr, arith, true, false}
use Rattle.std.specs.Fmt.{decimal}
use Rattle.std.specs.Char.{digit_value, is_ascii_digit}
use Rattle.std.specs.Int.{IsInRange}
use Rattle.std.specs.Str.Parse.{AllDigits, digits_value}
use Rattle.std.proofs.lemmas.Bool.{cases_lt}
use Rattle.std.proofs.lemmas.Bool.Decides.{nat_tests}
use Rattle.std.proofs.lemmas.Fmt.{decimal_nonempty, first_decimal, length-decimal-le, digits_value-decimal, digits_decimal, decimal-digits_value}
use Rattle.std.proofs.lemmas.Int.Digits.{digits_value_more}
use Rattle.std.proofs.lemmas.Str.{digit_value_digit}
use Rattle.std.proofs.lemmas.Str.Parse.{IsNumeralModel, numerals_by_value, tells_digits, digit_at, digits_value-take-le}
use Rattle.decimal.specs.Reading.{Reads, IsNoNumber}

-- std's words for digits and their value
own : IsNumeralModel (AllDigits 10) (digits_value 10)
own = numerals_by_value (AllDigits 10) tells_digits

-- the text of a number is of digits
pub decimal-digits : (n : ℕ) → n < 2 ^ 64 → AllDigits 10 (decimal n)
decimal-digits n small = digits_decimal own n small

-- a text with another byte than digits is that of no number
pub no-number-digits : (ds : List ℕ) → (AllDigits 10 ds → ⊥) → IsNoNumber ds
no-number-digits ds none n h = none (subst (AllDigits 10) h.1 (decimal-digits n h.0))

-- no number has the empty text
pub no-number-empty : (ds : List ℕ) → length ds ≡ 0 → IsNoNumber ds
no-number-empty ds e n h = omega (arith, decimal_nonempty n h.0, ap length h.1, e)

-- no number has a text of two digits and more that starts with zero
pub no-number-zero : (ds : List ℕ) → get_or ds 0 0 ≡ 48 → 1 < length ds → IsNoNumber ds
no-number-zero ds e long n h =
    elim (cases_lt 0 n) [
      | inl more ↦ omega (arith, first_decimal n more h.0, ap (λ d. get_or d 0 0) h.1, e)
      | inr none ↦ omega (arith, length-decimal-le 1 n (omega arith) (omega (arith, none)) h.0, ap length h.1, long)
    ]

-- no number below 2^64 has digits of which the first are worth more
pub no-number-large : (ds : List ℕ) (k : ℕ) → 2 ^ 64 ≤ digits_value 10 (take k ds) → IsNoNumber ds
no-number-large ds k big n h =
    omega (
      arith,
      digits_value-decimal own n h.0,
      ap (digits_value 10) h.1,
      digits_value-take-le 10 ds k (omega arith),
      big,
      h.0,
    )

-- digits with no leading zero are the text of their value
pub number-of-digits : (ds : List ℕ) (n : ℕ) → AllDigits 10 ds → 0 < length ds → (get_or ds 0 0 ≡ 48 → length ds ≡ 1)
    → n ≡ digits_value 10 ds → n < 2 ^ 64 → Reads ds n
number-of-digits ds n all some lead e small = (
  small,
  subst (λ m. decimal m ≡ ds) (sym e)
      (decimal-digits_value own ds all some lead (omega (arith, e, small))),
)

-- one more digit
pub digit-more : (ds : List ℕ) (i n : ℕ) → AllDigits 10 ds → i < length ds → n ≡ digits_value 10 (take i ds)
    → n * 10 + (get_or ds i 0 - 48) ≡ digits_value 10 (take (i + 1) ds)
digit-more ds i n all within e =
    omega (arith, digits_value_more 10 ds i within, digit_value_digit (get_or ds i 0) (digit_at ds i all within), e)

-- a byte that passes the test is a digit
pub digit-passes : (c : ℕ) → is_ascii_digit c ≡ true → digit_value c < 10
digit-passes c h = grind (arith, nat_tests)

-- a byte that fails the test is no digit
pub digit-fails : (c : ℕ) → is_ascii_digit c ≡ false → IsInRange 48 57 c → ⊥
digit-fails c h d = grind (arith, nat_tests)
