-- Digits and the numbers that they are the text of.
use Rattle.std.proofs.Common.{◌≡◌, ℕ, ◌<◌, ◌≤◌, ◌^◌, List, [], ◌∷◌, ◌++◌, Option, Some, None, MatchOption, sym, refl, ap, ◌∙◌, subst, arith, Bool, true, false, eqb}
use Rattle.std.specs.Option.{SomeIff}
use Rattle.std.specs.Fmt.{decimal}
use Rattle.std.specs.Char.{digit_value, is_ascii_digit}
use Rattle.std.specs.Str.Parse.{AllDigits, digits_value}
use Rattle.std.proofs.lemmas.Bool.Decides.{nat_tests}
use Rattle.std.proofs.lemmas.Fmt.{digits_decimal, decimal_injective}
use Rattle.std.proofs.lemmas.Str.Parse.{IsNumeralModel, numerals_by_value, tells_digits}
use Rattle.decimal.specs.Reading as wide
use Rattle.address.specs.internal.Entries.{StartsNoDigit, ReadsNumber, ReadsNoNumber}

-- std's words for digits and their value
own : IsNumeralModel (AllDigits 10) (digits_value 10)
own = numerals_by_value (AllDigits 10) tells_digits

-- what is not the text of a number of 64 bits is not that of one of 32 bits
no-number-wide : (ds : List ℕ) → wide.IsNoNumber ds → ReadsNoNumber ds
no-number-wide ds none n h = none n (omega (arith, h.0), h.1)

-- the text of a number with more than 32 bits is not that of one of 32 bits
no-number-large : (ds : List ℕ) (m : ℕ) → wide.Reads ds m → (m < 2 ^ 32 → ⊥) → ReadsNoNumber ds
no-number-large ds m reads large n h =
    let same : n ≡ m = decimal_injective n m (omega (arith, h.0)) reads.0 (h.1 ∙ sym reads.1) in
    large (subst (λ k. k < 2 ^ 32) same h.0)

-- what is read where no number of 64 bits stands
pub none-read : (r : Option ℕ) (ds : List ℕ) → r ≡ None → wide.IsNoNumber ds → MatchOption r (ReadsNoNumber ds) (λ n. ReadsNumber ds n)
none-read None ds e none = no-number-wide ds none
none-read (Some n) ds e none = cc

-- the number that is read, where it has 32 bits
pub number-read : (r : Option ℕ) (ds : List ℕ) (m : ℕ) → wide.Reads ds m → SomeIff r (m < 2 ^ 32) m
    → MatchOption r (ReadsNoNumber ds) (λ n. ReadsNumber ds n)
number-read None ds m reads h = no-number-large ds m reads h
number-read (Some n) ds m reads h = (subst (λ k. k < 2 ^ 32) (sym h.1) h.0, ap decimal h.1 ∙ reads.1)

-- a byte that passes the test is a digit
pub digit-passes : (c : ℕ) → is_ascii_digit c ≡ true → digit_value c < 10
digit-passes c h = grind (arith, nat_tests)

-- the first number, or 0
first_of_numbers : List ℕ → ℕ
first_of_numbers [] = 0
first_of_numbers (x ∷ xs) = x

-- the numbers after the first
rest_of_numbers : List ℕ → List ℕ
rest_of_numbers [] = []
rest_of_numbers (x ∷ xs) = xs

-- equal lists have equal first numbers
pub heads : (x y : ℕ) (xs ys : List ℕ) → x ∷ xs ≡ y ∷ ys → x ≡ y
unfolding first_of_numbers
heads x y xs ys e = ap first_of_numbers e

-- equal lists have equal rests
pub tails : (x y : ℕ) (xs ys : List ℕ) → x ∷ xs ≡ y ∷ ys → xs ≡ ys
unfolding rest_of_numbers
tails x y xs ys e = ap rest_of_numbers e

-- two texts that start with digits, and then go on with none, are equal in both parts
pub digits-split : (xs ys u v : List ℕ) → AllDigits 10 xs → AllDigits 10 ys → StartsNoDigit u → StartsNoDigit v
    → xs ++ u ≡ ys ++ v → (xs ≡ ys) × (u ≡ v)
digits-split [] [] u v h k m n e = (refl, e)
digits-split [] (y ∷ ys) u v h k m n e =
    let high : 10 ≤ digit_value y = subst StartsNoDigit e m in absurd (omega (arith, high, k.0))
digits-split (x ∷ xs) [] u v h k m n e =
    let high : 10 ≤ digit_value x = subst StartsNoDigit (sym e) n in absurd (omega (arith, high, h.0))
digits-split (x ∷ xs) (y ∷ ys) u v h k m n e =
    let rest : (xs ≡ ys) × (u ≡ v) = digits-split xs ys u v h.1 k.1 m n (tails x y (xs ++ u) (ys ++ v) e) in
    (ap (λ c. c ∷ xs) (heads x y (xs ++ u) (ys ++ v) e) ∙ ap (λ zs. y ∷ zs) rest.0, rest.1)

-- equal texts of numbers, where no digit follows, are of equal numbers
pub numbers-split : (m n : ℕ) (u v : List ℕ) → m < 2 ^ 32 → n < 2 ^ 32 → StartsNoDigit u → StartsNoDigit v
    → decimal m ++ u ≡ decimal n ++ v → (m ≡ n) × (u ≡ v)
numbers-split m n u v small little h k e =
    let parts : (decimal m ≡ decimal n) × (u ≡ v) =
    digits-split (decimal m) (decimal n) u v (digits_decimal own m (omega (arith, small))) (digits_decimal own n (omega (arith, little))) h k e in
    (decimal_injective m n (omega (arith, small)) (omega (arith, little)) parts.0, parts.1)

-- the text of a number is of digits
pub number-digits : (n : ℕ) → n < 2 ^ 32 → AllDigits 10 (decimal n)
number-digits n small = digits_decimal own n (omega (arith, small))

-- what is not empty has a first
pub not-empty : (n : ℕ) (r : Bool) → r ≡ eqb n 0 → r ≡ false → 0 < n
not-empty n r e h = grind (arith, nat_tests)
