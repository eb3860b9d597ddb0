-- The digits of a number are those of its hundredth, and two more.
use Rattle.std.proofs.Common.{◌≡◌, ℕ, ◌+◌, ◌/◌, ◌%◌, ◌∷◌, [], ◌++◌, ◌≤◌, ◌<◌, ◌^◌, List, length, append_assoc, length-append, ◌∙◌, ap, sym, arith}
use Rattle.std.proofs.lemmas.Fmt.{decimal_digit, decimal_step, length-decimal-le}
use Rattle.std.specs.Fmt.{decimal}

-- a number of two digits
pub two-digits : (n : ℕ) → 10 ≤ n → n < 100 → decimal n ≡ (48 + n / 10) ∷ (48 + n % 10) ∷ []
two-digits n many few =
    let tens : n / 10 < 10 = omega arith in
    decimal_step n many (omega arith) ∙ ap (λ d. d ++ (48 + n % 10) ∷ []) (decimal_digit (n / 10) tens)

-- a number of more
pub two-more : (n : ℕ) → 100 ≤ n → n < 2 ^ 64 → decimal n ≡ decimal (n / 100) ++ (48 + n % 100 / 10) ∷ (48 + n % 100 % 10) ∷ []
two-more n many fits =
    let tens : 10 ≤ n / 10 = omega arith in
    let less : n / 10 < 2 ^ 64 = omega arith in
    let hundreds : n / 10 / 10 ≡ n / 100 = omega arith in
    let upper : n / 10 % 10 ≡ n % 100 / 10 = omega arith in
    let lower : n % 10 ≡ n % 100 % 10 = omega arith in
    decimal_step n (omega arith) fits
    ∙ ap (λ d. d ++ (48 + n % 10) ∷ []) (decimal_step (n / 10) tens less)
    ∙ append_assoc (decimal (n / 10 / 10)) ((48 + n / 10 % 10) ∷ []) ((48 + n % 10) ∷ [])
    ∙ ap (λ k. decimal k ++ (48 + n / 10 % 10) ∷ (48 + n % 10) ∷ []) hundreds
    ∙ ap (λ k. decimal (n / 100) ++ (48 + k) ∷ (48 + n % 10) ∷ []) upper
    ∙ ap (λ k. decimal (n / 100) ++ (48 + n % 100 / 10) ∷ (48 + k) ∷ []) lower

-- how many digits there are
pub length-one : (n : ℕ) → n < 10 → length (decimal n) ≡ 1
length-one n few = ap length (decimal_digit n few)

pub length-two : (n : ℕ) → 10 ≤ n → n < 100 → length (decimal n) ≡ 2
length-two n many few = ap length (two-digits n many few)

pub length-more : (n : ℕ) → 100 ≤ n → n < 2 ^ 64 → length (decimal n) ≡ length (decimal (n / 100)) + 2
length-more n many fits =
    ap length (two-more n many fits)
    ∙ length-append (decimal (n / 100)) ((48 + n % 100 / 10) ∷ (48 + n % 100 % 10) ∷ [])

pub at-most-20 : (n : ℕ) → n < 2 ^ 64 → length (decimal n) ≤ 20
at-most-20 n fits = length-decimal-le 20 n (omega arith) (omega arith) fits

-- what is written before the last digits, and these
pub with-last : (old before text rest whole last : List ℕ) → text ≡ before ++ last → before ≡ old ++ rest → whole ≡ rest ++ last
    → text ≡ old ++ whole
with-last old before text rest whole last e f g = e ∙ ap (λ b. b ++ last) f ∙ append_assoc old rest last ∙ ap (λ w. old ++ w) (sym g)
