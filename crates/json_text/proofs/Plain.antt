-- Each byte of a string is plain.
use Rattle.std.proofs.Common.{◌≡◌, ℕ, zero, suc, ◌+◌, ◌-◌, ◌/◌, ◌%◌, ◌^◌, ◌<◌, nat_lt, List, [], ◌∷◌, ◌++◌, length, Bool, true, false, cond, refl, arith, lit<, lit≤}
use Rattle.std.specs.List.{All}
use Rattle.std.proofs.lemmas.List.Elements.{All-append, All-nil}
use Rattle.std.proofs.lemmas.Bool.Decides.{nat_tests}
use Rattle.std.proofs.lemmas.Fmt.{decimal_is_IsNumeral}
use Rattle.std.specs.Fmt.{decimal}
use Rattle.std.specs.Char.{digit_value}
use Rattle.std.specs.Str.Parse.{AllDigits}
use Rattle.json_text.specs.Strings.{IsPlain, character_text, escaped, hex_digit, is_literal, json_string, pair, unit}

pub one-more : (b : ℕ) (bs : List ℕ) → IsPlain b → All IsPlain bs → All IsPlain (b ∷ bs)
one-more b bs p all zero d h = p
one-more b bs p all (suc k) d h = let less : k < length bs = omega arith in all k d less

pub alone : (b : ℕ) → IsPlain b → All IsPlain (b ∷ [])
alone b p = one-more b [] p (All-nil IsPlain)

digit-by : (low : Bool) (n : ℕ) → n < 16 → nat_lt n 10 ≡ low → IsPlain (cond low (48 + n) (87 + n))
digit-by true n h is = let less : n < 10 = grind (arith, nat_tests) in (omega arith, omega arith, λ e. omega arith)
digit-by false n h is = (omega arith, omega arith, λ e. omega arith)

pub plain-digit : (n : ℕ) → n < 16 → IsPlain (hex_digit n)
plain-digit n h = digit-by (nat_lt n 10) n h refl

quarter : (n : ℕ) → n % 16 < 16
quarter n = omega arith

pub plain-unit : (u : ℕ) → All IsPlain (unit u)
plain-unit u =
    let one : All IsPlain (hex_digit (u % 16) ∷ []) = alone (hex_digit (u % 16)) (plain-digit (u % 16) (quarter u)) in
    let two : All IsPlain (hex_digit (u / 16 % 16) ∷ hex_digit (u % 16) ∷ []) =
    one-more (hex_digit (u / 16 % 16)) (hex_digit (u % 16) ∷ []) (plain-digit (u / 16 % 16) (quarter (u / 16))) one in
    let three : All IsPlain (hex_digit (u / 256 % 16) ∷ hex_digit (u / 16 % 16) ∷ hex_digit (u % 16) ∷ []) =
    one-more (hex_digit (u / 256 % 16)) (hex_digit (u / 16 % 16) ∷ hex_digit (u % 16) ∷ []) (plain-digit (u / 256 % 16) (quarter (u / 256))) two in
    let four : All IsPlain (hex_digit (u / 4096 % 16) ∷ hex_digit (u / 256 % 16) ∷ hex_digit (u / 16 % 16) ∷ hex_digit (u % 16) ∷ []) =
    one-more (hex_digit (u / 4096 % 16)) (hex_digit (u / 256 % 16) ∷ hex_digit (u / 16 % 16) ∷ hex_digit (u % 16) ∷ [])
    (plain-digit (u / 4096 % 16) (quarter (u / 4096))) three in
    one-more 92 (117 ∷ hex_digit (u / 4096 % 16) ∷ hex_digit (u / 256 % 16) ∷ hex_digit (u / 16 % 16) ∷ hex_digit (u % 16) ∷ [])
    (lit≤ tt, lit< tt, λ e. omega arith)
    (one-more 117 (hex_digit (u / 4096 % 16) ∷ hex_digit (u / 256 % 16) ∷ hex_digit (u / 16 % 16) ∷ hex_digit (u % 16) ∷ [])
    (lit≤ tt, lit< tt, λ e. omega arith) four)

pub plain-literal : (c : ℕ) → is_literal c ≡ true → IsPlain c
plain-literal c h = (grind (arith, nat_tests), grind (arith, nat_tests), grind (arith, nat_tests))

by-size : (small : Bool) (c : ℕ) → All IsPlain (cond small (unit c) (pair (c - 65536)))
by-size true c = plain-unit c
by-size false c = All-append IsPlain (unit (55296 + (c - 65536) / 1024)) (unit (56320 + (c - 65536) % 1024)) (plain-unit (55296 + (c - 65536) / 1024)) (plain-unit (56320 + (c - 65536) % 1024))

by-kind : (literal : Bool) (c : ℕ) → is_literal c ≡ literal → All IsPlain (cond literal (c ∷ []) (cond (nat_lt c 65536) (unit c) (pair (c - 65536))))
by-kind true c is = alone c (plain-literal c is)
by-kind false c is = by-size (nat_lt c 65536) c

pub plain-character : (c : ℕ) → All IsPlain (character_text c)
plain-character c = by-kind (is_literal c) c refl

pub plain-escaped : (cs : List ℕ) → All IsPlain (escaped cs)
plain-escaped [] = All-nil IsPlain
plain-escaped (c ∷ cs) = All-append IsPlain (character_text c) (escaped cs) (plain-character c) (plain-escaped cs)

quote-plain : IsPlain 34
quote-plain = (lit≤ tt, lit< tt, λ e. omega arith)

pub strings-plain : (cs : List ℕ) → All IsPlain (json_string cs)
strings-plain cs = one-more 34 (escaped cs ++ 34 ∷ []) quote-plain (All-append IsPlain (escaped cs) (34 ∷ []) (plain-escaped cs) (alone 34 quote-plain))

-- so is each digit of a number
digit-plain : (c : ℕ) → digit_value c < 10 → IsPlain c
digit-plain c h = (grind (arith, nat_tests), grind (arith, nat_tests), grind (arith, nat_tests))

digits-plain : (ds : List ℕ) → AllDigits 10 ds → All IsPlain ds
digits-plain [] h = All-nil IsPlain
digits-plain (c ∷ ds) h = one-more c ds (digit-plain c h.0) (digits-plain ds h.1)

pub plain-decimal : (n : ℕ) → n < 2 ^ 64 → All IsPlain (decimal n)
plain-decimal n h = digits-plain (decimal n) (decimal_is_IsNumeral n h).0.1
