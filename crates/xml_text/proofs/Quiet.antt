-- No byte of a text ends what it stands in.
use Rattle.std.proofs.Common.{◌≡◌, ℕ, zero, suc, ◌+◌, ◌^◌, ◌<◌, nat_lt, List, [], ◌∷◌, ◌++◌, length, Bool, true, false, cond, refl, arith, lit<, lit≤}
use Rattle.std.specs.List.{All}
use Rattle.std.proofs.lemmas.List.Elements.{All-append, All-nil}
use Rattle.std.proofs.lemmas.Bool.Decides.{nat_tests}
use Rattle.std.proofs.lemmas.Fmt.{decimal_is_IsNumeral}
use Rattle.std.specs.Fmt.{decimal}
use Rattle.std.specs.Char.{digit_value}
use Rattle.std.specs.Str.Parse.{AllDigits}
use Rattle.xml_text.specs.Text.{IsQuiet, character_text, escaped, is_allowed, is_literal, readable, reference}

one-more : (b : ℕ) (bs : List ℕ) → IsQuiet b → All IsQuiet bs → All IsQuiet (b ∷ bs)
one-more b bs p all zero d h = p
one-more b bs p all (suc k) d h = let less : k < length bs = omega arith in all k d less

alone : (b : ℕ) → IsQuiet b → All IsQuiet (b ∷ [])
alone b p = one-more b [] p (All-nil IsQuiet)

digit-quiet : (c : ℕ) → digit_value c < 10 → IsQuiet c
digit-quiet c h =
    (grind (arith, nat_tests), grind (arith, nat_tests), grind (arith, nat_tests), grind (arith, nat_tests), grind (arith, nat_tests), grind (arith, nat_tests))

digits-quiet : (ds : List ℕ) → AllDigits 10 ds → All IsQuiet ds
digits-quiet [] h = All-nil IsQuiet
digits-quiet (c ∷ ds) h = one-more c ds (digit-quiet c h.0) (digits-quiet ds h.1)

allowed-fits : (c : ℕ) → is_allowed c ≡ true → c < 2 ^ 64
allowed-fits c h = grind (arith, nat_tests)

readable-by : (allowed : Bool) (c : ℕ) → is_allowed c ≡ allowed → cond allowed c 65533 < 2 ^ 64
readable-by true c is = allowed-fits c is
readable-by false c is = lit< tt

-- a character that is written is no larger than a number of 64 bits
pub readable-fits : (c : ℕ) → readable c < 2 ^ 64
readable-fits c = readable-by (is_allowed c) c refl

quiet-number : (n : ℕ) → n < 2 ^ 64 → All IsQuiet (decimal n)
quiet-number n h = digits-quiet (decimal n) (decimal_is_IsNumeral n h).0.1

quiet-reference : (n : ℕ) → n < 2 ^ 64 → All IsQuiet (reference n)
quiet-reference n h =
    one-more 38 (35 ∷ (decimal n ++ 59 ∷ []))
    (lit≤ tt, lit< tt, λ e. omega arith, λ e. omega arith, λ e. omega arith, λ e. omega arith)
    (one-more 35 (decimal n ++ 59 ∷ [])
    (lit≤ tt, lit< tt, λ e. omega arith, λ e. omega arith, λ e. omega arith, λ e. omega arith)
    (All-append IsQuiet (decimal n) (59 ∷ []) (quiet-number n h)
    (alone 59 (lit≤ tt, lit< tt, λ e. omega arith, λ e. omega arith, λ e. omega arith, λ e. omega arith))))

quiet-literal : (c : ℕ) → is_literal c ≡ true → IsQuiet c
quiet-literal c h =
    (grind (arith, nat_tests), grind (arith, nat_tests), grind (arith, nat_tests), grind (arith, nat_tests), grind (arith, nat_tests), grind (arith, nat_tests))

by-kind : (literal : Bool) (c : ℕ) → is_literal c ≡ literal → All IsQuiet (cond literal (c ∷ []) (reference (readable c)))
by-kind true c is = alone c (quiet-literal c is)
by-kind false c is = quiet-reference (readable c) (readable-fits c)

pub texts-quiet : (cs : List ℕ) → All IsQuiet (escaped cs)
texts-quiet [] = All-nil IsQuiet
texts-quiet (c ∷ cs) = All-append IsQuiet (character_text c) (escaped cs) (by-kind (is_literal c) c refl) (texts-quiet cs)
