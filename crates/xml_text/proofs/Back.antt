-- A text reads back to its characters.
use Rattle.std.proofs.Common.{◌≡◌, ◌≢◌, ◌⊎◌, ◌∙◌, ℕ, ◌^◌, ◌<◌, nat_lt, List, [], ◌∷◌, ◌++◌, map, Bool, true, false, cond, refl, arith, inl, inr, ap, sym, append_assoc}
use Rattle.std.proofs.lemmas.Bool.Decides.{nat_tests}
use Rattle.std.proofs.lemmas.Fmt.{decimal_is_IsNumeral}
use Rattle.std.specs.Fmt.{decimal}
use Rattle.xml_text.specs.Text.{BeginsWith, ReadsAs, character_text, escaped, is_allowed, is_literal, readable, reference}
use Rattle.xml_text.proofs.Quiet.{readable-fits}

-- a character that stands for itself is one that XML can have, and begins no reference
literal-allowed : (c : ℕ) → is_literal c ≡ true → is_allowed c ≡ true
literal-allowed c h = grind (arith, nat_tests)

literal-readable : (c : ℕ) → is_literal c ≡ true → readable c ≡ c
literal-readable c h = ap (λ (b : Bool). cond b c 65533) (literal-allowed c h)

begins-reference : (n : ℕ) (rest : List ℕ) → n < 2 ^ 64 → BeginsWith (reference n ++ rest) n rest
begins-reference n rest h =
    inr (decimal n, ap (λ (bs : List ℕ). 38 ∷ 35 ∷ bs) (append_assoc (decimal n) (59 ∷ []) rest), (decimal_is_IsNumeral n h).0, (decimal_is_IsNumeral n h).1)

begins-literal : (c n : ℕ) (rest : List ℕ) → is_literal c ≡ true → n ≡ c → BeginsWith (c ∷ rest) n rest
begins-literal c n rest h same =
    let first : c ∷ rest ≡ n ∷ rest = ap (λ (m : ℕ). m ∷ rest) (sym same) in
    let amp : n ≢ 38 = λ e. grind (arith, nat_tests) in
    let less : n ≢ 60 = λ e. grind (arith, nat_tests) in
    inl (first, amp, less)

begins-by : (literal : Bool) (c : ℕ) (rest : List ℕ) → is_literal c ≡ literal
    → BeginsWith (cond literal (c ∷ []) (reference (readable c)) ++ rest) (readable c) rest
begins-by true c rest is = begins-literal c (readable c) rest is (literal-readable c is)
begins-by false c rest is = begins-reference (readable c) rest (readable-fits c)

pub reads-back : (cs : List ℕ) → ReadsAs (escaped cs) (map readable cs)
reads-back [] = refl
reads-back (c ∷ cs) = (escaped cs, begins-by (is_literal c) c (escaped cs) refl, reads-back cs)
