-- A string reads back to its characters.
use Rattle.std.proofs.Common.{◌≡◌, ◌⊎◌, inl, inr, ℕ, zero, suc, ◌+◌, ◌-◌, ◌*◌, ◌/◌, ◌%◌, ◌<◌, nat_lt, List, [], ◌∷◌, ◌++◌, length, Bool, true, false, cond, refl, subst, sym, append_assoc, arith}
use Rattle.std.specs.List.{All}
use Rattle.std.proofs.lemmas.Bool.Decides.{nat_tests}
use Rattle.json_text.specs.Reading.{ArePair, BeginsWith, BeginsWithUnit, IsCharacter, IsWhole, ReadsAs, StringsReadBack, itself, one, two}
use Rattle.json_text.specs.Strings.{character_text, escaped, is_literal, json_string, pair, unit}

four-digits : (c : ℕ) → c < 65536 → c ≡ 4096 * (c / 4096 % 16) + 256 * (c / 256 % 16) + 16 * (c / 16 % 16) + c % 16
four-digits c h = omega arith

below : (n : ℕ) → n % 16 < 16
below n = omega arith

unit-read : (c : ℕ) (rest : List ℕ) → c < 65536 → BeginsWithUnit (unit c ++ rest) c rest
unit-read c rest h = record {
  first = c / 4096 % 16;
  second = c / 256 % 16;
  third = c / 16 % 16;
  fourth = c % 16;
  first_below = below (c / 4096);
  second_below = below (c / 256);
  third_below = below (c / 16);
  fourth_below = below c;
  begins = refl;
  value = four-digits c h;
}

halves : (n c : ℕ) → c ≡ 65536 + n → n < 1048576 → ArePair (55296 + n / 1024) (56320 + n % 1024) c
halves n c is h = record {
  high_from = omega arith;
  high_below = omega arith;
  low_from = omega arith;
  low_below = omega arith;
  value = omega arith;
}

past : (n c : ℕ) (rest : List ℕ) → c ≡ 65536 + n → n < 1048576 → BeginsWith (pair n ++ rest) c rest
past n c rest is h =
    let high : 55296 + n / 1024 < 65536 = omega arith in
    let low : 56320 + n % 1024 < 65536 = omega arith in
    two (55296 + n / 1024) (56320 + n % 1024) (unit (56320 + n % 1024) ++ rest)
    (unit-read (55296 + n / 1024) (unit (56320 + n % 1024) ++ rest) high) (unit-read (56320 + n % 1024) rest low) (halves n c is h)

by-size : (small : Bool) (c : ℕ) (rest : List ℕ) → nat_lt c 65536 ≡ small → IsCharacter c →
    BeginsWith (cond small (unit c) (pair (c - 65536)) ++ rest) c rest
by-size true c rest is h = let less : c < 65536 = grind (arith, nat_tests) in one h.0 (unit-read c rest less)
by-size false c rest is h =
    let more : c ≡ 65536 + (c - 65536) = grind (arith, nat_tests) in
    let less : c - 65536 < 1048576 = let top : c < 1114112 = h.1 in omega arith in
    past (c - 65536) c rest more less

by-kind : (literal : Bool) (c : ℕ) (rest : List ℕ) → is_literal c ≡ literal → IsCharacter c →
    BeginsWith (cond literal (c ∷ []) (cond (nat_lt c 65536) (unit c) (pair (c - 65536))) ++ rest) c rest
by-kind true c rest is h = itself refl (grind (arith, nat_tests)) (grind (arith, nat_tests)) (grind (arith, nat_tests))
by-kind false c rest is h = by-size (nat_lt c 65536) c rest refl h

begins : (c : ℕ) (rest : List ℕ) → IsCharacter c → BeginsWith (character_text c ++ rest) c rest
begins c rest h = by-kind (is_literal c) c rest refl h

reads : (cs : List ℕ) → All IsCharacter cs → ReadsAs (escaped cs ++ 34 ∷ []) cs
reads [] h = refl
reads (c ∷ cs) h =
    let first : 0 < length (c ∷ cs) = omega arith in
    let others : All IsCharacter cs = λ k d less. let further : suc k < length (c ∷ cs) = omega arith in h (suc k) d further in
    let rest : List ℕ = escaped cs ++ 34 ∷ [] in (
      rest,
      subst (λ (text : List ℕ). BeginsWith text c rest) (sym (append_assoc (character_text c) (escaped cs) (34 ∷ []))) (begins c rest (h zero 0 first)),
      reads cs others,
    )

pub strings-read-back : StringsReadBack
strings-read-back cs h = (escaped cs ++ 34 ∷ [], refl, reads cs h)
