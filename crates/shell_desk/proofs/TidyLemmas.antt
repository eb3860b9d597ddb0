-- Blanks at the ends of a text.
use Rattle.std.proofs.Common.{◌≡◌, ℕ, ◌+◌, ◌-◌, ◌<◌, List, [], ◌∷◌, ◌++◌, Bool, true, false, length, take, get_or, refl, sym, ap, ◌∙◌, arith}
use Rattle.std.proofs.lemmas.List.{take_more, take_all}
use Rattle.std.specs.Bool.{if◌then◌else◌}
use Rattle.shell_desk.specs.Tidied.{is_blank, kept_before, no_blanks_behind}

-- what is said by a test
pub if-true : {X : Type 0} (t : Bool) (x y : X) → t ≡ true → (if t then x else y) ≡ x
if-true true x y e = refl
if-true false x y e = absurd (cc)

pub if-false : {X : Type 0} (t : Bool) (x y : X) → t ≡ false → (if t then x else y) ≡ y
if-false true x y e = absurd (cc)
if-false false x y e = refl

-- a blank behind is cut
pub cut-blank : (bytes : List ℕ) (byte : ℕ) → is_blank byte ≡ true → no_blanks_behind (bytes ++ byte ∷ []) ≡ no_blanks_behind bytes
cut-blank [] byte e = if-true (is_blank byte) [] (byte ∷ []) e
cut-blank (first ∷ bytes) byte e = ap (kept_before first) (cut-blank bytes byte e)

-- what ends in another byte has none
pub ends-so : (bytes : List ℕ) (byte : ℕ) → is_blank byte ≡ false → no_blanks_behind (bytes ++ byte ∷ []) ≡ bytes ++ byte ∷ []
ends-so [] byte e = if-false (is_blank byte) [] (byte ∷ []) e
ends-so (first ∷ []) byte e = ap (kept_before first) (ends-so [] byte e)
ends-so (first ∷ second ∷ bytes) byte e = ap (kept_before first) (ends-so (second ∷ bytes) byte e)

-- a text is what stands before its last byte, and that byte
last-apart : (xs : List ℕ) → 0 < length xs → xs ≡ take (length xs - 1) xs ++ get_or xs (length xs - 1) 0 ∷ []
last-apart xs some =
    sym (take_all (length xs - 1 + 1) xs (omega arith)) ∙ take_more xs (length xs - 1) 0 (omega arith)

-- a text that ends in a blank is cut as what stands before it
pub cut-last : (xs : List ℕ) → 0 < length xs → is_blank (get_or xs (length xs - 1) 0) ≡ true
    → no_blanks_behind (take (length xs - 1) xs) ≡ no_blanks_behind xs
cut-last xs some e =
    sym (ap no_blanks_behind (last-apart xs some) ∙ cut-blank (take (length xs - 1) xs) (get_or xs (length xs - 1) 0) e)

-- a text that ends in another byte has no blanks behind
pub none-cut : (xs : List ℕ) → 0 < length xs → is_blank (get_or xs (length xs - 1) 0) ≡ false → xs ≡ no_blanks_behind xs
none-cut xs some e =
    sym
    (ap no_blanks_behind (last-apart xs some)
    ∙ (ends-so (take (length xs - 1) xs) (get_or xs (length xs - 1) 0) e ∙ sym (last-apart xs some)))
