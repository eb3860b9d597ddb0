-- What is left of a text that is trimmed.
use Rattle.std.proofs.Common.{◌≡◌, ◌+◌, ◌++◌, ℕ, suc, drop, Bool, true, false, cond, List, [], ◌∷◌, Option, None, Some, IfSome, refl, sym, ap, ◌∙◌, lit<, arith, eqb-true}
use Rattle.std.specs.List.{prefix_len}
use Rattle.std.specs.Char.{encode_utf8}
use Rattle.std.specs.Str.{IsTrimAscii}
use Rattle.std.specs.Str.Pattern.{CutsPrefixes, FindsCharPrefix, IsTrimStartMatches}
use Rattle.std.proofs.lemmas.Str.{encode_ascii}
use Rattle.std.proofs.lemmas.Str.Ascii.{trim_ascii_is}
use Rattle.std.proofs.lemmas.Str.Pattern.{drop_at_char}
use Rattle.dap_requests.specs.Typed.{bare, is_mark, line_of, without_before}

one-more : (xs : List ℕ) → without_before is_mark (33 ∷ xs) ≡ without_before is_mark xs
one-more xs = let more : 1 + prefix_len is_mark xs ≡ suc (prefix_len is_mark xs) = omega arith in ap (λ (n : ℕ). drop n (33 ∷ xs)) more

cut : (s r ns : List ℕ) → CutsPrefixes (FindsCharPrefix 33) s ns r → without_before is_mark s ≡ without_before is_mark r
cut s r [] h = ap (λ (t : List ℕ). without_before is_mark t) (sym h)
cut s r (n ∷ ns) h =
    cut s h.0 ns h.1
    ∙ ap (λ (t : List ℕ). without_before is_mark t) (drop_at_char 33 h.0 0 n h.2 (lit< tt))
    ∙ one-more (drop n h.0)
    ∙ ap (λ (t : List ℕ). without_before is_mark t) (sym h.3)

other : (x : ℕ) (b : Bool) (xs : List ℕ) → is_mark x ≡ b → ((rest : List ℕ) → x ∷ xs ≡ encode_utf8 33 ++ rest → ⊥) → without_before is_mark (x ∷ xs) ≡ x ∷ xs
other x true xs is none =
    absurd (none xs (ap (λ (y : ℕ). y ∷ xs) (eqb-true x 33 is) ∙ ap (λ (ys : List ℕ). ys ++ xs) (sym (encode_ascii 33 (lit< tt)))))
other x false xs is none = ap (λ (b : Bool). drop (cond b (1 + prefix_len is_mark xs) 0) (x ∷ xs)) is

unmarked : (r : List ℕ) → ((rest : List ℕ) → r ≡ encode_utf8 33 ++ rest → ⊥) → without_before is_mark r ≡ r
unmarked [] none = refl
unmarked (x ∷ xs) none = other x (is_mark x) xs refl none

left : (r : List ℕ) (o : Option ℕ) → FindsCharPrefix 33 r o → IfSome o (λ (n : ℕ). n ≡ 0) → without_before is_mark r ≡ r
left r None none first = unmarked r none
left r (Some n) at first = let one : n ≡ 0 + 1 = at.ends in let none : n ≡ 0 = first in absurd (omega arith)

-- a text without the marks before it
pub unmarked_is : (s r : List ℕ) → IsTrimStartMatches (FindsCharPrefix 33) s r → r ≡ without_before is_mark s
unmarked_is s r h = sym (left r h.1.0 h.1.1 h.1.2) ∙ sym (cut s r h.0.0 h.0.1)

-- a text without the blanks around it
pub bare_is : (s r : List ℕ) → IsTrimAscii s r → r ≡ bare s
bare_is s r h = trim_ascii_is s r _ refl h

-- the line of a text
pub line_is : (text first rest line : List ℕ) → IsTrimAscii text first → rest ≡ without_before is_mark first → IsTrimAscii rest line → line ≡ line_of (Some text)
line_is text first rest line a b c =
    bare_is rest line c ∙ ap (λ (t : List ℕ). bare t) (b ∙ ap (λ (t : List ℕ). without_before is_mark t) (bare_is text first a))
