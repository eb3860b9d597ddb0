-- A folder without each `/` at its end.
use Rattle.std.proofs.Common.{◌≡◌, ◌≢◌, ◌==◌, ◌-◌, ℕ, Bool, true, false, List, [], ◌∷◌, ◌++◌, Option, None, Some, if◌then◌else◌, length, take, drop, refl, sym, ◌∙◌, ap, eqb-true, take-append-drop, drop_of_length-le, arith}
use Rattle.std.specs.Prelude.{IfSome}
use Rattle.std.specs.Str.Pattern.{CutsSuffixes, FindsCharSuffix, IsTrimEndMatches}
use Rattle.std.proofs.lemmas.Str.{encode_ascii}
use Rattle.std.proofs.lemmas.Str.Pattern.{drop_at_char}
use Rattle.dap.specs.Asking.{before_rest, unslashed}

-- one more `/` does not stay
unslashed-more : (xs : List ℕ) → unslashed (xs ++ 47 ∷ []) ≡ unslashed xs
unslashed-more [] = refl
unslashed-more (x ∷ xs) = ap (λ (ys : List ℕ). before_rest x ys) (unslashed-more xs)

-- what does not end with one stays
before-nothing : (letter : ℕ) (b : Bool) → b ≡ (letter == 47) → (letter ≡ 47 → ⊥) → (if b then [] else letter ∷ []) ≡ letter ∷ []
before-nothing letter true is none = absurd (none (eqb-true letter 47 (sym is)))
before-nothing letter false is none = refl

unslashed-same : (xs : List ℕ) → ((front : List ℕ) → xs ≢ front ++ 47 ∷ []) → unslashed xs ≡ xs
unslashed-same [] none = refl
unslashed-same (letter ∷ []) none =
    before-nothing letter (letter == 47) refl (λ is. none [] (ap (λ (n : ℕ). n ∷ []) is))
unslashed-same (letter ∷ x ∷ xs) none =
    ap (λ (ys : List ℕ). before_rest letter ys)
    (unslashed-same (x ∷ xs) (λ front is. none (letter ∷ front) (ap (λ (ys : List ℕ). letter ∷ ys) is)))

-- one is cut off
cut-one : (m r : List ℕ) (n : ℕ) → FindsCharSuffix 47 m (Some n) → r ≡ take (length m - n) m → unslashed m ≡ unslashed r
cut-one m r n found is =
    let after : drop (length m) m ≡ [] = drop_of_length-le m (omega arith) in
    let tail : drop (length m - n) m ≡ 47 ∷ [] =
    drop_at_char 47 m (length m - n) (length m) found.1 (omega arith) ∙ ap (λ (ys : List ℕ). 47 ∷ ys) after in
    let whole : m ≡ r ++ 47 ∷ [] =
    sym (take-append-drop (length m - n) m)
    ∙ ap (λ (ys : List ℕ). take (length m - n) m ++ ys) tail ∙ ap (λ (ys : List ℕ). ys ++ 47 ∷ []) (sym is) in
    ap unslashed whole ∙ unslashed-more r

-- all are
cut-all : (s r : List ℕ) (ns : List ℕ) → CutsSuffixes (FindsCharSuffix 47) s ns r → unslashed s ≡ unslashed r
cut-all s r [] is = ap unslashed (sym is)
cut-all s r (n ∷ ns) h = cut-all s h.0 ns h.1 ∙ cut-one h.0 r n h.2 h.3

-- what is left is what stays
not-one : (n : ℕ) → n ≡ 1 → n ≡ 0 → ⊥
not-one n one none = omega arith

left-over : (r : List ℕ) (o : Option ℕ) → FindsCharSuffix 47 r o → IfSome o (λ (n : ℕ). n ≡ 0) → unslashed r ≡ r
left-over r None none empty =
    unslashed-same r
    (λ front is. none front (is ∙ ap (λ (ys : List ℕ). front ++ ys) (sym (encode_ascii 47 (omega arith)))))
left-over r (Some n) found empty = absurd (not-one n found.0 empty)

pub trims : (s r : List ℕ) → IsTrimEndMatches (FindsCharSuffix 47) s r → r ≡ unslashed s
trims s r h = sym (cut-all s r h.0.0 h.0.1 ∙ left-over r h.1.0 h.1.1 h.1.2)
