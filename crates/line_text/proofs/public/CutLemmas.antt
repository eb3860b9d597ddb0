-- Texts cut at their first space.
use Rattle.std.proofs.Common.{◌≡◌, ℕ, ◌<◌, ◌≤◌, ◌^◌, Bool, true, false, cond, eqb, List, [], ◌∷◌, ◌++◌, length, take, drop, get_or, refl, sym, ap, ◌∙◌, subst, arith, lit≤, drop-cons}
use Rattle.std.proofs.lemmas.Bool.{false≢true}
use Rattle.std.proofs.lemmas.List.{take_all, drop_all}
use Rattle.std.specs.List.{All}
use Rattle.std.specs.Fmt.{decimal}
use Rattle.std.specs.Char.{digit_value}
use Rattle.std.specs.Str.Parse.{AllDigits}
use Rattle.std.proofs.lemmas.List.Elements.{All-nil, All-cons, All-head, All-tail, All-append}
use Rattle.address.specs.declared.Entry.{Entry}
use Rattle.address.specs.declared.Entry.TheVariants.{Ordered, Branch}
use Rattle.address.specs.Text.{text_of}
use Rattle.address.specs.Reading.{NumbersFit}
use Rattle.line_text.specs.Fields.{IsNoSpace, BeginsField}
use Rattle.line_text.specs.internal.FieldParts.{IsFieldEnd}
use Rattle.decimal.proofs.public.DigitLemmas.{decimal-digits}

-- the first number, or 0
first_of_numbers : List ℕ → ℕ
first_of_numbers [] = 0
first_of_numbers (x ∷ xs) = x

-- the numbers after the first
rest_of_numbers : List ℕ → List ℕ
rest_of_numbers [] = []
rest_of_numbers (x ∷ xs) = xs

-- equal lists have equal first numbers
pub heads : (x y : ℕ) (xs ys : List ℕ) → x ∷ xs ≡ y ∷ ys → x ≡ y
unfolding first_of_numbers
heads x y xs ys e = ap first_of_numbers e

-- equal lists have equal rests
pub tails : (x y : ℕ) (xs ys : List ℕ) → x ∷ xs ≡ y ∷ ys → xs ≡ ys
unfolding rest_of_numbers
tails x y xs ys e = ap rest_of_numbers e

-- two cuts of one text are the same
pub cut-same : (xs ys u v : List ℕ) → All IsNoSpace xs → All IsNoSpace ys → BeginsField u → BeginsField v
    → xs ++ u ≡ ys ++ v → (xs ≡ ys) × (u ≡ v)
cut-same [] [] u v h k m n e = (refl, e)
cut-same [] (y ∷ ys) u v h k m n e =
    let space : y ≡ 32 = subst BeginsField e m in absurd (All-head IsNoSpace y ys k space)
cut-same (x ∷ xs) [] u v h k m n e =
    let space : x ≡ 32 = subst BeginsField (sym e) n in absurd (All-head IsNoSpace x xs h space)
cut-same (x ∷ xs) (y ∷ ys) u v h k m n e =
    let rest : (xs ≡ ys) × (u ≡ v) =
    cut-same xs ys u v (All-tail IsNoSpace x xs h) (All-tail IsNoSpace y ys k) m n (tails x y (xs ++ u) (ys ++ v) e) in
    (ap (λ c. c ∷ xs) (heads x y (xs ++ u) (ys ++ v) e) ∙ ap (λ zs. y ∷ zs) rest.0, rest.1)

-- a decimal digit is no space
digit-no-space : (c : ℕ) → digit_value c < 10 → c ≡ 32 → ⊥
digit-no-space c h e =
    let high : 10 ≤ digit_value 32 = lit≤ tt in
    let low : digit_value 32 < 10 = subst (λ b. digit_value b < 10) e h in
    omega (arith, high, low)

-- digits have no space
digits-no-space : (ds : List ℕ) → AllDigits 10 ds → All IsNoSpace ds
digits-no-space [] h = All-nil IsNoSpace
digits-no-space (c ∷ cs) h = All-cons IsNoSpace c cs (digit-no-space c h.0) (digits-no-space cs h.1)

-- a number has no space
pub decimal-no-space : (n : ℕ) → n < 2 ^ 64 → All IsNoSpace (decimal n)
decimal-no-space n small = digits-no-space (decimal n) (decimal-digits n small)

-- an address has no space
pub address-no-space : (a : List Entry) → NumbersFit a → All IsNoSpace (text_of a)
address-no-space [] h = All-nil IsNoSpace
address-no-space (Ordered i ∷ a) h =
    All-append IsNoSpace (46 ∷ decimal i) (text_of a)
    (All-cons IsNoSpace 46 (decimal i) (λ e. omega (arith, e)) (decimal-no-space i (omega (arith, h.0))))
    (address-no-space a h.1)
address-no-space (Branch i ∷ a) h =
    All-append IsNoSpace (47 ∷ decimal i) (text_of a)
    (All-cons IsNoSpace 47 (decimal i) (λ e. omega (arith, e)) (decimal-no-space i (omega (arith, h.0))))
    (address-no-space a h.1)

-- whether a text has no space
abbrev pub clear : List ℕ → Bool
clear [] = true
clear (b ∷ bs) = cond (eqb b 32) false (clear bs)

-- one byte of it
clear-step : (b : ℕ) (r rest : Bool) → r ≡ eqb b 32 → cond r false rest ≡ true → (b ≡ 32 → ⊥) × (rest ≡ true)
clear-step b true rest p e = absurd (false≢true e)
clear-step b false rest p e = (λ s. false≢true (p ∙ ap (λ x. eqb x 32) s), e)

-- a text that passes has none
pub clear-by-test : (text : List ℕ) → clear text ≡ true → All IsNoSpace text
clear-by-test [] h = All-nil IsNoSpace
clear-by-test (b ∷ bs) h =
    let parts : (b ≡ 32 → ⊥) × (clear bs ≡ true) = clear-step b (eqb b 32) (clear bs) refl h in
    All-cons IsNoSpace b bs parts.0 (clear-by-test bs parts.1)

-- a space at a place begins what stands from there on
pub begins-at : (text : List ℕ) (i : ℕ) → i < length text → get_or text i 0 ≡ 32 → BeginsField (drop i text)
begins-at text i h e = rw (drop-cons text i 0) e

-- where no space is found all is before it
pub end-of-field : (text : List ℕ) (i : ℕ) → All IsNoSpace (take i text) → length text ≤ i → IsFieldEnd text (length text)
end-of-field text i h all =
    let whole : All IsNoSpace text = subst (λ t. All IsNoSpace t) (take_all i text all) h in (
      omega arith,
      subst (λ t. All IsNoSpace t) (sym (take_all (length text) text (omega arith))) whole,
      subst BeginsField (sym (drop_all (length text) text (omega arith))) tt,
    )

-- a text without bytes is empty
pub nil-by-length : (text : List ℕ) → length text ≡ 0 → text ≡ []
nil-by-length [] e = refl
nil-by-length (x ∷ xs) e = absurd (omega (arith, e))

-- a text that is not of length 0 is not empty
pub not-nil : (text : List ℕ) (r : Bool) → r ≡ eqb (length text) 0 → r ≡ false → text ≡ [] → ⊥
not-nil text r e h n = false≢true (sym h ∙ (e ∙ ap (λ t. eqb (length t) 0) n))
