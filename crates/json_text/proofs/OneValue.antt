-- A text has one value: what stands before a mark of punctuation or the end is read in one way.
use Rattle.std.proofs.Common.{◌≡◌, ◌∙◌, ◌⊎◌, inl, inr, ℕ, ◌+◌, ◌-◌, ◌*◌, ◌<◌, ◌≤◌, nat_lt, List, [], ◌∷◌, ◌++◌, length, Bool, true, false, cond, refl, sym, ap, subst, append_assoc, arith}
use Rattle.std.specs.List.{flat_map}
use Rattle.std.specs.Char.{digit_value}
use Rattle.std.specs.Str.Parse.{AllDigits, IsNumeral}
use Rattle.std.proofs.lemmas.Bool.Decides.{nat_tests}
use Rattle.json_text.specs.Json.{AreMembersOf, AreTextsOf, Elements, IsNumber, IsStringOf, IsTextOf, Json, Members, TextsHaveOneValue, element, list, member, no_elements, no_members, number, object, string}
use Rattle.json_text.specs.Reading.{ArePair, BeginsWith, BeginsWithUnit, IsWhole, ReadsAs, itself, one, two}
use Rattle.json_text.specs.Strings.{hex_digit}
use Rattle.json_text.specs.Values.{list_text, object_text, with_commas}

head-is : (c d : ℕ) (xs ys : List ℕ) → c ∷ xs ≡ d ∷ ys → c ≡ d
head-is c d xs ys h = cc

tail-is : (c d : ℕ) (xs ys : List ℕ) → c ∷ xs ≡ d ∷ ys → xs ≡ ys
tail-is c d xs ys h = cc

-- ---- strings

-- both values are one, and so is what is left
abbrev Agree : ℕ → ℕ → List ℕ → List ℕ → Type 0
Agree u w a b = (u ≡ w) × (a ≡ b)

digit-by : (low other : Bool) (m n : ℕ) → nat_lt m 10 ≡ low → nat_lt n 10 ≡ other → m < 16 → n < 16 →
    cond low (48 + m) (87 + m) ≡ cond other (48 + n) (87 + n) → m ≡ n
digit-by true true m n t u h k is = omega arith
digit-by true false m n t u h k is = let less : m < 10 = grind (arith, nat_tests) in omega arith
digit-by false true m n t u h k is = let less : n < 10 = grind (arith, nat_tests) in omega arith
digit-by false false m n t u h k is = omega arith

one-digit : (m n : ℕ) → m < 16 → n < 16 → hex_digit m ≡ hex_digit n → m ≡ n
one-digit m n h k is = digit-by (nat_lt m 10) (nat_lt n 10) m n refl refl h k is

one-unit : (p q a b r s : List ℕ) (u w : ℕ) → BeginsWithUnit p u r → BeginsWithUnit q w s → p ++ a ≡ q ++ b → Agree u w (r ++ a) (s ++ b)
one-unit p q a b r s u w h k same =
    let front : List ℕ → List ℕ = λ t. 92 ∷ 117 ∷ hex_digit h.first ∷ hex_digit h.second ∷ hex_digit h.third ∷ hex_digit h.fourth ∷ t in
    let other : List ℕ → List ℕ = λ t. 92 ∷ 117 ∷ hex_digit k.first ∷ hex_digit k.second ∷ hex_digit k.third ∷ hex_digit k.fourth ∷ t in
    let whole : front (r ++ a) ≡ other (s ++ b) =
    sym (ap (λ (t : List ℕ). t ++ a) h.begins) ∙ (same ∙ ap (λ (t : List ℕ). t ++ b) k.begins) in
    let at2 = tail-is 117 117 _ _ (tail-is 92 92 _ _ whole) in
    let at3 = tail-is _ _ _ _ at2 in
    let at4 = tail-is _ _ _ _ at3 in
    let at5 = tail-is _ _ _ _ at4 in
    let first : h.first ≡ k.first = one-digit h.first k.first h.first_below k.first_below (head-is _ _ _ _ at2) in
    let second : h.second ≡ k.second = one-digit h.second k.second h.second_below k.second_below (head-is _ _ _ _ at3) in
    let third : h.third ≡ k.third = one-digit h.third k.third h.third_below k.third_below (head-is _ _ _ _ at4) in
    let fourth : h.fourth ≡ k.fourth = one-digit h.fourth k.fourth h.fourth_below k.fourth_below (head-is _ _ _ _ at5) in
    let one = h.value in
    let two = k.value in
    (omega arith, tail-is _ _ _ _ at5)

-- the first byte of a unit
mark : (p a r : List ℕ) (u : ℕ) → BeginsWithUnit p u r → (rest : List ℕ) × (p ++ a ≡ 92 ∷ rest)
mark p a r u h =
    (117 ∷ hex_digit h.first ∷ hex_digit h.second ∷ hex_digit h.third ∷ hex_digit h.fourth ∷ (r ++ a), ap (λ (t : List ℕ). t ++ a) h.begins)

not-mark : (p q a b r s : List ℕ) (c u : ℕ) → p ≡ c ∷ r → (c ≡ 92 → ⊥) → BeginsWithUnit q u s → p ++ a ≡ q ++ b → ⊥
not-mark p q a b r s c u is other h same =
    let begins = mark q b s u h in
    other (head-is c 92 (r ++ a) begins.0 (sym (ap (λ (t : List ℕ). t ++ a) is) ∙ (same ∙ begins.1)))

not-half : (u high low c : ℕ) → IsWhole u → ArePair high low c → u ≡ high → ⊥
not-half u high low c (inl less) pair is =
    let from = pair.high_from in omega arith
not-half u high low c (inr more) pair is =
    let below = pair.high_below in omega arith

one-pair : (high low c up down d : ℕ) → ArePair high low c → ArePair up down d → high ≡ up → low ≡ down → c ≡ d
one-pair high low c up down d h k first second = let one = h.value in let two = k.value in omega arith

one-beginning : (p q a b r s : List ℕ) (c d : ℕ) → BeginsWith p c r → BeginsWith q d s → p ++ a ≡ q ++ b → Agree c d (r ++ a) (s ++ b)
one-beginning p q a b r s c d (itself is from no_end no_mark) (itself is2 from2 no_end2 no_mark2) same =
    let whole : c ∷ (r ++ a) ≡ d ∷ (s ++ b) =
    sym (ap (λ (t : List ℕ). t ++ a) is) ∙ (same ∙ ap (λ (t : List ℕ). t ++ b) is2) in
    (head-is c d _ _ whole, tail-is c d _ _ whole)
one-beginning p q a b r s c d (itself is from no_end no_mark) (one whole h) same = absurd (not-mark p q a b r s c d is no_mark h same)
one-beginning p q a b r s c d (itself is from no_end no_mark) (two high low middle h k pair) same =
    absurd (not-mark p q a b r middle c high is no_mark h same)
one-beginning p q a b r s c d (one whole h) (itself is from no_end no_mark) same = absurd (not-mark q p b a s r d c is no_mark h (sym same))
one-beginning p q a b r s c d (one whole h) (one whole2 k) same = one-unit p q a b r s c d h k same
one-beginning p q a b r s c d (one whole h) (two high low middle k l pair) same =
    absurd (not-half c high low d whole pair (one-unit p q a b r middle c high h k same).0)
one-beginning p q a b r s c d (two high low middle h k pair) (itself is from no_end no_mark) same =
    absurd (not-mark q p b a s middle d high is no_mark h (sym same))
one-beginning p q a b r s c d (two high low middle h k pair) (one whole l) same =
    absurd (not-half d high low c whole pair (sym (one-unit p q a b middle s high d h l same).0))
one-beginning p q a b r s c d (two high low middle h k pair) (two up down between l m other) same =
    let first = one-unit p q a b middle between high up h l same in
    let second = one-unit middle between a b r s low down k m first.1 in
    (one-pair high low c up down d pair other first.0 second.0, second.1)

marks-differ : (c : ℕ) → c ≡ 92 → c ≡ 34 → ⊥
marks-differ c is other = omega arith

not-end : (p a r : List ℕ) (c : ℕ) → BeginsWith p c r → (b : List ℕ) → p ++ a ≡ 34 ∷ b → ⊥
not-end p a r c (itself is from no_end no_mark) b same =
    no_end (head-is c 34 (r ++ a) b (sym (ap (λ (t : List ℕ). t ++ a) is) ∙ same))
not-end p a r c (one whole h) b same =
    let begins = mark p a r c h in marks-differ 92 refl (head-is 92 34 begins.0 b (sym begins.1 ∙ same))
not-end p a r c (two high low middle h k pair) b same =
    let begins = mark p a middle high h in marks-differ 92 refl (head-is 92 34 begins.0 b (sym begins.1 ∙ same))

one-string : (cs ds p q a b : List ℕ) → ReadsAs p cs → ReadsAs q ds → p ++ a ≡ q ++ b → (cs ≡ ds) × (a ≡ b)
one-string [] [] p q a b h k same =
    let whole : 34 ∷ a ≡ 34 ∷ b = sym (ap (λ (t : List ℕ). t ++ a) h) ∙ (same ∙ ap (λ (t : List ℕ). t ++ b) k) in
    (refl, tail-is 34 34 a b whole)
one-string [] (d ∷ ds) p q a b h k same =
    absurd (not-end q b k.0 d k.1 a (sym same ∙ ap (λ (t : List ℕ). t ++ a) h))
one-string (c ∷ cs) [] p q a b h k same =
    absurd (not-end p a h.0 c h.1 b (same ∙ ap (λ (t : List ℕ). t ++ b) k))
one-string (c ∷ cs) (d ∷ ds) p q a b h k same =
    let first = one-beginning p q a b h.0 k.0 c d h.1 k.1 same in
    let rest = one-string cs ds h.0 k.0 a b h.2 k.2 first.1 in
    (ap (λ (x : ℕ). x ∷ cs) first.0 ∙ ap (λ (xs : List ℕ). d ∷ xs) rest.0, rest.1)

one-quoted : (cs ds s t a b : List ℕ) → IsStringOf cs s → IsStringOf ds t → s ++ a ≡ t ++ b → (cs ≡ ds) × (a ≡ b)
one-quoted cs ds s t a b h k same =
    let whole : 34 ∷ (h.0 ++ a) ≡ 34 ∷ (k.0 ++ b) =
    sym (ap (λ (x : List ℕ). x ++ a) h.1) ∙ (same ∙ ap (λ (x : List ℕ). x ++ b) k.1) in
    one-string cs ds h.0 k.0 a b h.2 k.2 (tail-is 34 34 _ _ whole)

-- ---- numbers

-- nothing more, or a mark of punctuation
abbrev Ends : List ℕ → Type 0
Ends [] = Unit {0}
Ends (c ∷ cs) = (c ≡ 44) ⊎ ((c ≡ 93) ⊎ (c ≡ 125))

digit-from : (c : ℕ) → digit_value c < 10 → (48 ≤ c) × (c < 58)
digit-from c h = (grind (arith, nat_tests), grind (arith, nat_tests))

no-digit : (c : ℕ) (cs : List ℕ) → digit_value c < 10 → Ends (c ∷ cs) → ⊥
no-digit c cs h (inl is) = let from = digit-from c h in let low = from.0 in omega arith
no-digit c cs h (inr (inl is)) = let from = digit-from c h in let high = from.1 in omega arith
no-digit c cs h (inr (inr is)) = let from = digit-from c h in let high = from.1 in omega arith

one-digits : (ds es a b : List ℕ) → AllDigits 10 ds → AllDigits 10 es → Ends a → Ends b → ds ++ a ≡ es ++ b → (ds ≡ es) × (a ≡ b)
one-digits [] [] a b h k x y same = (refl, same)
one-digits [] (e ∷ es) a b h k x y same = absurd (no-digit e (es ++ b) k.0 (subst Ends same x))
one-digits (d ∷ ds) [] a b h k x y same = absurd (no-digit d (ds ++ a) h.0 (subst Ends (sym same) y))
one-digits (d ∷ ds) (e ∷ es) a b h k x y same =
    let rest = one-digits ds es a b h.1 k.1 x y (tail-is d e (ds ++ a) (es ++ b) same) in
    (ap (λ (c : ℕ). c ∷ ds) (head-is d e (ds ++ a) (es ++ b) same) ∙ ap (λ (cs : List ℕ). e ∷ cs) rest.0, rest.1)

no-minus : (ds es rest a b : List ℕ) → IsNumeral 10 ds → es ≡ 45 ∷ rest → ds ++ a ≡ es ++ b → ⊥
no-minus [] es rest a b h is same = let some = h.0 in absurd (omega arith)
no-minus (d ∷ ds) es rest a b h is same =
    let low = (digit-from d h.1.0).0 in
    let head : d ≡ 45 = head-is d 45 (ds ++ a) (rest ++ b) (same ∙ ap (λ (t : List ℕ). t ++ b) is) in
    omega arith

-- whatever its first digit
abbrev IsWide : List ℕ → Type 0
IsWide ds = IsNumeral 10 ds ⊎ ((rest : List ℕ) × (ds ≡ 45 ∷ rest) × IsNumeral 10 rest)

wide : (ds : List ℕ) → IsNumber ds → IsWide ds
wide ds (inl h) = inl h.0
wide ds (inr (inl h)) = inr (h.0, h.1, h.2.0)
wide ds (inr (inr h)) = inl h.0

one-number : (ds es a b : List ℕ) → IsWide ds → IsWide es → Ends a → Ends b → ds ++ a ≡ es ++ b → (ds ≡ es) × (a ≡ b)
one-number ds es a b (inl h) (inl k) x y same = one-digits ds es a b h.1 k.1 x y same
one-number ds es a b (inl h) (inr k) x y same = absurd (no-minus ds es k.0 a b h k.1 same)
one-number ds es a b (inr h) (inl k) x y same = absurd (no-minus es ds h.0 b a k h.1 (sym same))
one-number ds es a b (inr h) (inr k) x y same =
    let whole : 45 ∷ (h.0 ++ a) ≡ 45 ∷ (k.0 ++ b) =
    sym (ap (λ (t : List ℕ). t ++ a) h.1) ∙ (same ∙ ap (λ (t : List ℕ). t ++ b) k.1) in
    let rest = one-digits h.0 k.0 a b h.2.1 k.2.1 x y (tail-is 45 45 _ _ whole) in
    (h.1 ∙ (ap (λ (t : List ℕ). 45 ∷ t) rest.0 ∙ sym k.1), rest.1)

-- ---- first bytes

abbrev First : Json → ℕ → Type 0
First (string cs) c = c ≡ 34
First (number ds) c = ((48 ≤ c) × (c < 58)) ⊎ (c ≡ 45)
First (list vs) c = c ≡ 91
First (object ms) c = c ≡ 123

abbrev Begins : Json → List ℕ → Type 0
Begins v s = (c : ℕ) × (rest : List ℕ) × (s ≡ c ∷ rest) × First v c

number-begins : (ds : List ℕ) → IsWide ds → Begins (number ds) ds
number-begins [] (inl h) = let some = h.0 in absurd (omega arith)
number-begins (d ∷ ds) (inl h) = (d, ds, refl, inl (digit-from d h.1.0))
number-begins ds (inr h) = (45, h.0, h.1, inr refl)

begins : (v : Json) (s : List ℕ) → IsTextOf v s → Begins v s
begins (string cs) s h = (34, h.0, h.1, refl)
begins (number ds) s h = let b = number-begins ds (wide ds h.1) in (b.0, b.1, h.0 ∙ b.2, b.3)
begins (list vs) s h = (91, with_commas h.0 ++ 93 ∷ [], h.1, refl)
begins (object ms) s h = (123, with_commas h.0 ++ 125 ∷ [], h.1, refl)

heads : (v w : Json) (s t a b : List ℕ) → IsTextOf v s → IsTextOf w t → s ++ a ≡ t ++ b → (c : ℕ) × First v c × First w c
heads v w s t a b h k same =
    let x = begins v s h in
    let y = begins w t k in
    let whole : x.0 ∷ (x.1 ++ a) ≡ y.0 ∷ (y.1 ++ b) =
    sym (ap (λ (z : List ℕ). z ++ a) x.2) ∙ (same ∙ ap (λ (z : List ℕ). z ++ b) y.2) in
    (x.0, x.3, subst (First w) (sym (head-is x.0 y.0 (x.1 ++ a) (y.1 ++ b) whole)) y.3)

number-by : (ds : List ℕ) (c d : ℕ) → First (number ds) c → c ≡ d → ((48 ≤ d) × (d < 58) → ⊥) → (d ≡ 45 → ⊥) → ⊥
number-by ds c d (inl digit) is no_digit no_minus = no_digit (subst (λ (x : ℕ). (48 ≤ x) × (x < 58)) is digit)
number-by ds c d (inr minus) is no_digit no_minus = no_minus (sym is ∙ minus)

-- no value begins with a bracket that closes
not-closing : (v : Json) (c : ℕ) → First v c → (c ≡ 93) ⊎ (c ≡ 125) → ⊥
not-closing (string cs) c is (inl end) = omega arith
not-closing (string cs) c is (inr end) = omega arith
not-closing (number ds) c is (inl end) = number-by ds c 93 is end (λ d. let high = d.1 in omega arith) (λ e. omega arith)
not-closing (number ds) c is (inr end) = number-by ds c 125 is end (λ d. let high = d.1 in omega arith) (λ e. omega arith)
not-closing (list vs) c is (inl end) = omega arith
not-closing (list vs) c is (inr end) = omega arith
not-closing (object ms) c is (inl end) = omega arith
not-closing (object ms) c is (inr end) = omega arith

-- ---- values

abbrev further : List (List ℕ) → List ℕ
further xs = flat_map (λ (y : List ℕ). 44 ∷ y) xs

abbrev Closing : ℕ → Type 0
Closing end = (end ≡ 93) ⊎ (end ≡ 125)

ends-further : (xs : List (List ℕ)) (end : ℕ) (a : List ℕ) → Closing end → Ends (further xs ++ end ∷ a)
ends-further [] end a (inl is) = inr (inl is)
ends-further [] end a (inr is) = inr (inr is)
ends-further (x ∷ xs) end a closing = inl refl

not-comma : (end : ℕ) (a rest : List ℕ) → Closing end → end ∷ a ≡ 44 ∷ rest → ⊥
not-comma end a rest (inl is) same = let head = head-is end 44 a rest same in omega arith
not-comma end a rest (inr is) same = let head = head-is end 44 a rest same in omega arith

-- what is opened and closed, behind the mark that opens it
inner : (begin end : ℕ) (s t a b : List ℕ) (xs ys : List (List ℕ)) → s ≡ begin ∷ (with_commas xs ++ end ∷ []) → t ≡ begin ∷ (with_commas ys ++ end ∷ []) →
    s ++ a ≡ t ++ b → with_commas xs ++ end ∷ a ≡ with_commas ys ++ end ∷ b
inner begin end s t a b xs ys h k same =
    let whole : begin ∷ ((with_commas xs ++ end ∷ []) ++ a) ≡ begin ∷ ((with_commas ys ++ end ∷ []) ++ b) =
    sym (ap (λ (z : List ℕ). z ++ a) h) ∙ (same ∙ ap (λ (z : List ℕ). z ++ b) k) in
    sym (append_assoc (with_commas xs) (end ∷ []) a)
    ∙ (tail-is begin begin _ _ whole ∙ append_assoc (with_commas ys) (end ∷ []) b)

value-not-end : (v : Json) (s rest a : List ℕ) (end : ℕ) → Closing end → IsTextOf v s → end ∷ a ≡ s ++ rest → ⊥
value-not-end v s rest a end closing h same =
    let x = begins v s h in
    let head : end ≡ x.0 = head-is end x.0 a (x.1 ++ rest) (same ∙ ap (λ (z : List ℕ). z ++ rest) x.2) in
    not-closing v x.0 x.3 (subst Closing head closing)

-- the name of a member before all that is behind it
named-first : (x n value more rest : List ℕ) → x ≡ n ++ 58 ∷ value → (x ++ more) ++ rest ≡ n ++ ((58 ∷ value ++ more) ++ rest)
named-first x n value more rest is =
    ap (λ (t : List ℕ). (t ++ more) ++ rest) is
    ∙ (ap (λ (t : List ℕ). t ++ rest) (append_assoc n (58 ∷ value) more) ∙ append_assoc n (58 ∷ value ++ more) rest)

one-member : (d e : List ℕ) (v w : Json) (ms ns : Members) → d ≡ e → v ≡ w → ms ≡ ns → member d v ms ≡ member e w ns
one-member d e v w ms ns name value more =
    ap (λ (x : List ℕ). member x v ms) name ∙ (ap (λ (x : Json). member e x ms) value ∙ ap (λ (x : Members). member e w x) more)

mutual
  one-value : (v w : Json) (s t a b : List ℕ) → IsTextOf v s → IsTextOf w t → Ends a → Ends b → s ++ a ≡ t ++ b → (v ≡ w) × (a ≡ b)
  one-value (string cs) (string ds) s t a b h k x y same =
      let both = one-quoted cs ds s t a b h k same in (ap string both.0, both.1)
  one-value (string cs) (number ds) s t a b h k x y same =
      let c = heads (string cs) (number ds) s t a b h k same in
      absurd (number-by ds c.0 34 c.2 c.1 (λ d. let low = d.0 in omega arith) (λ e. omega arith))
  one-value (string cs) (list ws) s t a b h k x y same =
      let c = heads (string cs) (list ws) s t a b h k same in let u = c.1 in let w = c.2 in absurd (omega arith)
  one-value (string cs) (object ns) s t a b h k x y same =
      let c = heads (string cs) (object ns) s t a b h k same in let u = c.1 in let w = c.2 in absurd (omega arith)
  one-value (number ds) (string cs) s t a b h k x y same =
      let c = heads (number ds) (string cs) s t a b h k same in
      absurd (number-by ds c.0 34 c.1 c.2 (λ d. let low = d.0 in omega arith) (λ e. omega arith))
  one-value (number ds) (number es) s t a b h k x y same =
      let both = one-number ds es a b (wide ds h.1) (wide es k.1) x y
      (sym (ap (λ (z : List ℕ). z ++ a) h.0) ∙ (same ∙ ap (λ (z : List ℕ). z ++ b) k.0)) in
      (ap number both.0, both.1)
  one-value (number ds) (list ws) s t a b h k x y same =
      let c = heads (number ds) (list ws) s t a b h k same in
      absurd (number-by ds c.0 91 c.1 c.2 (λ d. let high = d.1 in omega arith) (λ e. omega arith))
  one-value (number ds) (object ns) s t a b h k x y same =
      let c = heads (number ds) (object ns) s t a b h k same in
      absurd (number-by ds c.0 123 c.1 c.2 (λ d. let high = d.1 in omega arith) (λ e. omega arith))
  one-value (list vs) (string cs) s t a b h k x y same =
      let c = heads (list vs) (string cs) s t a b h k same in let u = c.1 in let w = c.2 in absurd (omega arith)
  one-value (list vs) (number ds) s t a b h k x y same =
      let c = heads (list vs) (number ds) s t a b h k same in
      absurd (number-by ds c.0 91 c.2 c.1 (λ d. let high = d.1 in omega arith) (λ e. omega arith))
  one-value (list vs) (list ws) s t a b h k x y same =
      let both = one-list vs ws h.0 k.0 a b h.2 k.2 (inner 91 93 s t a b h.0 k.0 h.1 k.1 same) in (ap list both.0, both.1)
  one-value (list vs) (object ns) s t a b h k x y same =
      let c = heads (list vs) (object ns) s t a b h k same in let u = c.1 in let w = c.2 in absurd (omega arith)
  one-value (object ms) (string cs) s t a b h k x y same =
      let c = heads (object ms) (string cs) s t a b h k same in let u = c.1 in let w = c.2 in absurd (omega arith)
  one-value (object ms) (number ds) s t a b h k x y same =
      let c = heads (object ms) (number ds) s t a b h k same in
      absurd (number-by ds c.0 123 c.2 c.1 (λ d. let high = d.1 in omega arith) (λ e. omega arith))
  one-value (object ms) (list ws) s t a b h k x y same =
      let c = heads (object ms) (list ws) s t a b h k same in let u = c.1 in let w = c.2 in absurd (omega arith)
  one-value (object ms) (object ns) s t a b h k x y same =
      let both = one-object ms ns h.0 k.0 a b h.2 k.2 (inner 123 125 s t a b h.0 k.0 h.1 k.1 same) in (ap object both.0, both.1)

  one-list : (vs ws : Elements) (xs ys : List (List ℕ)) (a b : List ℕ) → AreTextsOf vs xs → AreTextsOf ws ys →
      with_commas xs ++ 93 ∷ a ≡ with_commas ys ++ 93 ∷ b → (vs ≡ ws) × (a ≡ b)
  one-list no_elements no_elements [] [] a b h k same = (refl, tail-is 93 93 a b same)
  one-list no_elements no_elements [] (y ∷ ys) a b h k same = absurd k
  one-list no_elements no_elements (x ∷ xs) ys a b h k same = absurd h
  one-list no_elements (element w ws) (x ∷ xs) ys a b h k same = absurd h
  one-list no_elements (element w ws) [] [] a b h k same = absurd k
  one-list no_elements (element w ws) [] (y ∷ ys) a b h k same =
      absurd (value-not-end w y (further ys ++ 93 ∷ b) a 93 (inl refl) k.0 (same ∙ append_assoc y (further ys) (93 ∷ b)))
  one-list (element v vs) ws [] ys a b h k same = absurd h
  one-list (element v vs) no_elements (x ∷ xs) (y ∷ ys) a b h k same = absurd k
  one-list (element v vs) no_elements (x ∷ xs) [] a b h k same =
      absurd (value-not-end v x (further xs ++ 93 ∷ a) b 93 (inl refl) h.0 (sym same ∙ append_assoc x (further xs) (93 ∷ a)))
  one-list (element v vs) (element w ws) (x ∷ xs) [] a b h k same = absurd k
  one-list (element v vs) (element w ws) (x ∷ xs) (y ∷ ys) a b h k same =
      let first = one-value v w x y (further xs ++ 93 ∷ a) (further ys ++ 93 ∷ b) h.0 k.0 (ends-further xs 93 a (inl refl)) (ends-further ys 93 b (inl refl))
      (sym (append_assoc x (further xs) (93 ∷ a)) ∙ (same ∙ append_assoc y (further ys) (93 ∷ b))) in
      let rest = more-list vs ws xs ys a b h.1 k.1 first.1 in
      (ap (λ (z : Json). element z vs) first.0 ∙ ap (λ (zs : Elements). element w zs) rest.0, rest.1)

  more-list : (vs ws : Elements) (xs ys : List (List ℕ)) (a b : List ℕ) → AreTextsOf vs xs → AreTextsOf ws ys →
      further xs ++ 93 ∷ a ≡ further ys ++ 93 ∷ b → (vs ≡ ws) × (a ≡ b)
  more-list no_elements no_elements [] [] a b h k same = (refl, tail-is 93 93 a b same)
  more-list no_elements no_elements [] (y ∷ ys) a b h k same = absurd k
  more-list no_elements no_elements (x ∷ xs) ys a b h k same = absurd h
  more-list no_elements (element w ws) (x ∷ xs) ys a b h k same = absurd h
  more-list no_elements (element w ws) [] [] a b h k same = absurd k
  more-list no_elements (element w ws) [] (y ∷ ys) a b h k same =
      absurd (not-comma 93 a ((y ++ further ys) ++ 93 ∷ b) (inl refl) same)
  more-list (element v vs) ws [] ys a b h k same = absurd h
  more-list (element v vs) no_elements (x ∷ xs) (y ∷ ys) a b h k same = absurd k
  more-list (element v vs) no_elements (x ∷ xs) [] a b h k same =
      absurd (not-comma 93 b ((x ++ further xs) ++ 93 ∷ a) (inl refl) (sym same))
  more-list (element v vs) (element w ws) (x ∷ xs) [] a b h k same = absurd k
  more-list (element v vs) (element w ws) (x ∷ xs) (y ∷ ys) a b h k same =
      let behind : (x ++ further xs) ++ 93 ∷ a ≡ (y ++ further ys) ++ 93 ∷ b = tail-is 44 44 _ _ same in
      let first = one-value v w x y (further xs ++ 93 ∷ a) (further ys ++ 93 ∷ b) h.0 k.0 (ends-further xs 93 a (inl refl)) (ends-further ys 93 b (inl refl))
      (sym (append_assoc x (further xs) (93 ∷ a)) ∙ (behind ∙ append_assoc y (further ys) (93 ∷ b))) in
      let rest = more-list vs ws xs ys a b h.1 k.1 first.1 in
      (ap (λ (z : Json). element z vs) first.0 ∙ ap (λ (zs : Elements). element w zs) rest.0, rest.1)

  one-object : (ms ns : Members) (xs ys : List (List ℕ)) (a b : List ℕ) → AreMembersOf ms xs → AreMembersOf ns ys →
      with_commas xs ++ 125 ∷ a ≡ with_commas ys ++ 125 ∷ b → (ms ≡ ns) × (a ≡ b)
  one-object no_members no_members [] [] a b h k same = (refl, tail-is 125 125 a b same)
  one-object no_members no_members [] (y ∷ ys) a b h k same = absurd k
  one-object no_members no_members (x ∷ xs) ys a b h k same = absurd h
  one-object no_members (member e w ns) (x ∷ xs) ys a b h k same = absurd h
  one-object no_members (member e w ns) [] [] a b h k same = absurd k
  one-object no_members (member e w ns) [] (y ∷ ys) a b h k same =
      absurd (value-not-end (string e) k.0 ((58 ∷ k.1 ++ further ys) ++ 125 ∷ b) a 125 (inr refl) k.3
      (same ∙ named-first y k.0 k.1 (further ys) (125 ∷ b) k.2))
  one-object (member d v ms) ns [] ys a b h k same = absurd h
  one-object (member d v ms) no_members (x ∷ xs) (y ∷ ys) a b h k same = absurd k
  one-object (member d v ms) no_members (x ∷ xs) [] a b h k same =
      absurd (value-not-end (string d) h.0 ((58 ∷ h.1 ++ further xs) ++ 125 ∷ a) b 125 (inr refl) h.3
      (sym same ∙ named-first x h.0 h.1 (further xs) (125 ∷ a) h.2))
  one-object (member d v ms) (member e w ns) (x ∷ xs) [] a b h k same = absurd k
  one-object (member d v ms) (member e w ns) (x ∷ xs) (y ∷ ys) a b h k same =
      let name = one-quoted d e h.0 k.0 ((58 ∷ h.1 ++ further xs) ++ 125 ∷ a) ((58 ∷ k.1 ++ further ys) ++ 125 ∷ b) h.3 k.3
      (sym (named-first x h.0 h.1 (further xs) (125 ∷ a) h.2) ∙ (same ∙ named-first y k.0 k.1 (further ys) (125 ∷ b) k.2)) in
      let first = one-value v w h.1 k.1 (further xs ++ 125 ∷ a) (further ys ++ 125 ∷ b) h.4 k.4 (ends-further xs 125 a (inr refl)) (ends-further ys 125 b (inr refl))
      (sym (append_assoc h.1 (further xs) (125 ∷ a)) ∙ (tail-is 58 58 _ _ name.1 ∙ append_assoc k.1 (further ys) (125 ∷ b))) in
      let rest = more-object ms ns xs ys a b h.5 k.5 first.1 in
      (one-member d e v w ms ns name.0 first.0 rest.0, rest.1)

  more-object : (ms ns : Members) (xs ys : List (List ℕ)) (a b : List ℕ) → AreMembersOf ms xs → AreMembersOf ns ys →
      further xs ++ 125 ∷ a ≡ further ys ++ 125 ∷ b → (ms ≡ ns) × (a ≡ b)
  more-object no_members no_members [] [] a b h k same = (refl, tail-is 125 125 a b same)
  more-object no_members no_members [] (y ∷ ys) a b h k same = absurd k
  more-object no_members no_members (x ∷ xs) ys a b h k same = absurd h
  more-object no_members (member e w ns) (x ∷ xs) ys a b h k same = absurd h
  more-object no_members (member e w ns) [] [] a b h k same = absurd k
  more-object no_members (member e w ns) [] (y ∷ ys) a b h k same =
      absurd (not-comma 125 a ((y ++ further ys) ++ 125 ∷ b) (inr refl) same)
  more-object (member d v ms) ns [] ys a b h k same = absurd h
  more-object (member d v ms) no_members (x ∷ xs) (y ∷ ys) a b h k same = absurd k
  more-object (member d v ms) no_members (x ∷ xs) [] a b h k same =
      absurd (not-comma 125 b ((x ++ further xs) ++ 125 ∷ a) (inr refl) (sym same))
  more-object (member d v ms) (member e w ns) (x ∷ xs) [] a b h k same = absurd k
  more-object (member d v ms) (member e w ns) (x ∷ xs) (y ∷ ys) a b h k same =
      let behind : (x ++ further xs) ++ 125 ∷ a ≡ (y ++ further ys) ++ 125 ∷ b = tail-is 44 44 _ _ same in
      let name = one-quoted d e h.0 k.0 ((58 ∷ h.1 ++ further xs) ++ 125 ∷ a) ((58 ∷ k.1 ++ further ys) ++ 125 ∷ b) h.3 k.3
      (sym (named-first x h.0 h.1 (further xs) (125 ∷ a) h.2) ∙ (behind ∙ named-first y k.0 k.1 (further ys) (125 ∷ b) k.2)) in
      let first = one-value v w h.1 k.1 (further xs ++ 125 ∷ a) (further ys ++ 125 ∷ b) h.4 k.4 (ends-further xs 125 a (inr refl)) (ends-further ys 125 b (inr refl))
      (sym (append_assoc h.1 (further xs) (125 ∷ a)) ∙ (tail-is 58 58 _ _ name.1 ∙ append_assoc k.1 (further ys) (125 ∷ b))) in
      let rest = more-object ms ns xs ys a b h.5 k.5 first.1 in
      (one-member d e v w ms ns name.0 first.0 rest.0, rest.1)

pub texts-have-one-value : TextsHaveOneValue
texts-have-one-value v w text h k = (one-value v w text text [] [] h k tt tt refl).0
