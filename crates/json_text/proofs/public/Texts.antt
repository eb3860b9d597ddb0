-- What is written is JSON: strings, numbers, and lists and objects of them.
use Rattle.std.proofs.Common.{◌≡◌, ◌∙◌, ◌⊎◌, inl, inr, ℕ, zero, suc, ◌+◌, ◌-◌, ◌/◌, ◌%◌, ◌^◌, ◌<◌, ◌≤◌, ◌==◌, nat_lt, List, [], ◌∷◌, ◌++◌, length, get_or, drop, Bool, true, false, cond, Option, None, Some, refl, sym, ap, subst, arith, lit<, length-drop}
use Rattle.std.specs.List.{All}
use Rattle.std.specs.Char.{IsScalar, digit_value}
use Rattle.std.specs.Fmt.{decimal, digit_glyph, digits, digits_onto}
use Rattle.std.specs.Str.Parse.{AllDigits, IsNumeral}
use Rattle.std.proofs.lemmas.Bool.Decides.{nat_tests}
use Rattle.std.proofs.lemmas.Fmt.{decimal_digit, first_decimal}
use Rattle.std.proofs.lemmas.List.Elements.{All-nil}
use Rattle.bstr.specs.Utf8.{decoded, lossy_chars, or_replacement}
use Rattle.bstr.proofs.lemmas.PieceLemmas.{lossy_chars-nil, lossy_chars-step, piece-bounds}
use Rattle.bstr.proofs.lemmas.SoundLemmas.{SpellsChar-decoded}
use Rattle.json_text.specs.Json.{AreMembersOf, AreTextsOf, BytesReadBack, Elements, IsInteger, IsJson, IsNumber, IsStringOf, IsTextOf, Json, Members, NumbersAreIntegers, element, list, member, no_elements, no_members, number, object, string}
use Rattle.json_text.specs.Reading.{IsCharacter, IsWhole}
use Rattle.json_text.specs.Values.{list_text, member_text, object_text, optional_text, string_text}
use Rattle.json_text.proofs.ReadBack.{strings-read-back}

-- ---- strings

whole-at : (low middle : Bool) (c : ℕ) → nat_lt c 55296 ≡ low → nat_lt c 57344 ≡ middle → IsScalar c → IsWhole c
whole-at true middle c is also h = inl (grind (arith, nat_tests))
whole-at false false c is also h = inr (grind (arith, nat_tests))
whole-at false true c is also h = grind (arith, nat_tests)

character-of : (c : ℕ) → IsScalar c → IsCharacter c
character-of c h = (whole-at (nat_lt c 55296) (nat_lt c 57344) c refl refl h, grind (arith, nat_tests))

or-character : (bs : List ℕ) (o : Option ℕ) → (decoded bs).char ≡ o → IsCharacter (or_replacement o)
or-character bs None is = (inr (lit< tt), lit< tt)
or-character bs (Some c) is = character-of c (SpellsChar-decoded bs c is).scalar

all-cons : (c : ℕ) (cs : List ℕ) → IsCharacter c → All IsCharacter cs → All IsCharacter (c ∷ cs)
all-cons c cs p all zero d h = p
all-cons c cs p all (suc k) d h = let less : k < length cs = omega arith in all k d less

characters : (fuel : ℕ) (bs : List ℕ) → length bs ≤ fuel → All IsCharacter (lossy_chars bs)
characters fuel [] le = subst (All IsCharacter) (sym lossy_chars-nil) (All-nil IsCharacter)
characters zero (b ∷ bs) le = absurd (omega arith)
characters (suc fuel) (b ∷ bs) le =
    let all = b ∷ bs in
    let some : 0 < length all = omega arith in
    let rest = drop (decoded all).size all in
    let shorter : length rest ≤ fuel = omega (arith, (piece-bounds all some).0, length-drop (decoded all).size all) in
    subst (All IsCharacter) (sym (lossy_chars-step all some))
    (all-cons (or_replacement (decoded all).char) (lossy_chars rest) (or-character all (decoded all).char refl) (characters fuel rest shorter))

string-of : (bytes : List ℕ) → IsStringOf (lossy_chars bytes) (string_text bytes)
string-of bytes = strings-read-back (lossy_chars bytes) (characters (length bytes) bytes (omega arith))

pub bytes-read-back : BytesReadBack
bytes-read-back = string-of

pub string-json : (bytes : List ℕ) → IsJson (string_text bytes)
string-json bytes = (string (lossy_chars bytes), string-of bytes)

-- ---- numbers

small-digit : (c : ℕ) → 48 ≤ c → c < 58 → digit_value c < 10
small-digit c low high = grind (arith, nat_tests)

glyph-by : (low : Bool) (d : ℕ) → d < 10 → nat_lt d 10 ≡ low → digit_value (cond low (48 + d) (cond false (55 + d) (87 + d))) < 10
glyph-by true d h is = small-digit (48 + d) (omega arith) (omega arith)
glyph-by false d h is = absurd (grind (arith, nat_tests))

glyph-small : (n : ℕ) → digit_value (digit_glyph false (n % 10)) < 10
glyph-small n = let less : n % 10 < 10 = omega arith in glyph-by (nat_lt (n % 10) 10) (n % 10) less refl

pick : (b : Bool) (xs ys : List ℕ) → IsNumeral 10 xs → IsNumeral 10 ys → IsNumeral 10 (cond b xs ys)
pick true xs ys h k = h
pick false xs ys h k = k

one-more : (n : ℕ) (acc : List ℕ) → AllDigits 10 acc → IsNumeral 10 (digit_glyph false (n % 10) ∷ acc)
one-more n acc h = (omega arith, (glyph-small n, h))

more-digits : (k n : ℕ) (acc : List ℕ) → IsNumeral 10 acc → IsNumeral 10 (digits_onto k 10 false n acc)
more-digits zero n acc h = h
more-digits (suc k) n acc h =
    let more = one-more n acc h.1 in
    pick (n / 10 == 0) (digit_glyph false (n % 10) ∷ acc) (digits_onto k 10 false (n / 10) (digit_glyph false (n % 10) ∷ acc)) more
    (more-digits k (n / 10) (digit_glyph false (n % 10) ∷ acc) more)

some-digits : (k n : ℕ) → IsNumeral 10 (digits_onto (suc k) 10 false n [])
some-digits k n =
    let more = one-more n [] tt in
    pick (n / 10 == 0) (digit_glyph false (n % 10) ∷ []) (digits_onto k 10 false (n / 10) (digit_glyph false (n % 10) ∷ [])) more
    (more-digits k (n / 10) (digit_glyph false (n % 10) ∷ []) more)

numeral : (n : ℕ) → IsNumeral 10 (decimal n)
unfolding digits
numeral n = some-digits 63 n

-- the first digit is no zero, or there are this many
abbrev Leads : ℕ → List ℕ → Type 0
Leads m ds = (48 < get_or ds 0 0) ⊎ (length ds ≡ m)

first-by : (low : Bool) (d : ℕ) → 0 < d → d < 10 → nat_lt d 10 ≡ low → 48 < cond low (48 + d) (cond false (55 + d) (87 + d))
first-by true d some h is = omega arith
first-by false d some h is = absurd (grind (arith, nat_tests))

as-many : (m k : ℕ) (ds : List ℕ) → m ≡ k → Leads m ds → Leads k ds
as-many m k ds is (inl first) = inl first
as-many m k ds is (inr many) = inr (many ∙ is)

leads-by : (last : Bool) (m n : ℕ) (acc more : List ℕ) → 0 < n → (n / 10 == 0) ≡ last → (0 < n / 10 → Leads m more) →
    Leads m (cond last (digit_glyph false (n % 10) ∷ acc) more)
leads-by true m n acc more some is further =
    let small : n / 10 ≡ 0 = grind (arith, nat_tests) in
    let digit : 0 < n % 10 = omega arith in
    let below : n % 10 < 10 = omega arith in
    inl (first-by (nat_lt (n % 10) 10) (n % 10) digit below refl)
leads-by false m n acc more some is further =
    let large : 0 < n / 10 = grind (arith, nat_tests) in further large

leads : (k n : ℕ) (acc : List ℕ) → 0 < n → Leads (k + length acc) (digits_onto k 10 false n acc)
leads zero n acc some = let none : length acc ≡ 0 + length acc = omega arith in inr none
leads (suc k) n acc some =
    let front : List ℕ = digit_glyph false (n % 10) ∷ acc in
    let more : List ℕ = digits_onto k 10 false (n / 10) front in
    let count : k + length front ≡ suc k + length acc = omega arith in
    leads-by (n / 10 == 0) (suc k + length acc) n acc more some refl
    (λ large. as-many (k + length front) (suc k + length acc) more count (leads k (n / 10) front large))

decimal-leads : (n : ℕ) → 0 < n → Leads 64 (decimal n)
unfolding digits
decimal-leads n some = leads 64 n [] some

no-zero : (ds : List ℕ) → IsNumeral 10 ds → 48 < get_or ds 0 0 → IsInteger ds
no-zero ds h first = (h, λ is. absurd (omega arith))

zero-alone : IsInteger (decimal 0)
zero-alone = let one : 0 < 10 = lit< tt in (numeral 0, λ is. ap length (decimal_digit 0 one))

by-lead : (ds : List ℕ) → IsNumeral 10 ds → Leads 64 ds → IsNumber ds
by-lead ds h (inl first) = inl (no-zero ds h first)
by-lead ds h (inr many) = inr (inr (h, many))

pub number-of : (n : ℕ) → IsNumber (decimal n)
number-of zero = inl zero-alone
number-of (suc n) =
    let some : 0 < suc n = omega arith in by-lead (decimal (suc n)) (numeral (suc n)) (decimal-leads (suc n) some)

pub numbers-are-integers : NumbersAreIntegers
numbers-are-integers zero h = zero-alone
numbers-are-integers (suc n) h =
    let some : 0 < suc n = omega arith in no-zero (decimal (suc n)) (numeral (suc n)) (first_decimal (suc n) some h)

pub number-json : (n : ℕ) → IsJson (decimal n)
number-json n = (number (decimal n), (refl, number-of n))

pub minus-one : IsNumber (45 ∷ 49 ∷ [])
minus-one = inr (inl (49 ∷ [], refl, ((omega arith, (small-digit 49 (omega arith) (omega arith), tt)), λ is. refl)))

pub optional-json : (o : Option ℕ) → IsJson (optional_text o)
optional-json None = (number (45 ∷ 49 ∷ []), (refl, minus-one))
optional-json (Some n) = number-json n

-- ---- lists and objects

abbrev pub AreJson : List (List ℕ) → Type 0
AreJson [] = Unit {0}
AreJson (x ∷ xs) = IsJson x × AreJson xs

elements-of : (xs : List (List ℕ)) → AreJson xs → (vs : Elements) × AreTextsOf vs xs
elements-of [] h = (no_elements, tt)
elements-of (x ∷ xs) h = let rest = elements-of xs h.1 in (element h.0.0 rest.0, (h.0.1, rest.1))

pub list-json : (xs : List (List ℕ)) → AreJson xs → IsJson (list_text xs)
list-json xs h = let vs = elements-of xs h in (list vs.0, (xs, refl, vs.1))

pub join-json : (xs ys : List (List ℕ)) → AreJson xs → AreJson ys → AreJson (xs ++ ys)
join-json [] ys h k = k
join-json (x ∷ xs) ys h k = (h.0, join-json xs ys h.1 k)

-- members with values that are JSON
abbrev pub IsMember : List ℕ → Type 0
IsMember m = (name : List ℕ) × (value : List ℕ) × (m ≡ member_text name value) × IsJson value

abbrev pub AreMembers : List (List ℕ) → Type 0
AreMembers [] = Unit {0}
AreMembers (x ∷ xs) = IsMember x × AreMembers xs

pub join-members : (xs ys : List (List ℕ)) → AreMembers xs → AreMembers ys → AreMembers (xs ++ ys)
join-members [] ys h k = k
join-members (x ∷ xs) ys h k = (h.0, join-members xs ys h.1 k)

members-of : (xs : List (List ℕ)) → AreMembers xs → (ms : Members) × AreMembersOf ms xs
members-of [] h = (no_members, tt)
members-of (x ∷ xs) h =
    let rest = members-of xs h.1 in
    let name = h.0.0 in
    let value = h.0.1 in
    (member (lossy_chars name) h.0.3.0 rest.0, (string_text name, value, h.0.2, string-of name, h.0.3.1, rest.1))

pub object-json : (xs : List (List ℕ)) → AreMembers xs → IsJson (object_text xs)
object-json xs h = let ms = members-of xs h in (object ms.0, (xs, refl, ms.1))
