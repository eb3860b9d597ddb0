-- A frame, as it is read.
use Rattle.std.proofs.Common.{◌≡◌, ℕ, suc, ◌+◌, ◌-◌, ◌^◌, ◌<◌, ◌≤◌, inl, inr, List, [], ◌∷◌, ◌++◌, length, take, get_or, cond, false, Bool, Some, None, ap, ap₂, subst, refl, sym, ◌∙◌, arith, ◌&&◌, nat_eq, codes, append_assoc, length-append}
use Rattle.std.specs.Fmt.{decimal}
use Rattle.std.specs.Str.Parse.{AllDigits}
use Rattle.std.specs.Cmp.Lexicographic.{pointwise}
use Rattle.std.proofs.lemmas.Bool.Decides.{nat_tests}
use Rattle.std.proofs.lemmas.Fmt.{decimal_nonempty, length-decimal-le, digits_decimal, decimal_injective}
use Rattle.std.proofs.lemmas.List.{take_at}
use Rattle.std.proofs.lemmas.Str.Parse.{numerals_by_value, tells_digits, digit_at}
use Rattle.dap_frames.specs.Frames.{header_end, header_of, framed}
use Rattle.dap_frames.specs.Header as model
use Rattle.dap_frames.specs.Laws.{FramesComeBack}
use Rattle.dap_frames.specs.Unframing.{Unframes, BodyAt}
use Rattle.dap_frames.specs.declared.body.Unframed.{Unframed}
use Rattle.dap_frames.specs.declared.body.TheConstants.{MOST_BODY, MOST_HEADER}

-- no byte is the first of an end of a line, or a space
abbrev pub Plain : List ℕ → Type 0
Plain [] = Unit {0}
Plain (x ∷ xs) = (nat_eq 13 x ≡ false) × (nat_eq x 13 ≡ false) × (nat_eq x 32 ≡ false) × Plain xs

differs : (a b : ℕ) → a < b → nat_eq a b ≡ false
differs a b less = grind (arith, nat_tests)

differs-above : (a b : ℕ) → b < a → nat_eq a b ≡ false
differs-above a b less = grind (arith, nat_tests)

-- bytes from 48 on are plain
plain-by : (ds : List ℕ) → ((k : ℕ) → k < length ds → 48 ≤ get_or ds k 0) → Plain ds
plain-by [] all = tt
plain-by (x ∷ ds) all =
    let first : 48 ≤ x = all 0 (omega arith) in (
      differs 13 x (omega arith),
      differs-above x 13 (omega arith),
      differs-above x 32 (omega arith),
      plain-by ds (λ k less. all (suc k) (omega arith)),
    )

-- the text of a number is plain
pub decimal-plain : (n : ℕ) → n < 2 ^ 64 → Plain (decimal n)
decimal-plain n small =
    let digits : AllDigits 10 (decimal n) = digits_decimal (numerals_by_value (AllDigits 10) tells_digits) n small in
    plain-by (decimal n) (λ k less. (digit_at (decimal n) k digits less).0)

-- no byte is the first of an end of a line
abbrev pub NoReturn : List ℕ → Type 0
NoReturn [] = Unit {0}
NoReturn (x ∷ xs) = (nat_eq 13 x ≡ false) × NoReturn xs

no-return : (ds : List ℕ) → Plain ds → NoReturn ds
no-return [] plain = tt
no-return (x ∷ ds) plain = (plain.0, no-return ds plain.3)

-- the first empty line stands behind these
header-behind : (n : ℕ) (h t : List ℕ) → NoReturn h → model.header_length_from n (h ++ (header_end ++ t)) ≡ Some (n + length h + 4)
header-behind n [] t plain = ap (λ (m : ℕ). Some m) (omega arith)
header-behind n (x ∷ h) t plain =
    let rest = h ++ (header_end ++ t) in
    ap (λ (b : Bool). cond (b && pointwise nat_eq (10 ∷ 13 ∷ 10 ∷ []) (take 3 rest)) (Some (n + 4)) (model.header_length_from (n + 1) rest)) plain.0
    ∙ header-behind (n + 1) h t plain.1 ∙ ap (λ (m : ℕ). Some m) (omega arith)

behind-plain : (ds t : List ℕ) → 0 < length ds → Plain ds → model.behind_spaces (ds ++ t) ≡ ds ++ t
behind-plain [] t some plain = absurd (omega arith)
behind-plain (x ∷ ds) t some plain = ap (λ (b : Bool). cond b (model.behind_spaces (ds ++ t)) (x ∷ (ds ++ t))) plain.2

up-plain : (ds : List ℕ) → Plain ds → model.up_to_return (ds ++ header_end) ≡ ds
up-plain [] plain = refl
up-plain (x ∷ ds) plain =
    ap (λ (b : Bool). cond b [] (x ∷ model.up_to_return (ds ++ header_end))) plain.1 ∙ ap (λ (l : List ℕ). x ∷ l) (up-plain ds plain.3)

-- the text of the number in a header
number-in : (n : ℕ) → n < 2 ^ 64 → model.number_text (32 ∷ (decimal n ++ header_end)) ≡ decimal n
number-in n small =
    ap model.up_to_return (behind-plain (decimal n) header_end (decimal_nonempty n small) (decimal-plain n small))
    ∙ up-plain (decimal n) (decimal-plain n small)

-- before the number stands no end of a line
abbrev before : ℕ → List ℕ
before n = codes "Content-Length: " ++ decimal n

before-plain : (n : ℕ) → n < 2 ^ 64 → NoReturn (before n)
before-plain n small = (
  refl,
  (refl, (refl, (refl, (refl, (refl, (refl, (refl, (refl, (refl, (refl, (refl, (refl, (refl, (refl, (refl, no-return (decimal n) (decimal-plain n small)))))))))))))))),
)

-- a header tells its number
tells-it : (n m : ℕ) → n < 2 ^ 64 → model.Tells (before n ++ header_end) m → m ≡ n
tells-it n m small h = decimal_injective m n h.0 small (h.1 ∙ number-in n small)

tells-some : (n : ℕ) → n < 2 ^ 64 → model.TellsNone (before n ++ header_end) → ⊥
tells-some n small h = h n (small, sym (number-in n small))

-- what stands behind a header that tells n, where n bytes follow
at-body : (bytes header : List ℕ) (start n : ℕ) (unframed : Unframed) → take start bytes ≡ header → ((m : ℕ) → model.Tells header m → m ≡ n) →
    (model.TellsNone header → ⊥) → n ≤ MOST_BODY → start + n ≤ length bytes → BodyAt bytes start unframed → unframed ≡ Unframed.Whole start (start + n)
at-body bytes header start n (Unframed.Whole from to) cut one some few room h =
    let told : to - from ≡ n = one (to - from) (subst (λ (l : List ℕ). model.Tells l (to - from)) cut h.1) in
    let first : from ≡ start = h.0 in
    let rises : from ≤ to = h.2 in
    let last : to ≡ start + n = omega arith in
    ap₂ Unframed.Whole first last
at-body bytes header start n Unframed.Begun cut one some few room h =
    let told : h.0 ≡ n = one h.0 (subst (λ (l : List ℕ). model.Tells l h.0) cut h.1) in
    let short : length bytes < start + h.0 = h.3 in
    absurd (omega arith)
at-body bytes header start n (Unframed.Large from m) cut one some few room h =
    let told : m ≡ n = one m (subst (λ (l : List ℕ). model.Tells l m) cut h.1) in
    let many : MOST_BODY < m = h.2 in
    absurd (omega arith)
at-body bytes header start n Unframed.Broken cut one some few room h = absurd (some (subst model.TellsNone cut h))

-- the header of a body of at most 4 MB is short
header-short : (n : ℕ) → n ≤ MOST_BODY → length (before n) + 4 ≤ MOST_HEADER
header-short n few =
    let digits : length (decimal n) ≤ 7 = length-decimal-le 7 n (omega arith) (omega arith) (omega arith) in
    let all : length (before n) ≡ 16 + length (decimal n) = omega arith in
    omega arith

-- bytes with a header that tells n, and n bytes and more behind it
reads-whole : (bytes body rest : List ℕ) (n : ℕ) (unframed : Unframed) → n ≡ length body → n ≤ MOST_BODY →
    bytes ≡ before n ++ (header_end ++ (body ++ rest)) → Unframes bytes unframed →
    unframed ≡ Unframed.Whole (length (before n) + 4) (length (before n) + 4 + n)
reads-whole bytes body rest n unframed size few is h =
    let small : n < 2 ^ 64 = omega arith in
    let start = length (before n) + 4 in
    let found : model.header_length bytes ≡ Some start =
    ap model.header_length is ∙ header-behind 0 (before n) (body ++ rest) (before-plain n small) ∙ ap (λ (m : ℕ). Some m) (omega arith) in
    let cut : take start bytes ≡ before n ++ header_end =
    ap (take start) (is ∙ sym (append_assoc (before n) header_end (body ++ rest)))
    ∙ take_at (before n ++ header_end) (body ++ rest) start (length-append (before n) header_end) in
    let room : start + n ≤ length bytes = simp (is, length-append) (omega arith) in
    let short = header-short n few in
    elim h [
      | inl none ↦ let a : model.header_length bytes ≡ None = none.0 in absurd (cc)
      | inr rest' ↦ elim rest' [
        | inl (s, at, low, body') ↦
            let same : s ≡ start = cc in
            at-body bytes (before n ++ header_end) start n unframed cut (λ m. tells-it n m small) (tells-some n small) few room
            (subst (λ (k : ℕ). BodyAt bytes k unframed) same body')
        | inr (s, at, far, broken) ↦ let same : s ≡ start = cc in absurd (omega arith)
      ]
    ]

pub comes-back : FramesComeBack
comes-back body rest unframed few h =
    let n = length body in
    let is : framed body ++ rest ≡ before n ++ (header_end ++ (body ++ rest)) = simp append_assoc in
    let size : length (header_of n) ≡ length (before n) + 4 = length-append (before n) header_end in
    rw size (reads-whole (framed body ++ rest) body rest n unframed refl few is h)
