-- A line of a trace and its fields.
use Rattle.std.proofs.Common.{◌≡◌, ◌≢◌, ℕ, ◌<◌, ◌≤◌, ◌^◌, Bool, true, false, cond, eqb, List, [], ◌∷◌, ◌++◌, codes, length, refl, sym, ap, ◌∙◌, subst, arith, lit≤, append_assoc}
use Rattle.std.specs.Fmt.{decimal}
use Rattle.std.proofs.lemmas.Fmt.{decimal_injective}
use Rattle.std.specs.Char.{digit_value}
use Rattle.std.specs.Str.Parse.{AllDigits}
use Rattle.std.specs.Option.{SomeIff}
use Rattle.std.specs.Prelude.{Option, Some, None, MatchOption}
use Rattle.std.proofs.lemmas.Bool.{false≢true, eqb-false}
use Rattle.std.proofs.lemmas.List.Elements.{All-nil, All-cons, All-head, All-tail, All-append}
use Rattle.address.specs.declared.Entry.{Entry}
use Rattle.address.specs.declared.Entry.TheVariants.{Ordered, Branch}
use Rattle.address.specs.Text.{text_of}
use Rattle.address.specs.Reading.{NumbersFit, IsTextOf, HasNoText}
use Rattle.address.proofs.public.Numbers.{heads, tails}
use Rattle.address.proofs.public.Finds.{text_of-injective}
use Rattle.decimal.specs.Reading.{Reads, IsNoNumber}
use Rattle.decimal.proofs.public.DigitLemmas.{decimal-digits}
use Rattle.runs.specs.declared.event.Choice.{Choice}
use Rattle.trace_file.specs.Loading.{IsStep, IsNoStep}
use Rattle.trace_file.specs.internal.Fields.{HasNone, IsCut, AreFields, HasNoFields, HasNoWord, IsArm, IsNoArm}

-- equal texts with one beginning have equal ends
pub same-behind : (front xs ys : List ℕ) → front ++ xs ≡ front ++ ys → xs ≡ ys
same-behind [] xs ys e = e
same-behind (x ∷ front) xs ys e = same-behind front xs ys (tails x x (front ++ xs) (front ++ ys) e)

-- a text is cut at its first byte of a value in one way
pub cut-same : (b : ℕ) (xs ys u v : List ℕ) → HasNone b xs → HasNone b ys → xs ++ b ∷ u ≡ ys ++ b ∷ v → (xs ≡ ys) × (u ≡ v)
cut-same b [] [] u v h k e = (refl, tails b b u v e)
cut-same b [] (y ∷ ys) u v h k e = absurd (All-head (λ x. x ≢ b) y ys k (sym (heads b y u (ys ++ b ∷ v) e)))
cut-same b (x ∷ xs) [] u v h k e = absurd (All-head (λ x. x ≢ b) x xs h (heads x b (xs ++ b ∷ u) v e))
cut-same b (x ∷ xs) (y ∷ ys) u v h k e =
    let rest : (xs ≡ ys) × (u ≡ v) =
    cut-same b xs ys u v (All-tail (λ x. x ≢ b) x xs h) (All-tail (λ x. x ≢ b) y ys k) (tails x y (xs ++ b ∷ u) (ys ++ b ∷ v) e) in
    (ap (λ c. c ∷ xs) (heads x y (xs ++ b ∷ u) (ys ++ b ∷ v) e) ∙ ap (λ zs. y ∷ zs) rest.0, rest.1)

-- a text with a byte of a value does not have none
pub has-one : (b : ℕ) (xs ys : List ℕ) → HasNone b (xs ++ b ∷ ys) → ⊥
has-one b [] ys h = All-head (λ x. x ≢ b) b ys h refl
has-one b (x ∷ xs) ys h = has-one b xs ys (All-tail (λ x. x ≢ b) x (xs ++ b ∷ ys) h)

-- the fields of a text are one
pub fields-same : (text p a r q b s : List ℕ) → AreFields text p a r → AreFields text q b s → (p ≡ q) × (a ≡ b) × (r ≡ s)
fields-same text p a r q b s one other =
    let behind = same-behind (codes "step ") (p ++ 32 ∷ (a ++ 10 ∷ r)) (q ++ 32 ∷ (b ++ 10 ∷ s)) (sym one.joined ∙ other.joined) in
    let first = cut-same 32 p q (a ++ 10 ∷ r) (b ++ 10 ∷ s) one.no_space other.no_space behind in
    let second = cut-same 10 a b r s one.no_end other.no_end first.1 in
    (first.0, second.0, second.1)

-- a digit is no byte of a value that no digit has
digit-other : (b c : ℕ) → 10 ≤ digit_value b → digit_value c < 10 → c ≡ b → ⊥
digit-other b c high low e =
    let here : digit_value b < 10 = subst (λ d. digit_value d < 10) e low in
    omega (arith, high, here)

-- digits have no such byte
digits-other : (b : ℕ) (ds : List ℕ) → 10 ≤ digit_value b → AllDigits 10 ds → HasNone b ds
digits-other b [] high h = All-nil (λ x. x ≢ b)
digits-other b (c ∷ cs) high h = All-cons (λ x. x ≢ b) c cs (digit-other b c high h.0) (digits-other b cs high h.1)

-- nor has the text of a number
pub decimal-other : (b n : ℕ) → 10 ≤ digit_value b → n < 2 ^ 64 → HasNone b (decimal n)
decimal-other b n high small = digits-other b (decimal n) high (decimal-digits n small)

-- the text of a place has no space
pub place-no-space : (a : List Entry) → NumbersFit a → HasNone 32 (text_of a)
place-no-space [] h = All-nil (λ x. x ≢ 32)
place-no-space (Ordered i ∷ a) h =
    All-append (λ x. x ≢ 32) (46 ∷ decimal i) (text_of a)
    (All-cons (λ x. x ≢ 32) 46 (decimal i) (λ e. omega (arith, e)) (decimal-other 32 i (lit≤ tt) (omega (arith, h.0))))
    (place-no-space a h.1)
place-no-space (Branch i ∷ a) h =
    All-append (λ x. x ≢ 32) (47 ∷ decimal i) (text_of a)
    (All-cons (λ x. x ≢ 32) 47 (decimal i) (λ e. omega (arith, e)) (decimal-other 32 i (lit≤ tt) (omega (arith, h.0))))
    (place-no-space a h.1)

-- the line of a choice, and what is behind it, by their bytes
line-joined : (place arm after : List ℕ)
    → (codes "step " ++ (place ++ 32 ∷ (arm ++ 10 ∷ []))) ++ after ≡ codes "step " ++ (place ++ 32 ∷ (arm ++ 10 ∷ after))
line-joined place arm after =
    append_assoc (codes "step ") (place ++ 32 ∷ (arm ++ 10 ∷ [])) after
    ∙ ap (λ t. codes "step " ++ t)
    (append_assoc place (32 ∷ (arm ++ 10 ∷ [])) after ∙ ap (λ t. place ++ 32 ∷ t) (append_assoc arm (10 ∷ []) after))

-- the fields of a choice
pub step-fields : (c : Choice) (text after : List ℕ) → IsStep c text after → AreFields text (text_of c.place) (decimal c.arm) after
step-fields c text after h = record {
  joined = h.0 ∙ line-joined (text_of c.place) (decimal c.arm) after;
  no_space = place-no-space c.place h.1.1;
  no_end = decimal-other 10 c.arm (lit≤ tt) (omega (arith, h.1.2));
}

-- a place with an empty text is the root
empty-text : (a : List Entry) → text_of a ≡ [] → a ≡ []
empty-text [] e = refl
empty-text (Ordered i ∷ a) e = cc
empty-text (Branch i ∷ a) e = cc

-- a choice has its parts
same-choice : (c d : Choice) → c.place ≡ d.place → c.arm ≡ d.arm → c ≡ d
same-choice c d p q = λ i. record { place = p i; arm = q i }

-- a text begins with the line of one choice
pub step-same : (c d : Choice) (text r s : List ℕ) → IsStep c text r → IsStep d text s → (c ≡ d) × (r ≡ s)
step-same c d text r s one other =
    let same = fields-same text (text_of c.place) (decimal c.arm) r (text_of d.place) (decimal d.arm) s
    (step-fields c text r one) (step-fields d text s other) in (
      same-choice c d (text_of-injective c.place d.place one.1.1 other.1.1 same.0)
          (decimal_injective c.arm d.arm (omega (arith, one.1.2)) (omega (arith, other.1.2)) same.1),
      same.2,
    )

-- there is no step where there are no fields
pub no-step-fields : (text : List ℕ) → HasNoFields text → IsNoStep text
no-step-fields text none c after h = none (text_of c.place) (decimal c.arm) after (step-fields c text after h)

-- there is none where the second field is no arm
pub no-step-arm : (text p a r : List ℕ) → AreFields text p a r → IsNoArm a → IsNoStep text
no-step-arm text p a r f none c after h =
    none c.arm (sym (fields-same text p a r (text_of c.place) (decimal c.arm) after f (step-fields c text after h)).1, h.1.2)

-- there is none where the first field is empty
pub no-step-root : (text p a r : List ℕ) → AreFields text p a r → p ≡ [] → IsNoStep text
no-step-root text p a r f empty c after h =
    h.1.0 (empty-text c.place (sym (fields-same text p a r (text_of c.place) (decimal c.arm) after f (step-fields c text after h)).0 ∙ empty))

-- there is none where the first field is no place
pub no-step-place : (text p a r : List ℕ) → AreFields text p a r → HasNoText p → IsNoStep text
no-step-place text p a r f none c after h =
    none c.place (sym (fields-same text p a r (text_of c.place) (decimal c.arm) after f (step-fields c text after h)).0, h.1.1)

-- a place and an arm are a step
pub a-step : (text p a r : List ℕ) (place : List Entry) (arm : ℕ) → AreFields text p a r → (p ≡ [] → ⊥) → IsTextOf place p → IsArm arm a
    → IsStep (record { place = place; arm = arm }) text r
a-step text p a r place arm f some is number = (
  f.joined
      ∙ (ap (λ t. codes "step " ++ (t ++ 32 ∷ (a ++ 10 ∷ r))) (sym is.0)
      ∙ (ap (λ t. codes "step " ++ (text_of place ++ 32 ∷ (t ++ 10 ∷ r))) (sym number.0)
      ∙ sym (line-joined (text_of place) (decimal arm) r))),
  (λ root. some (sym is.0 ∙ ap text_of root), is.1, number.1),
)

-- a text without bytes is empty
pub nil-by-length : (text : List ℕ) → length text ≡ 0 → text ≡ []
nil-by-length [] e = refl
nil-by-length (x ∷ xs) e = absurd (omega (arith, e))

-- a text that is not of length 0 is not empty
pub not-nil : (text : List ℕ) (r : Bool) → r ≡ eqb (length text) 0 → r ≡ false → text ≡ [] → ⊥
not-nil text r e h n = false≢true (sym h ∙ (e ∙ ap (λ t. eqb (length t) 0) n))

-- no number of 32 bits stands where there is no number
pub no-arm-number : (text : List ℕ) → IsNoNumber text → IsNoArm text
no-arm-number text none arm h = none arm (omega (arith, h.1), h.0)

-- the arm whose number is read, where it has 32 bits
pub arm-read : (text : List ℕ) (n : ℕ) (r : Option ℕ) → Reads text n → SomeIff r (n < 2 ^ 32) n → MatchOption r (IsNoArm text) (λ arm. IsArm arm text)
arm-read text n None read h = λ arm k.
    let same : arm ≡ n = decimal_injective arm n (omega (arith, k.1)) read.0 (k.0 ∙ sym read.1) in
    h (subst (λ m. m < 2 ^ 32) same k.1)
arm-read text n (Some arm) read h = (ap decimal h.1 ∙ read.1, subst (λ m. m < 2 ^ 32) (sym h.1) h.0)

-- whether a text has no byte of a value
abbrev pub is_clear : ℕ → List ℕ → Bool
is_clear b [] = true
is_clear b (x ∷ xs) = cond (eqb x b) false (is_clear b xs)

-- one byte of it
clear-step : (b x : ℕ) (r rest : Bool) → r ≡ eqb x b → cond r false rest ≡ true → (x ≡ b → ⊥) × (rest ≡ true)
clear-step b x true rest p e = absurd (false≢true e)
clear-step b x false rest p e = (eqb-false x b (sym p), e)

-- a text that passes has none
pub clear-by-test : (b : ℕ) (text : List ℕ) → is_clear b text ≡ true → HasNone b text
clear-by-test b [] h = All-nil (λ x. x ≢ b)
clear-by-test b (x ∷ xs) h =
    let parts : (x ≡ b → ⊥) × (is_clear b xs ≡ true) = clear-step b x (eqb x b) (is_clear b xs) refl h in
    All-cons (λ y. y ≢ b) x xs parts.0 (clear-by-test b xs parts.1)

-- there are no fields where there is no word
pub no-fields-word : (text : List ℕ) → HasNoWord text → HasNoFields text
no-fields-word text none p a r f = none (p ++ 32 ∷ (a ++ 10 ∷ r)) f.joined

-- there are none where there is no space behind the word
pub no-fields-space : (text behind : List ℕ) → text ≡ codes "step " ++ behind → HasNone 32 behind → HasNoFields text
no-fields-space text behind is clear p a r f =
    has-one 32 p (a ++ 10 ∷ r)
    (subst (λ t. HasNone 32 t) (same-behind (codes "step ") behind (p ++ 32 ∷ (a ++ 10 ∷ r)) (sym is ∙ f.joined)) clear)

-- there are none where there is no end behind the space
pub no-fields-end : (text behind place arm : List ℕ) → text ≡ codes "step " ++ behind → IsCut 32 behind place arm → HasNone 10 arm → HasNoFields text
no-fields-end text behind place arm is cut clear p a r f =
    let same = cut-same 32 place p arm (a ++ 10 ∷ r) cut.1 f.no_space
    (sym cut.0 ∙ same-behind (codes "step ") behind (p ++ 32 ∷ (a ++ 10 ∷ r)) (sym is ∙ f.joined)) in
    has-one 10 a r (subst (λ t. HasNone 10 t) same.1 clear)

-- the fields
pub the-fields : (text behind place rest arm after : List ℕ) → text ≡ codes "step " ++ behind → IsCut 32 behind place rest → IsCut 10 rest arm after
    → AreFields text place arm after
the-fields text behind place rest arm after is one other = record {
  joined = is ∙ ap (λ t. codes "step " ++ t) (one.0 ∙ ap (λ t. place ++ 32 ∷ t) other.0);
  no_space = one.1;
  no_end = other.1;
}
