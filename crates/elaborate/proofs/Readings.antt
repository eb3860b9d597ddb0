-- Numbers behind spaces are read in one way.
use Rattle.std.proofs.Common.{◌≡◌, ℕ, ◌<◌, ◌^◌, List, [], ◌∷◌, ◌++◌, take, drop, refl, ap, sym, ◌∙◌, append_assoc}
use Rattle.std.proofs.lemmas.List.{take-append-drop, append-nil}
use Rattle.std.specs.Fmt.{decimal}
use Rattle.syntax.specs.Lists.{Every}
use Rattle.elaborate.specs.internal.CutAt.{Lacks, StartsWith, IsBefore}
use Rattle.syntax.specs.Texts.{Text}
use Rattle.elaborate.specs.StimulusText.{numbers_text}
use Rattle.decimal.specs.Reading.{Reads, IsNoNumber}
use Rattle.elaborate.specs.internal.LineParts.{ReadsNext, BeginsNoNumber, ReadsNumbers, IsNoNumbers}
use Rattle.elaborate.proofs.Cuts.{heads, tails, cut_once}
use Rattle.decimal.proofs.public.DigitLemmas.{decimal-digits}
use Rattle.elaborate.proofs.Numbers.{digits_without, one_number}

-- the text of a number has no space
number_without : (n : ℕ) → n < 2 ^ 64 → Lacks 32 (decimal n)
number_without n small = digits_without (decimal n) (decimal-digits n small)

-- no number stands in the empty text
pub no_next-empty : BeginsNoNumber []
no_next-empty n after h = let e : 32 ∷ (decimal n ++ after) ≡ [] = h.1 in cc

-- none where there is no space
pub no_next-mark : (m : ℕ) (rest : Text) → (m ≡ 32 → ⊥) → BeginsNoNumber (m ∷ rest)
no_next-mark m rest other n after h = other (sym (heads 32 m (decimal n ++ after) rest h.1))

-- the bytes before the next space are those of the number
same_digits : (rest : Text) (count n : ℕ) (after : Text) → IsBefore 32 rest count → n < 2 ^ 64 → StartsWith 32 after
    → decimal n ++ after ≡ rest → decimal n ≡ take count rest
same_digits rest count n after before small behind e =
    (cut_once 32 (decimal n) (take count rest) after (drop count rest) (number_without n small) before.1 behind before.2
    (e ∙ sym (take-append-drop count rest))).0

-- none where what stands before the next space is no number
pub no_next-number : (m : ℕ) (rest : Text) (count : ℕ) → IsBefore 32 rest count → IsNoNumber (take count rest)
    → BeginsNoNumber (m ∷ rest)
no_next-number m rest count before none n after h =
    none n (h.0, same_digits rest count n after before h.0 h.2 (tails 32 m (decimal n ++ after) rest h.1))

-- a space and what is before the next one
pub next_read : (m : ℕ) (rest : Text) (count n : ℕ) → m ≡ 32 → IsBefore 32 rest count → Reads (take count rest) n
    → ReadsNext (m ∷ rest) n (drop count rest)
next_read m rest count n e before r = (
  r.0,
  ap (λ t. 32 ∷ t) (ap (λ ds. ds ++ drop count rest) r.1 ∙ take-append-drop count rest) ∙ ap (λ x. x ∷ rest) (sym e),
  before.2,
)

-- the text of numbers begins with a space
pub numbers_start : (ns : List ℕ) → StartsWith 32 (numbers_text ns)
numbers_start [] = tt
numbers_start (n ∷ ns) = refl

-- one number stands at the start of a text
next_once : (m n : ℕ) (u v : Text) → m < 2 ^ 64 → n < 2 ^ 64 → StartsWith 32 u → StartsWith 32 v
    → 32 ∷ (decimal m ++ u) ≡ 32 ∷ (decimal n ++ v) → (m ≡ n) × (u ≡ v)
next_once m n u v small little h k e =
    let both : (decimal m ≡ decimal n) × (u ≡ v) =
    cut_once 32 (decimal m) (decimal n) u v (number_without m small) (number_without n little) h k
    (tails 32 32 (decimal m ++ u) (decimal n ++ v) e) in
    (one_number (decimal n) m n (small, both.0) (little, refl), both.1)

-- what is read so far, and that numbers with this text go on from it with the rest
abbrev pub Pending : Text → List ℕ → Text → Type 0
Pending text found rest =
    (numbers_text found ++ rest ≡ text) × Every (λ n. n < 2 ^ 64) found
    × ((ns : List ℕ) → ReadsNumbers text ns → (more : List ℕ) × (ns ≡ found ++ more) × ReadsNumbers rest more)

-- at the start nothing is read
pub pending_start : (text : Text) → Pending text [] text
pending_start text = (refl, tt, λ ns h. (ns, refl, h))

-- one number more
below_push : (ns : List ℕ) (n : ℕ) → Every (λ n. n < 2 ^ 64) ns → n < 2 ^ 64 → Every (λ n. n < 2 ^ 64) (ns ++ n ∷ [])
below_push [] n h k = (k, tt)
below_push (m ∷ ns) n h k = (h.0, below_push ns n h.1 k)

numbers_push : (ns : List ℕ) (n : ℕ) (rest : Text) → numbers_text (ns ++ n ∷ []) ++ rest ≡ numbers_text ns ++ (32 ∷ (decimal n ++ rest))
numbers_push [] n rest = ap (λ t. 32 ∷ (t ++ rest)) (append-nil (decimal n))
numbers_push (m ∷ ns) n rest =
    ap (λ t. 32 ∷ t)
    (append_assoc (decimal m) (numbers_text (ns ++ n ∷ [])) rest
    ∙ (ap (λ t. decimal m ++ t) (numbers_push ns n rest)
    ∙ sym (append_assoc (decimal m) (numbers_text ns) (32 ∷ (decimal n ++ rest)))))

-- the first number of what is left is the one that is read
goes_on : (found : List ℕ) (rest : Text) (n : ℕ) (after : Text) → ReadsNext rest n after → (ns : List ℕ)
    → (more : List ℕ) × (ns ≡ found ++ more) × ReadsNumbers rest more
    → (more : List ℕ) × (ns ≡ (found ++ n ∷ []) ++ more) × ReadsNumbers after more
goes_on found rest n after r ns ([], h, t) = absurd (no_next-empty n after (r.0, r.1 ∙ sym t.0, r.2))
goes_on found rest n after r ns (m ∷ more, h, t) =
    let both : (m ≡ n) × (numbers_text more ≡ after) =
    next_once m n (numbers_text more) after t.1.0 r.0 (numbers_start more) r.2 (t.0 ∙ sym r.1) in
    (more, h ∙ (ap (λ y. found ++ y ∷ more) both.0 ∙ sym (append_assoc found (n ∷ []) more)), (both.1, t.1.1))

pub pending_more : (text : Text) (found : List ℕ) (rest : Text) (n : ℕ) (after : Text)
    → Pending text found rest → ReadsNext rest n after → Pending text (found ++ n ∷ []) after
pending_more text found rest n after p r = (
  numbers_push found n after ∙ (ap (λ t. numbers_text found ++ t) r.1 ∙ p.0),
  below_push found n p.1 r.0,
  λ ns h. goes_on found rest n after r ns (p.2 ns h),
)

-- nothing is left of numbers, or another one
stuck : (rest : Text) → (rest ≡ [] → ⊥) → BeginsNoNumber rest → (ns found : List ℕ)
    → (more : List ℕ) × (ns ≡ found ++ more) × ReadsNumbers rest more → ⊥
stuck rest some none ns found ([], h, t) = some (sym t.0)
stuck rest some none ns found (m ∷ more, h, t) = none m (numbers_text more) (t.1.0, t.0, numbers_start more)

-- where no number stands at the start of a rest that is not empty the text is no numbers
pub pending_stuck : (text : Text) (found : List ℕ) (rest : Text) → Pending text found rest
    → (rest ≡ [] → ⊥) → BeginsNoNumber rest → IsNoNumbers text
pending_stuck text found rest p some none ns h = stuck rest some none ns found (p.2 ns h)

-- where nothing is left the text is that of what is read
pub pending_end : (text : Text) (found : List ℕ) (rest : Text) → Pending text found rest → rest ≡ [] → ReadsNumbers text found
pending_end text found rest p e =
    (sym (append-nil (numbers_text found)) ∙ (ap (λ t. numbers_text found ++ t) (sym e) ∙ p.0), p.1)
