-- What stands at the start of a text, and what a text begins with.
use Rattle.std.proofs.Common.{◌≡◌, ℕ, ◌<◌, ◌^◌, List, [], ◌∷◌, ◌++◌, length, take, drop, sym, refl, ap, ◌∙◌, append_assoc, append-nil, lit≤, arith, Bool, eqb, false}
use Rattle.std.proofs.lemmas.List.{take-append-drop}
use Rattle.std.proofs.lemmas.List.Concat.{flat_map-append}
use Rattle.std.specs.Fmt.{decimal}
use Rattle.address.specs.declared.Entry.{Entry}
use Rattle.address.specs.declared.Entry.TheVariants.{Ordered, Branch}
use Rattle.address.specs.Text.{entry_text, text_of}
use Rattle.address.specs.Reading.{EntryFits, NumbersFit, IsTextOf, HasNoText}
use Rattle.address.specs.internal.Entries.{StartsNoDigit, IsDigitsEnd, ReadsNumber, ReadsNoNumber, ReadsEntry, BeginsNoEntry}
use Rattle.address.proofs.public.Numbers.{heads, tails, digits-split, numbers-split, number-digits, not-empty}

-- no entry has the empty text
pub no-entry-empty : BeginsNoEntry []
no-entry-empty (Ordered i) after h = let e : 46 ∷ (decimal i ++ after) ≡ [] = h.1 in cc
no-entry-empty (Branch i) after h = let e : 47 ∷ (decimal i ++ after) ≡ [] = h.1 in cc

-- the digits after the first byte are those of the entry
same-digits : (i count : ℕ) (rest after : List ℕ) → i < 2 ^ 32 → IsDigitsEnd rest count → StartsNoDigit after
    → decimal i ++ after ≡ rest → decimal i ≡ take count rest
same-digits i count rest after small d n e =
    (digits-split (decimal i) (take count rest) after (drop count rest) (number-digits i small) d.1 n d.2
    (e ∙ sym (take-append-drop count rest))).0

-- there is no entry where the digits are not those of a number
pub no-entry-number : (m : ℕ) (rest : List ℕ) (count : ℕ) → IsDigitsEnd rest count → ReadsNoNumber (take count rest)
    → BeginsNoEntry (m ∷ rest)
no-entry-number m rest count d none (Ordered i) after h =
    none i (h.0, same-digits i count rest after h.0 d h.2 (tails 46 m (decimal i ++ after) rest h.1))
no-entry-number m rest count d none (Branch i) after h =
    none i (h.0, same-digits i count rest after h.0 d h.2 (tails 47 m (decimal i ++ after) rest h.1))

-- there is no entry where the first byte is neither a dot nor a slash
pub no-entry-mark : (m : ℕ) (rest : List ℕ) → (m ≡ 46 → ⊥) → (m ≡ 47 → ⊥) → BeginsNoEntry (m ∷ rest)
no-entry-mark m rest dot slash (Ordered i) after h = dot (sym (heads 46 m (decimal i ++ after) rest h.1))
no-entry-mark m rest dot slash (Branch i) after h = slash (sym (heads 47 m (decimal i ++ after) rest h.1))

-- the first byte, the number and what follows are the text
joined : (mark m : ℕ) (rest : List ℕ) (count n : ℕ) → m ≡ mark → ReadsNumber (take count rest) n
    → mark ∷ (decimal n ++ drop count rest) ≡ m ∷ rest
joined mark m rest count n e r =
    ap (λ t. mark ∷ t) (ap (λ ds. ds ++ drop count rest) r.1 ∙ take-append-drop count rest) ∙ ap (λ x. x ∷ rest) (sym e)

-- a dot and a number are an ordered entry
pub entry-ordered : (m : ℕ) (rest : List ℕ) (count n : ℕ) → m ≡ 46 → IsDigitsEnd rest count
    → ReadsNumber (take count rest) n → ReadsEntry (m ∷ rest) (Ordered n) (drop count rest)
entry-ordered m rest count n e d r = (r.0, joined 46 m rest count n e r, d.2)

-- a slash and a number are a branch
pub entry-branch : (m : ℕ) (rest : List ℕ) (count n : ℕ) → m ≡ 47 → IsDigitsEnd rest count
    → ReadsNumber (take count rest) n → ReadsEntry (m ∷ rest) (Branch n) (drop count rest)
entry-branch m rest count n e d r = (r.0, joined 47 m rest count n e r, d.2)

-- the text of an address starts with no digit
pub text-starts : (a : List Entry) → StartsNoDigit (text_of a)
text-starts [] = tt
text-starts (Ordered i ∷ a) = lit≤ tt
text-starts (Branch i ∷ a) = lit≤ tt

-- a dot is no slash
dot-not-slash : (m n : ℕ) → m ≡ 46 → n ≡ 47 → m ≡ n → ⊥
dot-not-slash m n h k e = omega (arith, h, k, e)

-- one entry stands at the start of a text
pub entry-unique : (e f : Entry) (u v : List ℕ) → EntryFits e → EntryFits f → StartsNoDigit u → StartsNoDigit v
    → entry_text e ++ u ≡ entry_text f ++ v → (e ≡ f) × (u ≡ v)
entry-unique (Ordered i) (Ordered j) u v h k m n q =
    let both : (i ≡ j) × (u ≡ v) = numbers-split i j u v h k m n (tails 46 46 (decimal i ++ u) (decimal j ++ v) q) in
    (ap Ordered both.0, both.1)
entry-unique (Branch i) (Branch j) u v h k m n q =
    let both : (i ≡ j) × (u ≡ v) = numbers-split i j u v h k m n (tails 47 47 (decimal i ++ u) (decimal j ++ v) q) in
    (ap Branch both.0, both.1)
entry-unique (Ordered i) (Branch j) u v h k m n q =
    absurd (dot-not-slash 46 47 refl refl (heads 46 47 (decimal i ++ u) (decimal j ++ v) q))
entry-unique (Branch i) (Ordered j) u v h k m n q =
    absurd (dot-not-slash 46 47 refl refl (sym (heads 47 46 (decimal i ++ u) (decimal j ++ v) q)))

-- addresses with one text are equal
pub text_of-injective : (a b : List Entry) → NumbersFit a → NumbersFit b → text_of a ≡ text_of b → a ≡ b
text_of-injective [] [] h k e = refl
text_of-injective [] (y ∷ b) h k e = absurd (no-entry-empty y (text_of b) (k.0, sym e, text-starts b))
text_of-injective (x ∷ a) [] h k e = absurd (no-entry-empty x (text_of a) (h.0, e, text-starts a))
text_of-injective (x ∷ a) (y ∷ b) h k e =
    let both : (x ≡ y) × (text_of a ≡ text_of b) =
    entry-unique x y (text_of a) (text_of b) h.0 k.0 (text-starts a) (text-starts b) e in
    ap (λ z. z ∷ a) both.0 ∙ ap (λ c. y ∷ c) (text_of-injective a b h.1 k.1 both.1)

-- what is read so far, and that an address with this text goes on from it with the rest
abbrev pub Pending : List ℕ → List Entry → List ℕ → Type 0
Pending text found rest =
    (text_of found ++ rest ≡ text) × NumbersFit found
    × ((a : List Entry) → IsTextOf a text → (b : List Entry) × (a ≡ found ++ b) × IsTextOf b rest)

-- at the start nothing is read
pub pending-start : (text : List ℕ) → Pending text [] text
pending-start text = (refl, tt, λ a h. (a, refl, h))

-- numbers of a list with one more entry
fits-push : (a : List Entry) (e : Entry) → NumbersFit a → EntryFits e → NumbersFit (a ++ e ∷ [])
fits-push [] e h k = (k, tt)
fits-push (x ∷ a) e h k = (h.0, fits-push a e h.1 k)

-- the first entry of what is left of an address is the one that is read
goes-on : (found : List Entry) (rest : List ℕ) (e : Entry) (after : List ℕ) → ReadsEntry rest e after → (a : List Entry)
    → (b : List Entry) × (a ≡ found ++ b) × IsTextOf b rest
    → (b : List Entry) × (a ≡ (found ++ e ∷ []) ++ b) × IsTextOf b after
goes-on found rest e after r a ([], h, t) = absurd (no-entry-empty e after (r.0, r.1 ∙ sym t.0, r.2))
goes-on found rest e after r a (x ∷ b, h, t) =
    let both : (x ≡ e) × (text_of b ≡ after) =
    entry-unique x e (text_of b) after t.1.0 r.0 (text-starts b) r.2 (t.0 ∙ sym r.1) in
    (b, h ∙ (ap (λ y. found ++ y ∷ b) both.0 ∙ sym (append_assoc found (e ∷ []) b)), (both.1, t.1.1))

-- one more entry is read
pub pending-more : (text : List ℕ) (found : List Entry) (rest : List ℕ) (e : Entry) (after : List ℕ)
    → Pending text found rest → ReadsEntry rest e after → Pending text (found ++ e ∷ []) after
pending-more text found rest e after p r = (
  ap (λ t. t ++ after) (flat_map-append entry_text found (e ∷ []))
      ∙ (append_assoc (text_of found) (entry_text e ++ []) after
      ∙ (ap (λ t. text_of found ++ (t ++ after)) (append-nil (entry_text e))
      ∙ (ap (λ t. text_of found ++ t) r.1 ∙ p.0))),
  fits-push found e p.1 r.0,
  λ a h. goes-on found rest e after r a (p.2 a h),
)

-- nothing is left of an address, or an entry
stuck : (rest : List ℕ) → (rest ≡ [] → ⊥) → BeginsNoEntry rest → (a found : List Entry)
    → (b : List Entry) × (a ≡ found ++ b) × IsTextOf b rest → ⊥
stuck rest some none a found ([], h, t) = some (sym t.0)
stuck rest some none a found (x ∷ b, h, t) = none x (text_of b) (t.1.0, t.0, text-starts b)

-- where no entry stands at the start of a rest that is not empty no address has the text
pub pending-stuck : (text : List ℕ) (found : List Entry) (rest : List ℕ) → Pending text found rest
    → (rest ≡ [] → ⊥) → BeginsNoEntry rest → HasNoText text
pending-stuck text found rest p some none a h = stuck rest some none a found (p.2 a h)

-- where nothing is left the text is that of what is read
pub pending-end : (text : List ℕ) (found : List Entry) (rest : List ℕ) → Pending text found rest → rest ≡ [] → IsTextOf found text
pending-end text found rest p e =
    (sym (append-nil (text_of found)) ∙ (ap (λ t. text_of found ++ t) (sym e) ∙ p.0), p.1)

-- a text that is not empty is not the empty list
pub not-nil : (text : List ℕ) (r : Bool) → r ≡ eqb (length text) 0 → r ≡ false → text ≡ [] → ⊥
not-nil text r e h n = let e0 : 0 < length text = not-empty (length text) r e h in omega (arith, e0, ap length n)
