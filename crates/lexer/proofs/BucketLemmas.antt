-- A text that begins with no first byte of a table is not in it.
use Rattle.std.proofs.Common.{◌≡◌, ◌≢◌, ℕ, ◌+◌, ◌<◌, ◌≤◌, Bool, true, false, ◌||◌, ◌&&◌, List, [], ◌∷◌, length, drop, get_or, inl, inr, refl, ap, sym, ◌∙◌, Option, Some, None}
use Rattle.std.specs.Prelude.{nat_eq, slice_index, IsSome}
use Rattle.std.specs.List.{list_all}
use Rattle.std.specs.Cmp.Lexicographic.{pointwise, same_text}
use Rattle.std.proofs.lemmas.Bool.{false≢true, and_left, cases_Bool, eq-eqb, eqb-true, false_from_ne_true, ne_eqb}
use Rattle.std.proofs.lemmas.List.{at_drop_more, drop_all}
use Rattle.syntax.specs.Texts.{Text}
use Rattle.lexer.specs.Table.{lookup, symbol, symbols}
use Rattle.lexer.specs.declared.token.Kind.{Kind}
use Rattle.lexer.proofs.SymbolLemmas.{lookup_passes}

abbrev among : List ℕ → ℕ → Bool
among [] byte = false
among (first ∷ firsts) byte = nat_eq first byte || among firsts byte

-- the byte is none of these
abbrev pub Differs : List ℕ → ℕ → Type 0
Differs [] byte = Unit {0}
Differs (first ∷ firsts) byte = (byte ≢ first) × Differs firsts byte

differs : (firsts : List ℕ) (byte : ℕ) → Differs firsts byte → among firsts byte ≡ false
differs [] byte other = refl
differs (first ∷ firsts) byte other = elim (cases_Bool (nat_eq first byte)) [
  | inl same ↦ absurd (other.0 (sym (eqb-true first byte same)))
  | inr still ↦ rw still (differs firsts byte other.1)
]

-- whether a text begins with one of these bytes
abbrev pub begins_among : List ℕ → Text → Bool
begins_among firsts text = among firsts (slice_index text 0)

pub not_found : (found : Option Kind) → ¬ IsSome found → None ≡ found
not_found None none = refl
not_found (Some kind) none = absurd (none refl)

pub not_in : (table : List (Text × Kind)) (firsts : List ℕ) (byte : ℕ) (rest : Text) → list_all (λ entry. begins_among firsts entry.0) table ≡ true → Differs firsts byte → None ≡ lookup table (byte ∷ rest)
not_in table firsts byte rest all other =
    not_found (lookup table (byte ∷ rest)) (λ found. false≢true (sym (differs firsts byte other) ∙ lookup_passes (begins_among firsts) table (byte ∷ rest) all found))

-- whether a text has so many bytes, or begins with one of these
abbrev pub is_sized_or_begins : ℕ → List ℕ → Text → Bool
is_sized_or_begins size firsts text = nat_eq (length text) size || begins_among firsts text

-- a text that is not so long and begins with none of these bytes is no symbol, where each symbol is or does
pub no_symbol : (size : ℕ) (firsts : List ℕ) (text : Text) → list_all (λ entry. is_sized_or_begins size firsts entry.0) symbols ≡ true → nat_eq (length text) size ≡ false → Differs firsts (slice_index text 0) → None ≡ symbol text
unfolding symbol
no_symbol size firsts text all other differ =
    let fails : is_sized_or_begins size firsts text ≡ false = rw (other, differs firsts (slice_index text 0) differ) refl in
    not_found (symbol text) (λ found. false≢true (sym fails ∙ lookup_passes (is_sized_or_begins size firsts) symbols text all found))

-- texts of two lengths are two
pub apart : (entry text : Text) → length entry ≢ length text → false ≡ pointwise nat_eq entry text
apart entry text other = sym (false_from_ne_true _ (λ e. other (ap length (same_text entry text (sym e)))))

-- ---- two texts, compared byte by byte

step : (entry text : Text) (place : ℕ) → place < length entry → place < length text →
    pointwise nat_eq (drop place entry) (drop place text) ≡ (nat_eq (get_or entry place 0) (get_or text place 0) && pointwise nat_eq (drop (place + 1) entry) (drop (place + 1) text))
step entry text place within also =
    at_drop_more (λ left. pointwise nat_eq left (drop place text)) entry place 0 within
    ∙ at_drop_more (λ right. pointwise nat_eq (get_or entry place 0 ∷ drop (place + 1) entry) right) text place 0 also

-- at a byte at which they differ
pub differ_at : (entry text : Text) (place : ℕ) → place < length entry → place < length text → get_or entry place 0 ≢ get_or text place 0
    → false ≡ pointwise nat_eq (drop place entry) (drop place text)
differ_at entry text place within also other = sym (step entry text place within also ∙ and_left _ _ (ne_eqb _ _ other))

-- behind a byte that they share
pub same_at : (entry text : Text) (place : ℕ) → place < length entry → place < length text → get_or entry place 0 ≡ get_or text place 0
    → pointwise nat_eq (drop (place + 1) entry) (drop (place + 1) text) ≡ pointwise nat_eq (drop place entry) (drop place text)
same_at entry text place within also same = sym (step entry text place within also ∙ ap (λ is. is && pointwise nat_eq (drop (place + 1) entry) (drop (place + 1) text)) (eq-eqb _ _ same))

-- at the end of both
pub all_told : (entry text : Text) (place : ℕ) → length entry ≤ place → length text ≤ place → true ≡ pointwise nat_eq (drop place entry) (drop place text)
all_told entry text place all also = rw (drop_all place entry all, drop_all place text also) refl
