-- A symbol has one byte or two, and its front shows that it is one.
use Rattle.std.proofs.Common.{◌≡◌, ℕ, ◌+◌, ◌≤◌, Bool, true, false, ◌&&◌, List, [], ◌∷◌, ◌++◌, length, take, inl, inr, refl, sym, ◌∙◌, ap, subst, append_assoc, length-append, arith}
use Rattle.std.specs.Prelude.{nat_eq, nat_le, is_some, IsSome}
use Rattle.std.specs.List.{list_all}
use Rattle.std.specs.Cmp.Lexicographic.{pointwise, same_text}
use Rattle.std.proofs.lemmas.Bool.{false≢true, both_ways, and_from, and_parts, cases_Bool, cases_eq, cases_lt, leb-true, le-leb}
use Rattle.std.proofs.lemmas.List.{take_at, take-append-drop, length-take-le, nil_from_length}
use Rattle.syntax.specs.Texts.{Text}
use Rattle.lexer.specs.Spelling.{Spells, NothingSpelled}
use Rattle.lexer.specs.internal.Fronts.{class_at, NoSymbolBeyond, IsFront}
use Rattle.lexer.specs.Table.{lookup, symbol, symbols}
use Rattle.lexer.specs.declared.class.Class.{Class}
use Rattle.lexer.specs.declared.class.Class.TheVariants.{Blank, LineComment, NestedComment, OpenComment, Word, Number, Symbol}
use Rattle.lexer.specs.declared.token.Kind.{Kind}
use Rattle.lexer.proofs.PieceLemmas.{class_shown}

-- a test that the texts of a table pass is passed by each text that is found there
pub lookup_passes : (test : Text → Bool) (table : List (Text × Kind)) (text : Text) → list_all (λ entry. test entry.0) table ≡ true → IsSome (lookup table text) → test text ≡ true
lookup_passes test [] text all found = absurd (false≢true found)
lookup_passes test (entry ∷ entries) text all found = elim (cases_Bool (pointwise nat_eq entry.0 text)) [
  | inl same ↦ subst (λ t. test t ≡ true) (same_text entry.0 text (sym same)) (and_parts _ _ all).0
  | inr other ↦ lookup_passes test entries text (and_parts _ _ all).1 (rw other at found)
]

abbrev is_symbol : Class → Bool
is_symbol Symbol = true
is_symbol Blank = false
is_symbol LineComment = false
is_symbol NestedComment = false
is_symbol OpenComment = false
is_symbol Word = false
is_symbol Number = false

is_symbol-true : (class : Class) → is_symbol class ≡ true → class ≡ Symbol
is_symbol-true Symbol e = refl
is_symbol-true Blank e = absurd (false≢true e)
is_symbol-true LineComment e = absurd (false≢true e)
is_symbol-true NestedComment e = absurd (false≢true e)
is_symbol-true OpenComment e = absurd (false≢true e)
is_symbol-true Word e = absurd (false≢true e)
is_symbol-true Number e = absurd (false≢true e)

abbrev looks_like_symbol : Text → Bool
looks_like_symbol text = is_symbol (class_at text) && (nat_le 1 (length text) && nat_le (length text) 2)

-- what the table has of symbols
pub record SymbolFacts (text : Text) : Type 0 where
  pub class : class_at text ≡ Symbol
  pub some : 1 ≤ length text
  pub few : length text ≤ 2

pub symbol_facts : (text : Text) → IsSome (symbol text) → SymbolFacts text
unfolding symbol
symbol_facts text found =
    let all = lookup_passes looks_like_symbol symbols text refl found in
    let sizes = and_parts _ _ (and_parts _ _ all).1 in
    record { class = is_symbol-true _ (and_parts _ _ all).0; some = leb-true _ _ sizes.0; few = leb-true _ _ sizes.1 }

-- at the front of what shows a symbol nothing else is spelled
only_symbol : (class : Class) (text beyond : Text) → class_at (text ++ beyond) ≡ Symbol → Spells class text → IsSome (symbol text)
only_symbol Symbol text beyond shown s = s
only_symbol Blank text beyond shown s = let other = class_shown Blank text beyond (λ e. cc) s in absurd (cc)
only_symbol LineComment text beyond shown s = let other = class_shown LineComment text beyond (λ e. cc) s in absurd (cc)
only_symbol NestedComment text beyond shown s = let other = class_shown NestedComment text beyond (λ e. cc) s in absurd (cc)
only_symbol OpenComment text beyond shown s = let other = class_shown OpenComment text beyond (λ e. cc) s in absurd (cc)
only_symbol Word text beyond shown s = let other = class_shown Word text beyond (λ e. cc) s in absurd (cc)
only_symbol Number text beyond shown s = let other = class_shown Number text beyond (λ e. cc) s in absurd (cc)

-- what is spelled there is no longer than the longest symbol
spelled_short : (class : Class) (rest text beyond : Text) (n : ℕ) → rest ≡ text ++ beyond → class_at rest ≡ Symbol → NoSymbolBeyond n rest → Spells class text → length text ≤ n
spelled_short class rest text beyond n split shown none s = elim (cases_lt n (length text)) [
  | inl longer ↦
      let found = only_symbol class text beyond (rw (← split) shown) s in
      let same : take (length text) rest ≡ text = rw split (take_at text beyond (length text) refl) in
      let fits : length text ≤ length rest = omega (arith, ap length split, length-append text beyond) in
      absurd (none (length text) longer fits (rw same found))
  | inr within ↦ within
]

pub symbol_front : (rest : Text) (n : ℕ) → class_at rest ≡ Symbol → n ≤ length rest → IsSome (symbol (take n rest)) → NoSymbolBeyond n rest → IsFront Symbol n rest
symbol_front rest n shown within found none = (
  within,
  record {
    spelled = found;
    longest = λ more beyond split some class s.
        let whole : rest ≡ (take n rest ++ more) ++ beyond = sym (take-append-drop n rest) ∙ ap (λ t. take n rest ++ t) split ∙ sym (append_assoc (take n rest) more beyond) in
        let short = spelled_short class rest (take n rest ++ more) beyond n whole shown none s in
        some (nil_from_length more (omega (arith, short, length-append (take n rest) more, length-take-le n rest within)));
  },
)

pub nothing_spelled : (rest : Text) → class_at rest ≡ Symbol → NoSymbolBeyond 0 rest → NothingSpelled rest
nothing_spelled rest shown none class text after split s =
    let short = spelled_short class rest text after 0 split shown none s in
    let found = only_symbol class text after (rw (← split) shown) s in
    absurd (omega (arith, short, (symbol_facts text found).some))

-- a front that is there and is a symbol
pub symbol_there : (rest : Text) (n : ℕ) → (nat_le n (length rest) && is_some (symbol (take n rest))) ≡ true → (n ≤ length rest) × IsSome (symbol (take n rest))
symbol_there rest n e = let parts = and_parts (nat_le n (length rest)) (is_some (symbol (take n rest))) e in (leb-true n (length rest) parts.0, parts.1)

-- no symbol is longer than two bytes
pub none_beyond_two : (rest : Text) → NoSymbolBeyond 2 rest
none_beyond_two rest m more within found =
    let few = (symbol_facts (take m rest) found).few in omega (arith, few, length-take-le m rest within)

-- where none is longer than `n` bytes and none has just so many
pub none_beyond_less : (rest : Text) (n : ℕ) → (nat_le (n + 1) (length rest) && is_some (symbol (take (n + 1) rest))) ≡ false → NoSymbolBeyond (n + 1) rest → NoSymbolBeyond n rest
none_beyond_less rest n missing none m more within found = elim (cases_eq m (n + 1)) [
  | inl same ↦
      let there : nat_le (n + 1) (length rest) ≡ true = le-leb (n + 1) (length rest) (omega arith) in
      both_ways _ missing (and_from _ _ there (rw same at found))
  | inr other ↦ none m (omega arith) within found
]
