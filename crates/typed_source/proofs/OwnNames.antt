-- The names that a procedure of a typed source declares are distinct, and no `:` stands in one.
use Rattle.std.proofs.Common.{◌≡◌, ◌≢◌, inl, inr, ◌⊎◌, ℕ, Bool, true, false, ◌&&◌, List, [], ◌∷◌, ◌++◌, map, Option, Some, None, refl, ap, sym, subst, ◌∙◌}
use Rattle.std.specs.Prelude.{nat_eq}
use Rattle.std.specs.Cmp.Lexicographic.{pointwise}
use Rattle.std.specs.List.{list_all}
use Rattle.std.specs.Option.{option_map, option_to_list}
use Rattle.std.proofs.lemmas.Bool.{false≢true, and_parts, cases_Bool}
use Rattle.lexer.specs.Bytes.{is_name_byte}
use Rattle.lexer.specs.Cut.{Piece, IsCut}
use Rattle.lexer.specs.Spelling.{Spells, begins, may_hold}
use Rattle.lexer.specs.Table.{lookup, symbol, symbols}
use Rattle.lexer.specs.Tokens.{AreTokens, token_at, token_of, token_number, tokens_from, first_position, behind}
use Rattle.lexer.specs.declared.class.Class.{Class}
use Rattle.lexer.specs.declared.class.Class.TheVariants as class
use Rattle.lexer.specs.declared.position.Position.{Position}
use Rattle.lexer.specs.declared.token.Kind.{Kind}
use Rattle.lexer.specs.declared.token.Kind.TheVariants.{Name}
use Rattle.lexer.specs.declared.token.Token.{Token}
use Rattle.syntax.specs.Lists.{In, Every}
use Rattle.syntax.specs.Texts.{Text}
use Rattle.types.specs.declared.tree.Procedure.{Procedure}
use Rattle.types.specs.Laws.{DeclaredNamesAreDistinct, DeclaredNamesStay, Distinct, declared_names}
use Rattle.typed_source.proofs.GrammarTokens.{NamesAre, ProcedureIsSo, parsed_so}
use Rattle.typed_source.specs.Laws.{HasOwnNames, NamesAreOwn}

-- no `:` stands in the name
abbrev HasNoColon : Text → Type 0
HasNoColon name = ¬ In 58 name

-- ---- tokens

name_bytes : (text : Text) → list_all is_name_byte text ≡ true → HasNoColon text
name_bytes [] all h = h
name_bytes (byte ∷ text) all h =
    elim h [
      | inl same ↦ false≢true (ap is_name_byte same ∙ (and_parts _ _ all).0)
      | inr later ↦ name_bytes text (and_parts _ _ all).1 later
    ]

abbrev is_other : Kind → Bool
is_other Name = false
is_other _ = true

lookup_other : (table : List (Text × Kind)) (text : Text) (kind : Kind) → list_all (λ entry. is_other entry.1) table ≡ true → lookup table text ≡ Some kind → is_other kind ≡ true
lookup_other [] text kind all found = absurd (cc)
lookup_other (entry ∷ entries) text kind all found = elim (cases_Bool (pointwise nat_eq entry.0 text)) [
  | inl same ↦
      let here : Some entry.1 ≡ Some kind = rw same at found in
      let e : entry.1 ≡ kind = cc in
      rw (← e) (and_parts _ _ all).0
  | inr other ↦ lookup_other entries text kind (and_parts _ _ all).1 (rw other at found)
]

abbrev Fine : Token → Type 0
Fine = NamesAre HasNoColon

symbol_fine : (position : Position) (text : Text) (found : Option Kind) → ((kind : Kind) → found ≡ Some kind → is_other kind ≡ true)
    → Every Fine (option_to_list (option_map (λ kind. token_at position kind text 0) found))
symbol_fine position text None other = tt
symbol_fine position text (Some kind) other = (λ named. absurd (false≢true (sym (ap is_other named) ∙ other kind refl)), tt)

symbol_other : (text : Text) (kind : Kind) → symbol text ≡ Some kind → is_other kind ≡ true
unfolding symbol
symbol_other text kind found = lookup_other symbols text kind refl found

piece_fine : (position : Position) (c : Class) (text : Text) → Spells c text → Every Fine (option_to_list (token_of position c text))
piece_fine position class.Word text spelled = (λ named. name_bytes text (and_parts (begins class.Word text) (list_all (may_hold class.Word) text) spelled).1, tt)
piece_fine position class.Number text spelled = (λ named. absurd (cc), tt)
piece_fine position class.Symbol text spelled = symbol_fine position text (symbol text) (symbol_other text)
piece_fine position class.Blank text spelled = tt
piece_fine position class.LineComment text spelled = tt
piece_fine position class.NestedComment text spelled = tt
piece_fine position class.OpenComment text spelled = tt

every_append : (xs ys : List Token) → Every Fine xs → Every Fine ys → Every Fine (xs ++ ys)
every_append [] ys a b = b
every_append (x ∷ xs) ys a b = (a.0, every_append xs ys a.1 b)

pieces_fine : (position : Position) (pieces : List Piece) (rest : Text) → IsCut pieces rest → Every Fine (tokens_from position pieces)
pieces_fine position [] rest cut = (λ named. absurd (cc), tt)
pieces_fine position (piece ∷ pieces) rest cut =
    every_append (option_to_list (token_of position piece.class piece.text)) (tokens_from (behind position piece.text) pieces)
    (piece_fine position piece.class piece.text cut.0.spelled)
    (pieces_fine (behind position piece.text) pieces rest cut.1)

-- ---- procedures

abbrev Written : List Text → Type 0
Written names = Every HasNoColon names

own : (names : List (List Text)) (qs : List Procedure) → map declared_names qs ≡ names → Every Written names → Every (λ q. Distinct (declared_names q)) qs → Every HasOwnNames qs
own names [] e written distinct = tt
own [] (q ∷ qs) e written distinct = absurd (cc)
own (n ∷ names) (q ∷ qs) e written distinct =
    let here : declared_names q ≡ n = cc in
    let later : map declared_names qs ≡ names = cc in
    ((distinct.0, subst Written (sym here) written.0), own names qs later written.1 distinct.1)

written_all : {X : Type 0} (f : X → List Text) (xs : List X) → Every (λ x. Written (f x)) xs → Every Written (map f xs)
written_all f [] all = tt
written_all f (x ∷ xs) all = (all.0, written_all f xs all.1)

pub names_own : DeclaredNamesStay → DeclaredNamesAreDistinct → NamesAreOwn
names_own stay distinct source qs (d, (tokens, (pieces, read, are), parses), typed) =
    let fine : Every Fine tokens = subst (Every Fine) (sym are) (pieces_fine first_position pieces [] read.cut) in
    own _ qs (stay d qs typed) (written_all _ d.procedures (parsed_so HasNoColon tokens d parses fine)) (distinct d qs typed)
