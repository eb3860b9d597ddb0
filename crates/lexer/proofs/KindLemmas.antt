-- The token of a piece is not the end of the source.
use Rattle.std.proofs.Common.{◌≡◌, ◌≢◌, ℕ, Bool, true, false, List, [], ◌∷◌, inl, inr, refl, ◌∙◌, ap, Option, Some, None}
use Rattle.std.specs.Prelude.{nat_eq, unwrap_or}
use Rattle.std.specs.Cmp.Lexicographic.{pointwise}
use Rattle.std.specs.List.{list_all}
use Rattle.std.specs.Option.{option_map, option_to_list}
use Rattle.std.proofs.lemmas.Bool.{false≢true, and_parts, cases_Bool}
use Rattle.std.proofs.lemmas.List.Elements.{All-nil, All-cons}
use Rattle.syntax.specs.Texts.{Text}
use Rattle.lexer.specs.Table.{lookup, reserved_word, reserved_words, symbol, symbols}
use Rattle.lexer.specs.Tokens.{token_at, token_of, token_number}
use Rattle.lexer.specs.internal.Parts.{HasNoEnd}
use Rattle.lexer.specs.declared.class.Class.{Class}
use Rattle.lexer.specs.declared.class.Class.TheVariants as class
use Rattle.lexer.specs.declared.position.Position.{Position}
use Rattle.lexer.specs.declared.token.Kind.{Kind}
use Rattle.lexer.specs.declared.token.Kind.TheVariants.{Name, Number, ProcedureWord, End}
use Rattle.lexer.specs.declared.token.Token.{Token}

abbrev goes_on : Kind → Bool
goes_on End = false
goes_on _ = true

-- a test that the kinds of a table pass is passed by each kind that is found there
lookup_passes : (test : Kind → Bool) (table : List (Text × Kind)) (text : Text) → list_all (λ entry. test entry.1) table ≡ true → (kind : Kind) → lookup table text ≡ Some kind → test kind ≡ true
lookup_passes test [] text all kind found = absurd (cc)
lookup_passes test (entry ∷ entries) text all kind found = elim (cases_Bool (pointwise nat_eq entry.0 text)) [
  | inl same ↦
      let here : Some entry.1 ≡ Some kind = rw same at found in
      let e : entry.1 ≡ kind = cc in
      rw (← e) (and_parts _ _ all).0
  | inr other ↦ lookup_passes test entries text (and_parts _ _ all).1 kind (rw other at found)
]

going_on : (kind : Kind) → goes_on kind ≡ true → kind ≢ End
going_on kind passes end = false≢true (rw end at passes)

symbol_goes_on : (text : Text) (kind : Kind) → symbol text ≡ Some kind → kind ≢ End
unfolding symbol
symbol_goes_on text kind found = going_on kind (lookup_passes goes_on symbols text refl kind found)

reserved_goes_on : (text : Text) (kind : Kind) → reserved_word text ≡ Some kind → kind ≢ End
unfolding reserved_word
reserved_goes_on text kind found = going_on kind (lookup_passes goes_on reserved_words text refl kind found)

word_goes_on : (found : Option Kind) → ((kind : Kind) → found ≡ Some kind → kind ≢ End) → unwrap_or found Name ≢ End
word_goes_on None all end = absurd (cc)
word_goes_on (Some kind) all end = all kind refl end

one_token : (position : Position) (kind : Kind) (text : Text) (number : ℕ) → kind ≢ End → HasNoEnd (token_at position kind text number ∷ [])
one_token position kind text number other =
    let P : Token → Type 0 = λ (token : Token). token.kind ≢ End in
    All-cons P (token_at position kind text number) [] other (All-nil P)

found_token : (position : Position) (text : Text) (number : ℕ) (found : Option Kind) → ((kind : Kind) → found ≡ Some kind → kind ≢ End) → HasNoEnd (option_to_list (option_map (λ kind. token_at position kind text number) found))
found_token position text number None all = All-nil (λ (token : Token). token.kind ≢ End)
found_token position text number (Some kind) all = one_token position kind text number (all kind refl)

-- no piece makes the end of the source
pub piece_has_no_end : (position : Position) (class : Class) (text : Text) → HasNoEnd (option_to_list (token_of position class text))
piece_has_no_end position class.Word text = one_token position (unwrap_or (reserved_word text) Name) text 0 (word_goes_on (reserved_word text) (reserved_goes_on text))
piece_has_no_end position class.Number text = one_token position Number text (token_number class.Number text) (λ e. cc)
piece_has_no_end position class.Symbol text = found_token position text 0 (symbol text) (symbol_goes_on text)
piece_has_no_end position class.Blank text = All-nil (λ (token : Token). token.kind ≢ End)
piece_has_no_end position class.LineComment text = All-nil (λ (token : Token). token.kind ≢ End)
piece_has_no_end position class.NestedComment text = All-nil (λ (token : Token). token.kind ≢ End)
piece_has_no_end position class.OpenComment text = All-nil (λ (token : Token). token.kind ≢ End)

abbrev no_procedure : Kind → Bool
no_procedure ProcedureWord = false
no_procedure _ = true

symbol_no_procedure : (text : Text) → symbol text ≢ Some ProcedureWord
unfolding symbol
symbol_no_procedure text found = false≢true (lookup_passes no_procedure symbols text refl ProcedureWord found)

word_is : (found : Option Kind) → unwrap_or found Name ≡ ProcedureWord → found ≡ Some ProcedureWord
word_is None is = absurd (cc)
word_is (Some kind) is = ap Some is

found_is : (position : Position) (text : Text) (number : ℕ) (found : Option Kind) (token : Token) → option_map (λ kind. token_at position kind text number) found ≡ Some token → token.kind ≡ ProcedureWord → found ≡ Some ProcedureWord
found_is position text number None token made is = absurd (cc)
found_is position text number (Some kind) token made is =
    let same : token_at position kind text number ≡ token = cc in
    ap Some (ap (λ (token : Token). token.kind) same ∙ is)

-- a piece that makes the token `procedure` is the word
pub piece_is_procedure : (position : Position) (spelled : Class) (text : Text) (token : Token) → token_of position spelled text ≡ Some token → token.kind ≡ ProcedureWord → (spelled ≡ class.Word) × (reserved_word text ≡ Some ProcedureWord)
piece_is_procedure position class.Word text token made is =
    let same : token_at position (unwrap_or (reserved_word text) Name) text 0 ≡ token = cc in
    (refl, word_is (reserved_word text) (ap (λ (token : Token). token.kind) same ∙ is))
piece_is_procedure position class.Number text token made is =
    let same : token_at position Number text (token_number class.Number text) ≡ token = cc in
    let kind : Number ≡ ProcedureWord = ap (λ (token : Token). token.kind) same ∙ is in
    absurd (cc)
piece_is_procedure position class.Symbol text token made is =
    absurd (symbol_no_procedure text (found_is position text 0 (symbol text) token made is))
piece_is_procedure position class.Blank text token made is = absurd (cc)
piece_is_procedure position class.LineComment text token made is = absurd (cc)
piece_is_procedure position class.NestedComment text token made is = absurd (cc)
piece_is_procedure position class.OpenComment text token made is = absurd (cc)
