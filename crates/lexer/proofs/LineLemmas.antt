-- Pieces in which no line ends.
use Rattle.std.proofs.Common.{◌≡◌, ℕ, ◌+◌, length, ap, Bool, true, false, not, [], ◌∷◌, refl, arith}
use Rattle.std.specs.Prelude.{nat_eq}
use Rattle.std.specs.Char.{is_ascii_digit}
use Rattle.std.specs.List.{count_by, list_all}
use Rattle.std.proofs.lemmas.Bool.{and_parts, eqb-true}
use Rattle.std.proofs.lemmas.Bool.Decides.{nat_tests}
use Rattle.syntax.specs.Texts.{Text, is_end}
use Rattle.lexer.specs.Bytes.{is_name_byte}
use Rattle.lexer.specs.Spelling.{Spells}
use Rattle.lexer.specs.Table.{symbol, symbols}
use Rattle.lexer.specs.Tokens.{behind}
use Rattle.lexer.specs.declared.position.Position.{Position}
use Rattle.lexer.specs.declared.class.Class.TheVariants.{LineComment, Word, Number, Symbol}
use Rattle.lexer.proofs.SymbolLemmas.{lookup_passes}

-- no byte for which the test holds ends a line
no_ends : (test : ℕ → Bool) → ((b : ℕ) → test b ≡ true → is_end b ≡ false) → (text : Text) → list_all test text ≡ true → count_by is_end text ≡ 0
no_ends test none [] all = refl
no_ends test none (b ∷ text) all =
    let parts = and_parts (test b) (list_all test text) all in
    rw (none b parts.0, no_ends test none text parts.1) refl

name_byte : (b : ℕ) → is_name_byte b ≡ true → is_end b ≡ false
name_byte b e = grind (arith, nat_tests)

digit : (b : ℕ) → is_ascii_digit b ≡ true → is_end b ≡ false
digit b e = grind (arith, nat_tests)

other_byte : (b : ℕ) → not (is_end b) ≡ true → is_end b ≡ false
other_byte b e = grind (arith, nat_tests)

pub word_ends : (text : Text) → Spells Word text → count_by is_end text ≡ 0
word_ends text s = no_ends is_name_byte name_byte text (and_parts _ _ s).1

pub number_ends : (text : Text) → Spells Number text → count_by is_end text ≡ 0
number_ends text s = no_ends is_ascii_digit digit text (and_parts _ _ s).1

pub comment_ends : (text : Text) → Spells LineComment text → count_by is_end text ≡ 0
comment_ends text s = no_ends (λ b. not (is_end b)) other_byte text (and_parts _ _ s).1

abbrev has_no_end : Text → Bool
has_no_end text = nat_eq (count_by is_end text) 0

pub symbol_ends : (text : Text) → Spells Symbol text → count_by is_end text ≡ 0
unfolding symbol
symbol_ends text found = eqb-true (count_by is_end text) 0 (lookup_passes has_no_end symbols text refl found)

-- the position behind a text, on a line that is told
abbrev on_line : Position → Text → ℕ → Position
on_line position text line = record { offset = position.offset + length text; line = line }

pub at_line : (position : Position) (text : Text) (line : ℕ) → line ≡ position.line + count_by is_end text → on_line position text line ≡ behind position text
at_line position text line same = ap (on_line position text) same
