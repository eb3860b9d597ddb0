-- The class of a spelling shows at its front.
use Rattle.std.proofs.Common.{◌≡◌, ◌≢◌, ℕ, true, false, [], ◌∷◌, ◌++◌, inl, inr, refl, sym, arith}
use Rattle.std.specs.Prelude.{slice_index}
use Rattle.std.specs.Char.{is_ascii_alphabetic, is_ascii_digit}
use Rattle.std.proofs.lemmas.Bool.{false≢true, and_parts, cases_Bool}
use Rattle.std.proofs.lemmas.Bool.Decides.{nat_tests}
use Rattle.syntax.specs.Texts.{Text}
use Rattle.lexer.specs.Bytes.{is_blank, is_name_byte}
use Rattle.lexer.specs.Comment.{is_opening}
use Rattle.lexer.specs.Spelling.{begins, IsRun, Spells}
use Rattle.lexer.specs.internal.Fronts.{class_at}
use Rattle.lexer.specs.declared.class.Class.{Class}
use Rattle.lexer.specs.declared.class.Class.TheVariants.{Blank, LineComment, NestedComment, OpenComment, Word, Number, Symbol}
use Rattle.lexer.proofs.MarkLemmas.{mark_extends, mark_first, other_mark}

-- the class as its front shows it
abbrev pub front_class : Class → Class
front_class Blank = Blank
front_class LineComment = LineComment
front_class NestedComment = NestedComment
front_class OpenComment = NestedComment
front_class Word = Word
front_class Number = Number
front_class Symbol = Symbol

-- classes of bytes are apart
letter_not_blank : (b : ℕ) → is_ascii_alphabetic b ≡ true → is_blank b ≡ false
letter_not_blank b e = grind (arith, nat_tests)

digit_not_blank : (b : ℕ) → is_ascii_digit b ≡ true → is_blank b ≡ false
digit_not_blank b e = grind (arith, nat_tests)

digit_not_letter : (b : ℕ) → is_ascii_digit b ≡ true → is_ascii_alphabetic b ≡ false
digit_not_letter b e = grind (arith, nat_tests)

pub letter_in_name : (b : ℕ) → is_ascii_alphabetic b ≡ true → is_name_byte b ≡ true
letter_in_name b e = grind (arith, nat_tests)

-- what begins as a run of a class is of no other
pub class_begun : (class : Class) (text : Text) → begins class text ≡ true → class_at text ≡ class
class_begun Blank text e = rw e refl
class_begun Word text e = rw (letter_not_blank _ e, e) refl
class_begun Number text e = rw (digit_not_blank _ e, digit_not_letter _ e, e) refl
class_begun LineComment text e = rw (mark_first 45 (45 ∷ []) text e, e) refl
class_begun NestedComment text e = absurd (false≢true e)
class_begun OpenComment text e = absurd (false≢true e)
class_begun Symbol text e = absurd (false≢true e)

pub class_opening : (text : Text) → is_opening text ≡ true → class_at text ≡ NestedComment
class_opening text e =
    let first = mark_first 40 (45 ∷ 45 ∷ []) text e in
    let other : slice_index text 0 ≢ 45 = λ other. absurd (omega (arith, first, other)) in
    rw (first, other_mark 45 (45 ∷ []) text other, e) refl

-- what begins as a run does so whatever follows
pub begins_extends : (class : Class) (text more : Text) → begins class text ≡ true → begins class (text ++ more) ≡ true
begins_extends Blank [] more e = absurd (false≢true e)
begins_extends Blank (b ∷ text) more e = e
begins_extends Word [] more e = absurd (false≢true e)
begins_extends Word (b ∷ text) more e = e
begins_extends Number [] more e = absurd (false≢true e)
begins_extends Number (b ∷ text) more e = e
begins_extends LineComment text more e = mark_extends (45 ∷ 45 ∷ []) text more e
begins_extends NestedComment text more e = e
begins_extends OpenComment text more e = e
begins_extends Symbol text more e = e

run_front : (class : Class) (text beyond : Text) → IsRun class text → class_at (text ++ beyond) ≡ class
run_front class text beyond run = class_begun class (text ++ beyond) (begins_extends class text beyond (and_parts _ _ run).0)

opening_front : (text beyond : Text) → is_opening text ≡ true → class_at (text ++ beyond) ≡ NestedComment
opening_front text beyond e = class_opening (text ++ beyond) (mark_extends (40 ∷ 45 ∷ 45 ∷ []) text beyond e)

-- a spelling other than a symbol shows its class whatever follows
pub class_shown : (class : Class) (text beyond : Text) → class ≢ Symbol → Spells class text → class_at (text ++ beyond) ≡ front_class class
class_shown Blank text beyond n s = run_front Blank text beyond s
class_shown LineComment text beyond n s = run_front LineComment text beyond s
class_shown Word text beyond n s = run_front Word text beyond s
class_shown Number text beyond n s = run_front Number text beyond s
class_shown NestedComment text beyond n s = opening_front text beyond (and_parts _ _ s).0
class_shown OpenComment text beyond n s = opening_front text beyond s.0
class_shown Symbol text beyond n s = absurd (n refl)

-- a class that shows is begun, unless it is that of comments or symbols
pub class_begins : (class : Class) (text : Text) → class_at text ≡ class → class ≢ NestedComment → class ≢ Symbol → begins class text ≡ true
class_begins class text same comment symbol = elim (cases_Bool (begins Blank text)) [
  | inl here ↦ let e : Blank ≡ class = rw here at same in rw (← e) here
  | inr blank ↦ elim (cases_Bool (begins Word text)) [
    | inl here ↦ let e : Word ≡ class = rw (blank, here) at same in rw (← e) here
    | inr word ↦ elim (cases_Bool (begins Number text)) [
      | inl here ↦ let e : Number ≡ class = rw (blank, word, here) at same in rw (← e) here
      | inr number ↦ elim (cases_Bool (begins LineComment text)) [
        | inl here ↦ let e : LineComment ≡ class = rw (blank, word, number, here) at same in rw (← e) here
        | inr line ↦ elim (cases_Bool (is_opening text)) [
          | inl here ↦ let e : NestedComment ≡ class = rw (blank, word, number, line, here) at same in absurd (comment (sym e))
          | inr opening ↦ let e : Symbol ≡ class = rw (blank, word, number, line, opening) at same in absurd (symbol (sym e))
        ]
      ]
    ]
  ]
]
