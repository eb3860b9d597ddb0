-- What is read of a source, and how it goes on.
use Rattle.std.proofs.Common.{◌≡◌, ℕ, ◌+◌, List, [], ◌∷◌, ◌++◌, length, take, drop, true, inl, inr, ◌-◌, refl, sym, ◌∙◌, ap, append_assoc, length-append, arith}
use Rattle.std.specs.Option.{option_to_list}
use Rattle.std.proofs.lemmas.List.{append-nil, take-append-drop, take-take}
use Rattle.std.proofs.Math.Seq.{take-add}
use Rattle.std.proofs.lemmas.Bool.{cases_lt}
use Rattle.std.specs.Prelude.{IsTrue}
use Rattle.lexer.specs.Comment.{is_opening, is_nested_comment, IsOpenComment}
use Rattle.lexer.specs.declared.class.Class.TheVariants.{NestedComment, OpenComment, Number}
use Rattle.refusals.specs.declared.lexer.Fault.TheVariants as fault
use Rattle.lexer.proofs.MarkLemmas.{mark_extends}
use Rattle.syntax.specs.Texts.{Text}
use Rattle.lexer.specs.Cut.{IsCut, Piece, joined}
use Rattle.lexer.specs.Refusal.{IsDueAt, IsRefused}
use Rattle.lexer.specs.internal.Fronts.{IsFront, IsPieceFault}
use Rattle.lexer.specs.internal.Reached.{Reaches}
use Rattle.lexer.specs.Tokens.{AreTokens, IsReadable, behind, first_position, token_at, token_of, tokens_from}
use Rattle.lexer.specs.declared.class.Class.{Class}
use Rattle.refusals.specs.declared.lexer.Fault.{Fault}
use Rattle.lexer.specs.declared.position.Position.{Position}
use Rattle.lexer.specs.declared.token.Kind.TheVariants.{End}
use Rattle.lexer.specs.declared.token.Token.{Token}

-- at the beginning
pub reaches_first : (source : Text) → Reaches source [] first_position source
reaches_first source = record {
  onward = λ later end read. record { pieces = later; read = read; same = refl; offset = omega arith };
}

-- one piece on
pub reaches_next : (source : Text) (tokens : List Token) (position : Position) (rest : Text) (class : Class) (n : ℕ) → Reaches source tokens position rest → IsFront class n rest → IsReadable class (take n rest) → Reaches source (tokens ++ option_to_list (token_of position class (take n rest))) (behind position (take n rest)) (drop n rest)
reaches_next source tokens position rest class n reached front readable = record {
  onward = λ later end read.
      let piece : Piece = record { class = class; text = take n rest } in
      let whole : rest ≡ joined (piece ∷ later) ++ end =
      sym (take-append-drop n rest) ∙ ap (λ t. take n rest ++ t) read.whole ∙ sym (append_assoc (take n rest) (joined later) end) in
      let cut : IsCut (piece ∷ later) end = (rw (← read.whole) front.1, read.cut) in
      let before = reached.onward (piece ∷ later) end (record { whole = whole; cut = cut; readable = (readable, read.readable) }) in
      record {
        pieces = before.pieces;
        read = before.read;
        same = before.same ∙ sym (append_assoc tokens (option_to_list (token_of position class (take n rest))) (tokens_from (behind position (take n rest)) later));
        offset = before.offset ∙ omega (arith, length-append (take n rest) (joined later));
      };
}

-- where the source ends
pub reaches_end : (source : Text) (tokens : List Token) (position : Position) → Reaches source tokens position [] → AreTokens source (tokens ++ token_at position End [] 0 ∷ [])
reaches_end source tokens position reached =
    let all = reached.onward [] [] (record { whole = refl; cut = tt; readable = tt }) in
    (all.pieces, all.read, sym all.same)

-- where a fault is due
pub reaches_fault : (source : Text) (tokens : List Token) (position : Position) (rest : Text) (fault : Fault) → Reaches source tokens position rest → IsDueAt position.offset rest fault → IsRefused source fault
reaches_fault source tokens position rest fault reached due =
    let all = reached.onward [] rest (record { whole = refl; cut = tt; readable = tt }) in
    let here : length (joined all.pieces) ≡ position.offset = all.offset ∙ omega arith in
    (all.pieces, rest, all.read, rw here due)

-- a front that is an open comment is so to the end
open_rest : (rest : Text) (n : ℕ) → IsFront OpenComment n rest → IsOpenComment rest
open_rest rest n front = (opens, none)
  where
    opens : is_opening rest ≡ true
    opens = rw (take-append-drop n rest) at (mark_extends (40 ∷ 45 ∷ 45 ∷ []) (take n rest) (drop n rest) front.1.spelled.0)

    none : (m : ℕ) → ¬ IsTrue (is_nested_comment (take m rest))
    none m whole = elim (cases_lt n m) [
      | inl longer ↦
          let e : m ≡ n + (m - n) = omega arith in
          let split : take m rest ≡ take n rest ++ take (m - n) (drop n rest) = ap (λ k. take k rest) e ∙ take-add n (m - n) rest in
          front.1.longest (take (m - n) (drop n rest)) (drop (m - n) (drop n rest)) (sym (take-append-drop (m - n) (drop n rest)))
          (λ nothing. front.1.spelled.1 n (rw (take-take n n rest (omega arith)) (rw (split, nothing, append-nil (take n rest)) at whole))) NestedComment (rw split at whole)
      | inr within ↦ front.1.spelled.1 m (rw (take-take m n rest within) whole)
    ]

-- a fault of the piece at the front is due there
pub piece_fault_due : (at : ℕ) (class : Class) (n : ℕ) (rest : Text) (fault : Fault) → IsFront class n rest → IsPieceFault at class (take n rest) fault → IsDueAt at rest fault
piece_fault_due at class n rest fault.Memory front none = none
piece_fault_due at class n rest (fault.BadCharacter offset) front none = absurd none
piece_fault_due at class n rest (fault.OpenComment offset) front still =
    let here : IsFront OpenComment n rest = rw still.1 at front in
    (still.0, open_rest rest n here)
piece_fault_due at class n rest (fault.NumberTooLarge offset) front large =
    let here : IsFront Number n rest = rw large.1 at front in
    (large.0, record { number = take n rest; after = drop n rest; front = sym (take-append-drop n rest); piece = here.1; large = large.2 })
