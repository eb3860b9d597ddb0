-- What a part of a source is, piece by piece.
use Rattle.std.proofs.Common.{◌≡◌, ◌≢◌, ℕ, ◌+◌, ◌-◌, ◌<◌, ◌≤◌, List, [], ◌∷◌, ◌++◌, Some, None, inl, inr, ◌⊎◌, length, take, drop, refl, sym, ◌∙◌, ap, subst, append_assoc, length-append, length-drop, arith}
use Rattle.std.specs.Option.{option_to_list}
use Rattle.std.proofs.lemmas.List.{append-nil, take-append-drop}
use Rattle.std.proofs.lemmas.List.Elements.{All-nil, All-append}
use Rattle.syntax.specs.Texts.{Text}
use Rattle.lexer.specs.Cut.{Piece}
use Rattle.lexer.specs.Table.{reserved_word}
use Rattle.lexer.specs.Tokens.{IsReadable, token_at, token_of}
use Rattle.lexer.specs.internal.Fronts.{IsPieceFault}
use Rattle.lexer.specs.internal.Parts.{BeginsProcedure, Ends, Goes, HasNoEnd, HasRead, IsAtProcedure, IsCutOff, IsPart, Refuses, Skips}
use Rattle.lexer.specs.internal.Reached.{Reaches}
use Rattle.lexer.specs.declared.class.Class.TheVariants.{Blank, Word}
use Rattle.lexer.specs.declared.lexing.Found.{Found}
use Rattle.lexer.specs.declared.lexing.Lexing.{Lexing}
use Rattle.lexer.specs.declared.lexing.Stop.{Stop}
use Rattle.lexer.specs.declared.lexing.Stop.TheVariants.{Full, Procedure, EndOfSource}
use Rattle.lexer.specs.declared.position.Position.{Position}
use Rattle.lexer.specs.declared.token.Kind.TheVariants.{End, ProcedureWord}
use Rattle.lexer.specs.declared.token.Token.{Token}
use Rattle.refusals.specs.declared.lexer.Fault.{Fault}
use Rattle.lexer.proofs.KindLemmas.{piece_has_no_end, piece_is_procedure}
use Rattle.lexer.proofs.ReadingLemmas.{piece_fault_due, reaches_end, reaches_fault, reaches_next}
use Rattle.lexer.proofs.UniqueLemmas.{longest_unique, some_front}

-- nothing is read between a place and itself
pub goes_nowhere : (here : Lexing) → Goes here [] here
goes_nowhere here source before read =
    subst (λ (tokens : List Token). HasRead source tokens here) (sym (append-nil before)) read

-- one way behind the other
pub goes_on : (old between new : Lexing) (first second : List Token) → Goes old first between → Goes between second new → Goes old (first ++ second) new
goes_on old between new first second one other source before read =
    subst (λ (tokens : List Token). HasRead source tokens new) (append_assoc before first second) (other source (before ++ first) (one source before read))

-- a way, and then the end
pub goes_to_end : (old between : Lexing) (first second : List Token) → Goes old first between → Ends between second → Ends old (first ++ second)
goes_to_end old between first second one other source before read =
    rw (append_assoc before first second) at (other source (before ++ first) (one source before read))

-- a way, and then a fault
pub goes_to_fault : (old between : Lexing) (first : List Token) (fault : Fault) → Goes old first between → Refuses between fault → Refuses old fault
goes_to_fault old between first fault one other source before read =
    other source (before ++ first) (one source before read)

-- the source is read up to there
stands_at : (source : Text) (tokens : List Token) (p q : Position) (r s : Text) → q ≡ p → s ≡ r → Reaches source tokens p r → Reaches source tokens q s
stands_at source tokens p q r s e f read =
    subst (λ (x : Position). Reaches source tokens x s) (sym e) (subst (λ (x : Text). Reaches source tokens p x) (sym f) read)

-- the way over a piece that is cut off
pub over_piece : (old new : Lexing) (found : Found) → IsCutOff old found new → IsReadable found.class found.text.now → Goes old (option_to_list (token_of found.position found.class found.text.now)) new
over_piece old new found off readable source before read =
    let text = take off.size old.rest.now in
    let onward = reaches_next source before old.position old.rest.now found.class off.size read off.front (rw off.text at readable) in
    let there = stands_at source (before ++ option_to_list (token_of old.position found.class text)) _ _ _ _ off.behind off.rest onward in
    rw (off.position, off.text) there

-- a piece that is a fault in itself
pub bad_piece : (old new : Lexing) (found : Found) (fault : Fault) → IsCutOff old found new → IsPieceFault found.position.offset found.class found.text.now fault → Refuses old fault
bad_piece old new found fault off bad source before read =
    let here : IsPieceFault old.position.offset found.class (take off.size old.rest.now) fault = rw (off.position, off.text) at bad in
    reaches_fault source before old.position old.rest.now fault read (piece_fault_due old.position.offset found.class off.size old.rest.now fault off.front here)

-- what is left grows less with a piece
pub less_left : (old new : Lexing) (found : Found) → IsCutOff old found new → length new.rest.now < length old.rest.now
less_left old new found off =
    let some = some_front found.class off.size old.rest.now off.front in
    let within = off.front.0 in
    rw off.rest (omega (arith, some, within, length-drop off.size old.rest.now))

-- where nothing is left
pub at_end : (here : Lexing) → here.rest.now ≡ [] → Ends here (token_at here.position End [] 0 ∷ [])
at_end here none source before read =
    reaches_end source before here.position (subst (λ rest. Reaches source before here.position rest) none read)

-- a piece that makes the token `procedure` is the word
pub at_procedure : (here new : Lexing) (found : Found) (token : Token) → IsCutOff here found new → token_of found.position found.class found.text.now ≡ Some token → token.kind ≡ ProcedureWord → IsAtProcedure here
at_procedure here new found token off made is =
    let word = piece_is_procedure found.position found.class found.text.now token made is in
    record {
      size = off.size;
      front = rw word.0 at off.front;
      word = rw off.text at word.1;
    }

-- at the word `procedure` it is what is cut off
procedure_token : (here new : Lexing) (found : Found) → IsAtProcedure here → (off : IsCutOff here found new) → option_to_list (token_of found.position found.class found.text.now) ≡ token_at found.position ProcedureWord (take off.size here.rest.now) 0 ∷ []
procedure_token here new found word off =
    let rest = here.rest.now in
    let one : Piece = record { class = found.class; text = take off.size rest } in
    let other : Piece = record { class = Word; text = take word.size rest } in
    let whole = take-append-drop off.size rest ∙ sym (take-append-drop word.size rest) in
    let same = (longest_unique one other (drop off.size rest) (drop word.size rest) off.front.1 word.front.1 whole).0 in
    let class : found.class ≡ Word = ap (λ (piece : Piece). piece.class) same in
    let text : take off.size rest ≡ take word.size rest = ap (λ (piece : Piece). piece.text) same in
    let reserved : reserved_word (take off.size rest) ≡ Some ProcedureWord = rw text word.word in
    rw (off.text, class, reserved) refl

-- no token is among the blanks
goes_blank : (old new : Lexing) → Skips old new → Goes old [] new
goes_blank old new skips source before read = elim skips [
  | inl same ↦ rw same (goes_nowhere old source before read)
  | inr past ↦
      let onward = reaches_next source before old.position old.rest.now Blank past.size read past.front tt in
      stands_at source (before ++ []) _ _ _ _ past.behind past.rest onward
]

-- what is left grows no longer behind the blanks
pub skips_no_more : (old new : Lexing) → Skips old new → length new.rest.now ≤ length old.rest.now
skips_no_more old new skips = elim skips [
  | inl same ↦ rw same (omega arith)
  | inr past ↦ rw past.rest (omega (arith, length-drop past.size old.rest.now))
]

-- at the word `procedure` there are none
word_stays : (here new : Lexing) → IsAtProcedure here → Skips here new → new ≡ here
word_stays here new word skips = elim skips [
  | inl same ↦ same
  | inr past ↦
      let rest = here.rest.now in
      let one : Piece = record { class = Blank; text = take past.size rest } in
      let other : Piece = record { class = Word; text = take word.size rest } in
      let whole = take-append-drop past.size rest ∙ sym (take-append-drop word.size rest) in
      let same = (longest_unique one other (drop past.size rest) (drop word.size rest) past.front.1 word.front.1 whole).0 in
      let class : Blank ≡ Word = ap (λ (piece : Piece). piece.class) same in
      absurd (cc)
]

-- What a part begins with that is begun at the word `procedure` and held nothing before: it holds nothing yet where
-- nothing is read.
abbrev pub Begun : Lexing → List Token → Lexing → List Token → Type 0
Begun old before here part = IsAtProcedure old → before ≡ [] → ((part ≡ []) × (here.rest.now ≡ old.rest.now)) ⊎ BeginsProcedure part

begins_still : (part more : List Token) → BeginsProcedure part → BeginsProcedure (part ++ more)
begins_still [] more begins = absurd begins
begins_still (token ∷ part) more begins = begins

begun_on : (old : Lexing) (before : List Token) (here new : Lexing) (part onward tokens : List Token) (found : Found) → Begun old before here part → IsCutOff here found new → option_to_list (token_of found.position found.class found.text.now) ≡ tokens → onward ≡ part ++ tokens → Begun old before new onward
begun_on old before here new part onward tokens found begun off token more word none = elim (begun word none) [
  | inl fresh ↦
      let front = rw (← fresh.1) at word.front in
      let reserved = rw (← fresh.1) at word.word in
      let still : IsAtProcedure here = record { size = word.size; front = front; word = reserved } in
      let first : onward ≡ token_at found.position ProcedureWord (take off.size here.rest.now) 0 ∷ [] =
      more ∙ ap (λ (front : List Token). front ++ tokens) fresh.0 ∙ sym token ∙ procedure_token here new found still off in
      inr (subst BeginsProcedure (sym first) refl)
  | inr begins ↦ inr (subst BeginsProcedure (sym more) (begins_still part tokens begins))
]

begun_behind : (old : Lexing) (before : List Token) (here new : Lexing) (part : List Token) → Begun old before here part → Skips here new → Begun old before new part
begun_behind old before here new part begun skips word none = elim (begun word none) [
  | inl fresh ↦
      let front = rw (← fresh.1) at word.front in
      let reserved = rw (← fresh.1) at word.word in
      let still : IsAtProcedure here = record { size = word.size; front = front; word = reserved } in
      inl (fresh.0, rw (word_stays here new still skips) fresh.1)
  | inr begins ↦ inr begins
]

-- a part as far as it is read, of which so many tokens are left to add
pub record IsPartSoFar (old : Lexing) (before : List Token) (most : ℕ) (here : Lexing) (part : List Token) (left : ℕ) : Type 0 where
  pub added : List Token
  pub same : part ≡ before ++ added
  pub goes : Goes old added here
  pub no_end : HasNoEnd added
  pub count : length added + left ≡ most
  -- each token is a byte and more
  pub bytes : length added + length here.rest.now ≤ length old.rest.now
  pub begun : Begun old before here part

pub part_begun : (old : Lexing) (before : List Token) (most : ℕ) → IsPartSoFar old before most old before most
part_begun old before most = record {
  added = [];
  same = sym (append-nil before);
  goes = goes_nowhere old;
  no_end = All-nil (λ (token : Token). token.kind ≢ End);
  count = omega arith;
  bytes = omega arith;
  begun = λ word none. inl (none, refl);
}

-- the same behind the blanks
pub part_skips : (old : Lexing) (before : List Token) (most : ℕ) (here new : Lexing) (part : List Token) (left : ℕ) → IsPartSoFar old before most here part left → Skips here new → IsPartSoFar old before most new part left
part_skips old before most here new part left so skips = record {
  added = so.added;
  same = so.same;
  goes = subst (λ (added : List Token). Goes old added new) (append-nil so.added) (goes_on old here new so.added [] so.goes (goes_blank here new skips));
  no_end = so.no_end;
  count = so.count;
  bytes = let bytes = so.bytes in omega (arith, bytes, skips_no_more here new skips);
  begun = begun_behind old before here new part so.begun skips;
}

-- one piece on, which makes these tokens
part_on : (old : Lexing) (before : List Token) (most : ℕ) (here new : Lexing) (part onward tokens : List Token) (left : ℕ) (found : Found) → IsPartSoFar old before most here part left → IsCutOff here found new → IsReadable found.class found.text.now → option_to_list (token_of found.position found.class found.text.now) ≡ tokens → onward ≡ part ++ tokens → length tokens ≤ left → length tokens ≤ 1 → IsPartSoFar old before most new onward (left - length tokens)
part_on old before most here new part onward tokens left found so off readable token more some one = record {
  added = so.added ++ tokens;
  same = more ∙ ap (λ (front : List Token). front ++ tokens) so.same ∙ append_assoc before so.added tokens;
  goes = goes_on old here new so.added tokens so.goes (subst (λ (made : List Token). Goes here made new) token (over_piece here new found off readable));
  no_end = All-append (λ (token : Token). token.kind ≢ End) so.added tokens so.no_end (subst HasNoEnd token (piece_has_no_end found.position found.class found.text.now));
  count = let count = so.count in omega (arith, count, some, length-append so.added tokens);
  bytes = let bytes = so.bytes in omega (arith, bytes, one, length-append so.added tokens, less_left here new found off);
  begun = begun_on old before here new part onward tokens found so.begun off token more;
}

-- one piece on, which makes no token
pub part_on_blank : (old : Lexing) (before : List Token) (most : ℕ) (here new : Lexing) (part : List Token) (left : ℕ) (found : Found) → IsPartSoFar old before most here part left → IsCutOff here found new → IsReadable found.class found.text.now → token_of found.position found.class found.text.now ≡ None → IsPartSoFar old before most new part left
part_on_blank old before most here new part left found so off readable none =
    let same : left - 0 ≡ left = omega arith in
    rw same at (part_on old before most here new part part [] left found so off readable (ap option_to_list none) (sym (append-nil part)) (omega arith) (omega arith))

-- one piece on, which makes a token
pub part_on_token : (old : Lexing) (before : List Token) (most : ℕ) (here new : Lexing) (part onward : List Token) (token : Token) (left : ℕ) (found : Found) → IsPartSoFar old before most here part left → IsCutOff here found new → IsReadable found.class found.text.now → token_of found.position found.class found.text.now ≡ Some token → onward ≡ part ++ token ∷ [] → 1 ≤ left → IsPartSoFar old before most new onward (left - 1)
part_on_token old before most here new part onward token left found so off readable some more room =
    part_on old before most here new part onward (token ∷ []) left found so off readable (ap option_to_list some) more room (omega arith)

-- what a part holds where it ends
abbrev pub EndsPart : Lexing → List Token → ℕ → Stop → Lexing → List Token → Type 0
EndsPart old before most stop new part = (added : List Token) × (part ≡ before ++ added) × IsPart stop most old added new

pub part_full : (old : Lexing) (before : List Token) (most : ℕ) (here : Lexing) (part : List Token) (left : ℕ) → IsPartSoFar old before most here part left → left ≡ 0 → EndsPart old before most Full here part
part_full old before most here part left so none =
    let count = so.count in (so.added, so.same, (so.goes, so.no_end, omega (arith, count, none), so.bytes))

pub part_at_procedure : (old : Lexing) (before : List Token) (most : ℕ) (here : Lexing) (part : List Token) (left : ℕ) → IsPartSoFar old before most here part left → IsAtProcedure here → EndsPart old before most Procedure here part
part_at_procedure old before most here part left so word =
    let count = so.count in (so.added, so.same, (so.goes, so.no_end, omega (arith, count), so.bytes, word))

pub part_at_end : (old : Lexing) (before : List Token) (most : ℕ) (here new : Lexing) (part onward : List Token) (left : ℕ) → IsPartSoFar old before most here part left → here.rest.now ≡ [] → onward ≡ part ++ token_at here.position End [] 0 ∷ [] → 1 ≤ left → EndsPart old before most EndOfSource new onward
part_at_end old before most here new part onward left so none more room =
    let last = token_at here.position End [] 0 ∷ [] in
    let count = so.count in
    (so.added ++ last, more ∙ ap (λ (front : List Token). front ++ last) so.same ∙ append_assoc before so.added last, (goes_to_end old here so.added last so.goes (at_end here none), omega (arith, count, room, length-append so.added last)))

-- a part that holds a token begins as it was begun
pub part_begins : (old : Lexing) (before : List Token) (most : ℕ) (here : Lexing) (part : List Token) (left : ℕ) → IsPartSoFar old before most here part left → 1 ≤ length part → IsAtProcedure old → before ≡ [] → BeginsProcedure part
part_begins old before most here part left so some word none = elim (so.begun word none) [
  | inl fresh ↦ absurd (omega (arith, some, ap length fresh.0))
  | inr begins ↦ begins
]

-- a part that is full holds a token
pub full_begins : (old : Lexing) (before : List Token) (most : ℕ) (here : Lexing) (part : List Token) (left : ℕ) → IsPartSoFar old before most here part left → left ≡ 0 → IsAtProcedure old → before ≡ [] → 1 ≤ most → BeginsProcedure part
full_begins old before most here part left so full word none some =
    let count = so.count in
    let size : length part ≡ length before + length so.added = ap length so.same ∙ length-append before so.added in
    part_begins old before most here part left so (omega (arith, count, full, some, size)) word none

-- where the source ends the word is behind
pub end_begins : (old : Lexing) (before : List Token) (most : ℕ) (here : Lexing) (part onward last : List Token) (left : ℕ) → IsPartSoFar old before most here part left → here.rest.now ≡ [] → onward ≡ part ++ last → IsAtProcedure old → before ≡ [] → BeginsProcedure onward
end_begins old before most here part onward last left so over more word none = elim (so.begun word none) [
  | inl fresh ↦
      let some = some_front Word word.size old.rest.now word.front in
      let within = word.front.0 in
      let empty : old.rest.now ≡ [] = sym fresh.1 ∙ over in
      absurd (omega (arith, some, within, ap length empty))
  | inr begins ↦ subst BeginsProcedure (sym more) (begins_still part last begins)
]
