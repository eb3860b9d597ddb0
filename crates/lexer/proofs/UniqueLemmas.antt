-- A source is cut in one way, and so it has one list of tokens or one fault.
use Rattle.std.proofs.Common.{◌≡◌, ◌≢◌, ℕ, zero, suc, ◌≤◌, ◌<◌, ◌^◌, true, false, List, [], ◌∷◌, ◌++◌, length, drop, inl, inr, refl, sym, ◌∙◌, ap, append_assoc, arith}
use Rattle.std.specs.Prelude.{if◌then◌else◌}
use Rattle.std.proofs.lemmas.Bool.{false≢true, and_parts, cases_lt, cond-false, cond-true, false_from_ne_true}
use Rattle.std.proofs.lemmas.List.{append-nil, take_all, drop_all}
use Rattle.syntax.specs.Texts.{Text}
use Rattle.lexer.specs.Comment.{closes, is_opening, is_nested_comment, IsOpenComment}
use Rattle.lexer.specs.Cut.{IsCut, IsLongest, Piece, joined}
use Rattle.lexer.specs.Refusal.{BeginsTooLarge, IsDueAt, IsRefused}
use Rattle.lexer.specs.Spelling.{Spells}
use Rattle.lexer.specs.internal.Fronts.{class_at, IsFront}
use Rattle.lexer.specs.Tokens.{AreReadable, AreTokens, IsReadable, IsReadTo, first_position, tokens_from, value_of}
use Rattle.lexer.specs.declared.class.Class.{Class}
use Rattle.lexer.specs.declared.class.Class.TheVariants.{Blank, LineComment, NestedComment, OpenComment, Word, Number, Symbol}
use Rattle.refusals.specs.declared.lexer.Fault.{Fault}
use Rattle.refusals.specs.declared.lexer.Fault.TheVariants as fault
use Rattle.lexer.specs.declared.token.Token.{Token}
use Rattle.lexer.proofs.FrontLemmas.{class_of, open_front}
use Rattle.lexer.proofs.PieceLemmas.{class_opening}
use Rattle.lexer.proofs.SymbolLemmas.{symbol_facts}

-- the class that a text alone can have
abbrev exact_class : Text → Class
exact_class text = if is_opening text then (if is_nested_comment text then NestedComment else OpenComment) else class_at text

exact_other : (text : Text) (class : Class) → class ≢ NestedComment → class_at text ≡ class → exact_class text ≡ class
exact_other text class other same =
    let closed : is_opening text ≡ false = false_from_ne_true _ (λ opens. other (sym same ∙ class_opening text opens)) in
    cond-false (is_opening text) (if is_nested_comment text then NestedComment else OpenComment) (class_at text) closed ∙ same

-- a text is a spelling of one class alone
exact : (class : Class) (text : Text) → Spells class text → exact_class text ≡ class
exact Blank text s = exact_other text Blank (λ e. cc) (class_of Blank text s)
exact LineComment text s = exact_other text LineComment (λ e. cc) (class_of LineComment text s)
exact Word text s = exact_other text Word (λ e. cc) (class_of Word text s)
exact Number text s = exact_other text Number (λ e. cc) (class_of Number text s)
exact Symbol text s = exact_other text Symbol (λ e. cc) (class_of Symbol text s)
exact NestedComment text s =
    let opens : is_opening text ≡ true = (and_parts (is_opening text) (closes 1 (drop 3 text)) s).0 in
    cond-true (is_opening text) (if is_nested_comment text then NestedComment else OpenComment) (class_at text) opens ∙ cond-true (is_nested_comment text) NestedComment OpenComment s
exact OpenComment text s =
    let not_whole : is_nested_comment text ≡ false = false_from_ne_true _ (λ e. s.1 (length text) (rw (take_all (length text) text (omega arith)) e)) in
    cond-true (is_opening text) (if is_nested_comment text then NestedComment else OpenComment) (class_at text) s.0 ∙ cond-false (is_nested_comment text) NestedComment OpenComment not_whole

-- the shorter of two fronts of one text is a front of the other
append_split : (front other rest beyond : Text) → front ++ rest ≡ other ++ beyond → length front ≤ length other → (more : Text) × (other ≡ front ++ more) × (rest ≡ more ++ beyond)
append_split [] other rest beyond e shorter = (other, refl, e)
append_split (a ∷ front) [] rest beyond e shorter = absurd (omega arith)
append_split (a ∷ front) (b ∷ other) rest beyond e shorter =
    let tails : front ++ rest ≡ other ++ beyond = cc in
    let same : a ≡ b = cc in
    let split = append_split front other rest beyond tails (omega arith) in
    let step : other ≡ front ++ split.0 = split.1 in
    (split.0, cc, split.2)

-- of two longest pieces at one position none is shorter
longest_text : (p q : Piece) (rest beyond more : Text) → IsLongest p rest → IsLongest q beyond → q.text ≡ p.text ++ more → rest ≡ more ++ beyond → (p.text ≡ q.text) × (rest ≡ beyond)
longest_text p q rest beyond [] first second text split = (sym (append-nil p.text) ∙ sym text, split)
longest_text p q rest beyond (m ∷ more) first second text split =
    absurd (first.longest (m ∷ more) beyond split (λ e. cc) q.class (rw text at second.spelled))

-- two longest pieces at one position are one
pub longest_unique : (p q : Piece) (rest beyond : Text) → IsLongest p rest → IsLongest q beyond → p.text ++ rest ≡ q.text ++ beyond → (p ≡ q) × (rest ≡ beyond)
longest_unique p q rest beyond first second e = elim (cases_lt (length p.text) (length q.text)) [
  | inl shorter ↦
      let split = append_split p.text q.text rest beyond e (omega arith) in
      let same = longest_text p q rest beyond split.0 first second split.1 split.2 in
      (same_piece p q first.spelled second.spelled same.0, same.1)
  | inr longer ↦
      let split = append_split q.text p.text beyond rest (sym e) longer in
      let same = longest_text q p beyond rest split.0 second first split.1 split.2 in
      (same_piece p q first.spelled second.spelled (sym same.0), sym same.1)
]
  where
    same_piece : (p q : Piece) → Spells p.class p.text → Spells q.class q.text → p.text ≡ q.text → p ≡ q
    same_piece p q first second text =
        let class : p.class ≡ q.class = sym (exact p.class p.text first) ∙ ap exact_class text ∙ exact q.class q.text second in
        λ i. record { class = class i; text = text i }

-- no spelling is empty
pub some_spelled : (class : Class) → ¬ Spells class []
some_spelled Blank s = false≢true s
some_spelled LineComment s = false≢true s
some_spelled NestedComment s = false≢true s
some_spelled OpenComment s = false≢true s.0
some_spelled Word s = false≢true s
some_spelled Number s = false≢true s
some_spelled Symbol s = absurd (omega (arith, (symbol_facts [] s).some))

-- the longest spelling at the front has a byte at least
pub some_front : (class : Class) (n : ℕ) (rest : Text) → IsFront class n rest → 1 ≤ n
some_front class zero rest front = absurd (some_spelled class front.1.spelled)
some_front class (suc n) rest front = omega arith

-- an open comment is the longest piece at its position
opened_piece : (rest : Text) → IsOpenComment rest → IsLongest (record { class = OpenComment; text = rest }) []
opened_piece rest still =
    let front = (open_front rest still).1 in
    rw (take_all (length rest) rest (omega arith), drop_all (length rest) rest (omega arith)) at front

-- no readable piece stands at the front
abbrev Stops : Text → Type 0
Stops rest = (piece : Piece) (after : Text) → rest ≡ piece.text ++ after → IsLongest piece after → ¬ IsReadable piece.class piece.text

-- what stands before nothing is nothing
empty_front : (front rest : Text) → [] ≡ front ++ rest → front ≡ []
empty_front [] rest e = refl
empty_front (b ∷ front) rest e = absurd (cc)

-- two ways to read to where nothing goes on are one
read_unique : (ps qs : List Piece) (rest end : Text) → joined ps ++ rest ≡ joined qs ++ end → IsCut ps rest → IsCut qs end → AreReadable ps → AreReadable qs → Stops rest → Stops end → (ps ≡ qs) × (rest ≡ end)
read_unique [] [] rest end e first second r s stop halt = (refl, e)
read_unique [] (q ∷ qs) rest end e first second r s stop halt = absurd (stop q (joined qs ++ end) (e ∙ append_assoc q.text (joined qs) end) second.0 s.0)
read_unique (p ∷ ps) [] rest end e first second r s stop halt = absurd (halt p (joined ps ++ rest) (sym e ∙ append_assoc p.text (joined ps) rest) first.0 r.0)
read_unique (p ∷ ps) (q ∷ qs) rest end e first second r s stop halt =
    let heads = longest_unique p q (joined ps ++ rest) (joined qs ++ end) first.0 second.0 (sym (append_assoc p.text (joined ps) rest) ∙ e ∙ append_assoc q.text (joined qs) end) in
    let tails = read_unique ps qs rest end heads.1 first.1 second.1 r.1 s.1 stop halt in
    (λ i. heads.0 i ∷ tails.0 i, tails.1)

-- nothing goes on behind the end
end_stops : Stops []
end_stops piece after e longest readable =
    some_spelled piece.class (rw (empty_front piece.text after e) at longest.spelled)

-- a fault stops at its position
due_stops : (at : ℕ) (rest : Text) (due : Fault) → IsDueAt at rest due → Stops rest
due_stops at rest fault.Memory none piece after e longest readable = none
due_stops at rest (fault.BadCharacter offset) bad piece after e longest readable = bad.2 piece.class piece.text after e longest.spelled
due_stops at rest (fault.OpenComment offset) open_still piece after e longest readable =
    let here = opened_piece rest open_still.1 in
    let same = (longest_unique piece (record { class = OpenComment; text = rest }) after [] longest here (sym e ∙ sym (append-nil rest))).0 in
    rw (ap (λ (p : Piece). p.class) same) at readable
due_stops at rest (fault.NumberTooLarge offset) large piece after e longest readable =
    let number = large.1 in
    let same = (longest_unique piece (record { class = Number; text = number.number }) after number.after longest number.piece (sym e ∙ number.front)).0 in
    let small : value_of number.number < 2 ^ 64 = rw (ap (λ (p : Piece). p.class) same, ap (λ (p : Piece). p.text) same) at readable in
    omega (arith, small, number.large)

-- no fault is due where the source ends
none_due : (at : ℕ) (due : Fault) → ¬ IsDueAt at [] due
none_due at fault.Memory none = none
none_due at (fault.BadCharacter offset) bad = bad.1 refl
none_due at (fault.OpenComment offset) still = some_spelled OpenComment still.1
none_due at (fault.NumberTooLarge offset) large =
    some_spelled Number (rw (empty_front large.1.number large.1.after large.1.front) at large.1.piece.spelled)

-- an open comment is no number
open_no_number : (rest : Text) → IsOpenComment rest → ¬ BeginsTooLarge rest
open_no_number rest still large =
    let same = (longest_unique (record { class = OpenComment; text = rest }) (record { class = Number; text = large.number }) [] large.after (opened_piece rest still) large.piece (append-nil rest ∙ large.front)).0 in
    let class : OpenComment ≡ Number = ap (λ (p : Piece). p.class) same in
    absurd (cc)

-- one fault alone is due at a position
one_due : (at : ℕ) (rest : Text) (f g : Fault) → IsDueAt at rest f → IsDueAt at rest g → f ≡ g
one_due at rest fault.Memory g first second = absurd first
one_due at rest (fault.BadCharacter m) fault.Memory first second = absurd second
one_due at rest (fault.BadCharacter m) (fault.BadCharacter n) first second = ap fault.BadCharacter (first.0 ∙ sym second.0)
one_due at rest (fault.BadCharacter m) (fault.OpenComment n) first second = absurd (first.2 OpenComment rest [] (sym (append-nil rest)) second.1)
one_due at rest (fault.BadCharacter m) (fault.NumberTooLarge n) first second = absurd (first.2 Number second.1.number second.1.after second.1.front second.1.piece.spelled)
one_due at rest (fault.OpenComment m) fault.Memory first second = absurd second
one_due at rest (fault.OpenComment m) (fault.BadCharacter n) first second = absurd (second.2 OpenComment rest [] (sym (append-nil rest)) first.1)
one_due at rest (fault.OpenComment m) (fault.OpenComment n) first second = ap fault.OpenComment (first.0 ∙ sym second.0)
one_due at rest (fault.OpenComment m) (fault.NumberTooLarge n) first second = absurd (open_no_number rest first.1 second.1)
one_due at rest (fault.NumberTooLarge m) fault.Memory first second = absurd second
one_due at rest (fault.NumberTooLarge m) (fault.BadCharacter n) first second = absurd (second.2 Number first.1.number first.1.after first.1.front first.1.piece.spelled)
one_due at rest (fault.NumberTooLarge m) (fault.OpenComment n) first second = absurd (open_no_number rest second.1 first.1)
one_due at rest (fault.NumberTooLarge m) (fault.NumberTooLarge n) first second = ap fault.NumberTooLarge (first.0 ∙ sym second.0)

-- two ways to read a source to where nothing goes on
read_once : (source : Text) (ps qs : List Piece) (rest end : Text) → IsReadTo source ps rest → IsReadTo source qs end → Stops rest → Stops end → (ps ≡ qs) × (rest ≡ end)
read_once source ps qs rest end first second stop halt =
    read_unique ps qs rest end (sym first.whole ∙ second.whole) first.cut second.cut first.readable second.readable stop halt

-- a source has one list of tokens
pub tokens_unique : (source : Text) (xs ys : List Token) → AreTokens source xs → AreTokens source ys → xs ≡ ys
tokens_unique source xs ys first second =
    let same = read_once source first.0 second.0 [] [] first.1 second.1 end_stops end_stops in
    first.2 ∙ ap (tokens_from first_position) same.0 ∙ sym second.2

-- it is refused in one way
pub refused_unique : (source : Text) (f g : Fault) → IsRefused source f → IsRefused source g → f ≡ g
refused_unique source f g first second =
    let same = read_once source first.0 second.0 first.1 second.1 first.2 second.2 (due_stops _ first.1 f first.3) (due_stops _ second.1 g second.3) in
    let there : IsDueAt (length (joined first.0)) first.1 g = rw (same.0, same.1) second.3 in
    one_due (length (joined first.0)) first.1 f g first.3 there

-- it is not both read and refused
pub never_both : (source : Text) (xs : List Token) (f : Fault) → AreTokens source xs → ¬ IsRefused source f
never_both source xs f first second =
    let same = read_once source first.0 second.0 [] second.1 first.1 second.2 end_stops (due_stops _ second.1 f second.3) in
    none_due (length (joined second.0)) f (rw same.1 second.3)
