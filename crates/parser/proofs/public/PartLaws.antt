-- That a description may be parsed part by part, for callers that do: `opens` for the first part, `opens_on` for each further one.
-- Such a part is read behind the others as alone, since `procedure` ends what was read before it, and each procedure closes all its levels.
use Rattle.std.proofs.Common.{◌≡◌, ◌≢◌, inl, inr, ℕ, zero, suc, ◌<◌, Bool, true, false, List, [], ◌∷◌, ◌++◌, length, refl, sym, ◌∙◌, ap, subst, append_assoc}
use Rattle.std.specs.Prelude.{if◌then◌else◌}
use Rattle.std.proofs.lemmas.Bool.{false≢true}
use Rattle.std.proofs.lemmas.List.Elements.{All-head, All-tail}
use Rattle.lexer.specs.declared.token.Kind.{Kind}
use Rattle.lexer.specs.declared.token.Kind.TheVariants as kind
use Rattle.lexer.specs.declared.token.Kind.TheVariants.{End}
use Rattle.lexer.specs.declared.token.Token.{Token}
use Rattle.syntax.specs.declared.declaration.Description.{Description}
use Rattle.syntax.specs.declared.declaration.Procedure.{Procedure}
use Rattle.syntax.specs.declared.declaration.TypeDeclaration.{TypeDeclaration}
use Rattle.refusals.specs.declared.parser.Fault.{Fault}
use Rattle.refusals.specs.declared.parser.Fault.TheVariants.{Memory, Unexpected, TooDeep}
use Rattle.parser.specs.Accepted.{most_levels, IsRefused, Parses, FirstUnexpected, FirstTooDeep}
use Rattle.parser.specs.Input.{Input, input, next, is_one_of, same_kind}
use Rattle.parser.specs.Offsets.{end_of, offset_at}
use Rattle.parser.specs.Rules.{Rule, bind as bind_rule, pure as pure_rule, turns, repeat as repeat_rule}
use Rattle.parser.specs.internal.Parts.{joined, Opens}
use Rattle.lexer.specs.internal.Parts.{BeginsProcedure, HasNoEnd}
use Rattle.parser.specs.internal.Readers.{Outcome, Reader, read, unexpected, too_deep, and_then, bind, pure, branch, repeat, repeat_from, whole}
use Rattle.parser.specs.Grammar as g
use Rattle.parser.specs.internal.Reading as r
use Rattle.parser.proofs.Laws.{Taken, Traced, Laws, Full}
use Rattle.parser.proofs.Membership.{all_in, no_member, member, stranger}
use Rattle.parser.proofs.RepeatLaws.{shorter, repeat_stops, repeat_turns}
use Rattle.parser.proofs.ListLaws.{one_more_full, several_full}
use Rattle.parser.proofs.DeclarationLaws.{type_declaration_full, procedure_full, procedures_full, description_full}
use Rattle.parser.proofs.BalanceLaws.{description_balanced}
use Rattle.parser.proofs.Parsed.{outcome, parsed, unexpected_first, too_deep_first, every_description, every_unexpected, every_too_deep}

-- the same place with more tokens behind
abbrev on : List Token → Input → Input
on later i = input i.levels (i.tokens ++ later)

-- one of the kinds stands first, in whatever of the two is not empty
next_on : (kinds : List Kind) (tokens later : List Token) → is_one_of kinds (next tokens) ≡ true → is_one_of kinds (next later) ≡ true → is_one_of kinds (next (tokens ++ later)) ≡ true
next_on kinds [] later first second = second
next_on kinds (token ∷ tokens) later first second = first

-- What is spelled is spelled with more tokens behind, and is read there where the next one is none with which the reader would go on.
module _ {A : Type 0} {r r' : Reader A} {g g' : Rule A} {start follow : List Kind} {empty : Bool} (laws : Laws r r' g g' start empty follow) where
  taken : (i : Input) (a : A) (j : Input) → g i a j → is_one_of follow (next j.tokens) ≡ false → Taken r g i a j
  taken i a j s stops = subst (λ o. Traced r g g' i o) (laws.complete.complete i a j s stops) (laws.trace.trace i)

  spelled_on : (later : List Token) (i : Input) (a : A) (j : Input) → g i a j → is_one_of follow (next j.tokens) ≡ false → g (on later i) a (on later j)
  spelled_on later i a j s stops =
      let t = taken i a j s stops in
      let joint : t.front ++ (j.tokens ++ later) ≡ i.tokens ++ later = sym (append_assoc t.front j.tokens later) ∙ ap (λ tokens. tokens ++ later) (sym t.is_front) in
      subst (λ tokens. g (input i.levels tokens) a (on later j)) joint (t.spelled (j.tokens ++ later))

  read_on :
      (later : List Token) (i : Input) (a : A) (j : Input) → g i a j → is_one_of follow (next j.tokens) ≡ false → is_one_of follow (next (j.tokens ++ later)) ≡ false →
      r (on later i) ≡ read a (on later j)
  read_on later i a j s stops stops' = laws.complete.complete (on later i) a (on later j) (spelled_on later i a j s stops) stops'

-- Turns that are spelled are read with more tokens behind, where the next one begins another turn: then reading goes on with those.
module _ {A : Type 0} (kinds : List Kind) {turn turn' : A → Reader A} {g g' : A → Rule A} {start : List Kind}
    (laws : (a : A) → Laws (turn a) (turn' a) (g a) (g' a) start false []) (ends : is_one_of kinds End ≡ false) (inner : all_in start kinds ≡ true)
    (later : List Token) (more : is_one_of kinds (next later) ≡ true) where
  shrinks : (a : A) (i : Input) (b : A) (j : Input) → turn a i ≡ read b j → length j.tokens < length i.tokens
  shrinks a i b j e = shorter (laws a) (no_member start kinds End inner ends) i b j e

  begins_turn : (a : A) (i : Input) (b : A) (j : Input) → g a i b j → is_one_of kinds (next (i.tokens ++ later)) ≡ true
  begins_turn a i b j s = elim ((laws a).starts.starts i b j s) [
    | inl begins ↦ next_on kinds i.tokens later (member start kinds (next i.tokens) inner begins) more
    | inr skipped ↦ absurd (false≢true skipped.0)
  ]

  turns_on : (n : ℕ) (a : A) (i : Input) (b : A) (j : Input) → turns g n a i b j → repeat kinds turn a (on later i) ≡ repeat kinds turn b (on later j)
  unfolding pure_rule bind_rule bind
  turns_on zero a i b j s = ap (λ a. repeat kinds turn a (on later i)) s.0 ∙ ap (λ i. repeat kinds turn b (on later i)) s.1
  turns_on (suc n) a i b j s =
      repeat_turns kinds turn ends shrinks a (on later i) (begins_turn a i s.0 s.1 s.2)
      ∙ ap (λ o. and_then o (repeat kinds turn)) (read_on (laws a) later i s.0 s.1 s.2 refl refl)
      ∙ turns_on n s.0 s.1 b j s.3

-- ---- items behind others

-- a reader's items behind those found before
abbrev behind : {A : Type 0} → List A → List A → Reader (List A)
behind before items i = read (before ++ items) i

module _ {A : Type 0} (kinds : List Kind) (item : Reader A) (before : List A) where
  abbrev items : ℕ → List A → Reader (List A)
  items n = repeat_from kinds (r.one_more item) n

  either_behind : (c : Bool) (o p o' p' : Outcome (List A)) → o' ≡ and_then o (behind before) → p' ≡ and_then p (behind before) → (if c then o' else p') ≡ and_then (if c then o else p) (behind before)
  either_behind true o p o' p' e f = e
  either_behind false o p o' p' e f = f

  turn_behind :
      (following : List A → Reader (List A)) (found : List A) (o : Outcome A) →
      ((a : A) (j : Input) → following (before ++ (found ++ a ∷ [])) j ≡ and_then (following (found ++ a ∷ []) j) (behind before)) →
      and_then (and_then o (λ a. pure ((before ++ found) ++ a ∷ []))) following ≡ and_then (and_then (and_then o (λ a. pure (found ++ a ∷ []))) following) (behind before)
  unfolding pure
  turn_behind following found (read a j) later = ap (λ l. following l j) (append_assoc before found (a ∷ [])) ∙ later a j
  turn_behind following found (unexpected rest) later = refl
  turn_behind following found (too_deep rest) later = refl

  items_behind : (n : ℕ) (found : List A) (i : Input) → items n (before ++ found) i ≡ and_then (items n found i) (behind before)
  unfolding pure bind branch r.one_more
  items_behind zero found i = refl
  items_behind (suc n) found i =
      either_behind (is_one_of kinds (next i.tokens))
      (and_then (r.one_more item found i) (items n)) (pure found i) (and_then (r.one_more item (before ++ found) i) (items n)) (pure (before ++ found) i)
      (turn_behind (items n) found (item i) (λ a j. items_behind n (found ++ a ∷ []) j)) refl

  several_behind : (found : List A) (i : Input) → r.several kinds item (before ++ found) i ≡ and_then (r.several kinds item found i) (behind before)
  unfolding r.several repeat
  several_behind found i = items_behind (length i.tokens) found i

  first_behind :
      (o : Outcome A) → and_then (and_then o (λ a. pure (before ++ a ∷ []))) (r.several kinds item) ≡ and_then (and_then o (λ a. r.several kinds item (a ∷ []))) (behind before)
  unfolding pure
  first_behind (read a j) = several_behind (a ∷ []) j
  first_behind (unexpected rest) = refl
  first_behind (too_deep rest) = refl

-- ---- procedures

abbrev more_procedures : ℕ → List Procedure → Reader (List Procedure)
more_procedures depth = r.several (kind.ProcedureWord ∷ []) (r.procedure depth)

abbrev described : List TypeDeclaration → List Procedure → Reader Description
described types procedures i = read (record { types = types; procedures = procedures }) i

types_full : Full (r.several (kind.TypeWord ∷ []) r.type_declaration []) (r.several (kind.TypeWord ∷ []) r.type_declaration []) (g.several g.type_declaration []) (g.several g.type_declaration []) (kind.TypeWord ∷ []) true (kind.TypeWord ∷ [])
unfolding same_kind
types_full = several_full type_declaration_full _ refl refl refl _

no_end_begins : is_one_of (kind.ProcedureWord ∷ []) End ≡ false
unfolding same_kind
no_end_begins = refl

among_itself : all_in (kind.ProcedureWord ∷ []) (kind.ProcedureWord ∷ []) ≡ true
unfolding same_kind
among_itself = refl

-- where a procedure begins there is no type
no_type : (tokens : List Token) → is_one_of (kind.ProcedureWord ∷ []) (next tokens) ≡ true → is_one_of (kind.TypeWord ∷ []) (next tokens) ≡ false
unfolding same_kind
no_type tokens is = stranger (kind.ProcedureWord ∷ []) (kind.TypeWord ∷ []) (next tokens) refl is

module _ (depth : ℕ) (later : List Token) (begins : is_one_of (kind.ProcedureWord ∷ []) (next later) ≡ true) where
  -- what is spelled as procedures is read with more of them behind, and then reading goes on with those
  procedures_on : (i : Input) (all : List Procedure) (j : Input) → g.procedures depth i all j → r.procedures depth (on later i) ≡ more_procedures depth all (on later j)
  unfolding g.procedures r.procedures g.several r.several bind bind_rule repeat_rule
  procedures_on i all j s =
      ap (λ o. and_then o (λ first. more_procedures depth (first ∷ []))) (read_on (procedure_full depth).laws later i s.0 s.1 s.2 refl refl)
      ∙ turns_on (kind.ProcedureWord ∷ []) (λ found. (one_more_full (procedure_full depth) found).laws) no_end_begins among_itself later begins s.3.0 (s.0 ∷ []) s.1 all j s.3.1

  -- the tokens behind are procedures behind those before
  procedures_behind : (before : List Procedure) (levels : ℕ) → more_procedures depth before (input levels later) ≡ and_then (r.procedures depth (input levels later)) (behind before)
  unfolding r.procedures r.several r.one_more bind
  procedures_behind before levels =
      repeat_turns (kind.ProcedureWord ∷ []) (r.one_more (r.procedure depth)) no_end_begins
      (shrinks (kind.ProcedureWord ∷ []) (λ found. (one_more_full (procedure_full depth) found).laws) no_end_begins among_itself later begins) before (input levels later) begins
      ∙ first_behind (kind.ProcedureWord ∷ []) (r.procedure depth) before (r.procedure depth (input levels later))

  -- what is spelled as a description, with more procedures behind
  description_on :
      (i : Input) (given : Description) (j : Input) → g.description depth i given j →
      r.description depth (on later i) ≡ and_then (more_procedures depth given.procedures (on later j)) (described given.types)
  unfolding g.description r.description bind bind_rule pure pure_rule
  description_on i given j s =
      let first : is_one_of (kind.ProcedureWord ∷ []) (next (s.1).tokens) ≡ true = (elim ((procedures_full depth).laws.starts.starts s.1 s.3.0 s.3.1 s.3.2) [
        | inl is ↦ is
        | inr skipped ↦ absurd (false≢true skipped.0)
      ]) in
      let first' : is_one_of (kind.ProcedureWord ∷ []) (next ((s.1).tokens ++ later)) ≡ true = next_on (kind.ProcedureWord ∷ []) (s.1).tokens later first begins in
      let types : r.several (kind.TypeWord ∷ []) r.type_declaration [] (on later i) ≡ read s.0 (on later s.1) =
      read_on types_full.laws later i s.0 s.1 s.2 (no_type (s.1).tokens first) (no_type ((s.1).tokens ++ later) first') in
      ap (λ o. and_then o (λ types. bind (r.procedures depth) (described types))) types
      ∙ ap (λ o. and_then o (described s.0)) (procedures_on s.1 s.3.0 s.3.1 s.3.2)
      ∙ ap (λ j. and_then (more_procedures depth s.3.0 (on later j)) (described s.0)) s.3.3.1
      ∙ ap (λ (d : Description). and_then (more_procedures depth d.procedures (on later j)) (described d.types)) s.3.3.0

  -- procedures alone are a description with no types
  description_alone : (levels : ℕ) → r.description depth (input levels later) ≡ and_then (r.procedures depth (input levels later)) (described [])
  unfolding r.description r.several bind pure
  description_alone levels =
      ap (λ o. and_then o (λ types. bind (r.procedures depth) (described types)))
      (repeat_stops (kind.TypeWord ∷ []) (r.one_more r.type_declaration) [] (input levels later) (no_type later begins))

-- ---- a whole description

-- a description joined behind the one before
abbrev joining : Description → Description → Reader Description
joining given more i = read (joined given more) i

join_described : (given : Description) (o : Outcome (List Procedure)) → and_then (and_then o (behind given.procedures)) (described given.types) ≡ and_then (and_then o (described [])) (joining given)
join_described given (read procedures j) = refl
join_described given (unexpected rest) = refl
join_described given (too_deep rest) = refl

end_joined : (given : Description) (c : Bool) (more : Description) (j : Input) → (if c then read (joined given more) j else unexpected j.tokens) ≡ and_then (if c then read more j else unexpected j.tokens) (joining given)
end_joined given true more j = refl
end_joined given false more j = refl

abbrev to_end : Description → Reader Description
to_end given j = if same_kind (next j.tokens) End then read given j else unexpected j.tokens

outcome_joined : (given : Description) (o : Outcome Description) → and_then (and_then o (joining given)) to_end ≡ and_then (and_then o to_end) (joining given)
outcome_joined given (read more j) = end_joined given (same_kind (next j.tokens) End) more j
outcome_joined given (unexpected rest) = refl
outcome_joined given (too_deep rest) = refl

-- nothing is left where no token is an end
nothing_left : (front rest : List Token) → HasNoEnd (front ++ rest) → next rest ≡ End → rest ≡ []
nothing_left [] [] none e = refl
nothing_left [] (token ∷ rest) none e = absurd (All-head (λ (token : Token). token.kind ≢ End) token rest none e)
nothing_left (token ∷ front) rest none e = nothing_left front rest (All-tail (λ (token : Token). token.kind ≢ End) token (front ++ rest) none) e

-- a description with no end in it goes to its last token, and there as many levels may be opened as at the beginning
whole_part : (before : List Token) (given : Description) → Parses before given → HasNoEnd before → g.description most_levels (input most_levels before) given (input most_levels [])
whole_part before given s none =
    let stops : is_one_of (kind.ProcedureWord ∷ []) (next s.rest) ≡ false = ap (is_one_of (kind.ProcedureWord ∷ [])) s.at_end ∙ no_end_begins in
    let t = taken (description_full most_levels).laws (input most_levels before) given (input s.unclosed s.rest) s.spelled stops in
    let nothing : s.rest ≡ [] = nothing_left t.front s.rest (subst HasNoEnd t.is_front none) s.at_end in
    let levels : most_levels ≡ s.unclosed = (description_balanced most_levels).levels (input most_levels before) given (input s.unclosed s.rest) s.spelled in
    subst (λ rest. g.description most_levels (input most_levels before) given (input most_levels rest)) nothing
    (subst (λ unclosed. g.description most_levels (input most_levels before) given (input unclosed s.rest)) (sym levels) s.spelled)

-- ---- where a rest stands

end_behind : (before : List Token) (token : Token) (more : List Token) → end_of (before ++ token ∷ more) ≡ end_of (token ∷ more)
end_behind [] token more = refl
end_behind (a ∷ []) token more = refl
end_behind (a ∷ b ∷ before) token more = end_behind (b ∷ before) token more

offset_behind : (before part rest : List Token) → is_one_of (kind.ProcedureWord ∷ []) (next part) ≡ true → offset_at (before ++ part) rest ≡ offset_at part rest
offset_behind before [] rest begins = absurd (false≢true (sym no_end_begins ∙ begins))
offset_behind before (first ∷ part) [] begins = end_behind before first part
offset_behind before (first ∷ part) (token ∷ rest) begins = refl

-- ---- the laws

procedure_first : (part : List Token) → BeginsProcedure part → is_one_of (kind.ProcedureWord ∷ []) (next part) ≡ true
unfolding same_kind
procedure_first [] begins = absurd begins
procedure_first (token ∷ rest) begins = ap (is_one_of (kind.ProcedureWord ∷ [])) begins

module _ (part : List Token) (begins : BeginsProcedure part) where
  part_outcome : outcome part ≡ and_then (and_then (r.procedures most_levels (input most_levels part)) (described [])) to_end
  unfolding whole
  part_outcome = ap (λ o. and_then o to_end) (description_alone most_levels part (procedure_first part begins) most_levels)

  -- reading goes on behind a description as in the part alone
  outcome_on : (before : List Token) (given : Description) → Parses before given → HasNoEnd before → outcome (before ++ part) ≡ and_then (outcome part) (joining given)
  unfolding whole
  outcome_on before given s none =
      let first : is_one_of (kind.ProcedureWord ∷ []) (next part) ≡ true = procedure_first part begins in
      let alone : Outcome (List Procedure) = r.procedures most_levels (input most_levels part) in
      ap (λ o. and_then o to_end)
      (description_on most_levels part first (input most_levels before) given (input most_levels []) (whole_part before given s none)
      ∙ ap (λ o. and_then o (described given.types)) (procedures_behind most_levels part first given.procedures most_levels)
      ∙ join_described given alone)
      ∙ outcome_joined given (and_then alone (described []))
      ∙ ap (λ o. and_then o (joining given)) (sym part_outcome)

refused_behind : (before part : List Token) (given : Description) → outcome (before ++ part) ≡ and_then (outcome part) (joining given) → BeginsProcedure part → (fault : Fault) → IsRefused part fault → IsRefused (before ++ part) fault
refused_behind before part given same begins Memory refusal = absurd refusal
refused_behind before part given same begins (Unexpected offset) refusal =
    let found = every_unexpected part offset refusal in
    subst (FirstUnexpected (before ++ part)) (offset_behind before part found.0 (procedure_first part begins) ∙ sym found.2)
    (unexpected_first (before ++ part) found.0 (same ∙ ap (λ o. and_then o (joining given)) found.1))
refused_behind before part given same begins (TooDeep offset) refusal =
    let found = every_too_deep part offset refusal in
    subst (FirstTooDeep (before ++ part)) (offset_behind before part found.0 (procedure_first part begins) ∙ sym found.2)
    (too_deep_first (before ++ part) found.0 (same ∙ ap (λ o. and_then o (joining given)) found.1))

-- Behind a description with no end in it a part is what it is alone.
pub opens : (before : List Token) (given : Description) → Parses before given → HasNoEnd before → Opens before given
opens before given s none = record {
  parses = λ part begins more p.
      let found = every_description part more p in
      parsed (before ++ part) (joined given more) found.0 (outcome_on part begins before given s none ∙ ap (λ o. and_then o (joining given)) found.1);
  refused = λ part begins fault refusal. refused_behind before part given (outcome_on part begins before given s none) begins fault refusal;
}

pub begins_on : (part later : List Token) → BeginsProcedure part → BeginsProcedure (part ++ later)
begins_on [] later begins = absurd begins
begins_on (token ∷ part) later begins = begins

joined_twice : (given more most : Description) → joined given (joined more most) ≡ joined (joined given more) most
joined_twice given more most =
    let with : List Procedure → Description = λ procedures. record { types = given.types; procedures = procedures } in
    ap with (sym (append_assoc given.procedures more.procedures most.procedures))

-- So it is with one part more.
pub opens_on :
    (before : List Token) (given : Description) (part : List Token) (more : Description) → Opens before given → BeginsProcedure part → Parses part more → HasNoEnd part →
    Opens (before ++ part) (joined given more)
opens_on before given part more opened begins p none =
    let last = opens part more p none in
    record {
      parses = λ later begins' most s.
          subst (λ tokens. Parses tokens (joined (joined given more) most)) (sym (append_assoc before part later))
          (subst (Parses (before ++ (part ++ later))) (joined_twice given more most)
          (opened.parses (part ++ later) (begins_on part later begins) (joined more most) (last.parses later begins' most s)));
      refused = λ later begins' fault refusal.
          subst (λ tokens. IsRefused tokens fault) (sym (append_assoc before part later))
          (opened.refused (part ++ later) (begins_on part later begins) fault (last.refused later begins' fault refusal));
    }
