-- The laws of turns.
use Rattle.std.proofs.Common.{◌≡◌, ◌⊎◌, inl, inr, ℕ, zero, suc, ◌+◌, ◌≤◌, ◌<◌, true, false, List, [], ◌∷◌, ◌++◌, length, length-append, refl, sym, ◌∙◌, ap, subst, arith}
use Rattle.std.proofs.lemmas.Bool.{cases_Bool, false≢true}
use Rattle.lexer.specs.declared.token.Kind.{Kind}
use Rattle.lexer.specs.declared.token.Kind.TheVariants.{End}
use Rattle.lexer.specs.declared.token.Token.{Token}
use Rattle.parser.specs.Input.{Input, input, next, is_one_of}
use Rattle.parser.specs.Rules.{Rule, bind as bind_rule, pure as pure_rule, turns, repeat as repeat_rule}
use Rattle.parser.specs.internal.Readers.{Reader, Outcome, read, unexpected, too_deep, and_then, bind, pure, branch, repeat, repeat_from}
use Rattle.parser.proofs.Laws.{up, HasSentence, Taken, Traced, Alike, Starts, Laws, Full}
use Rattle.parser.proofs.Membership.{all_in, none_in, member, stranger, in_neither}
use Rattle.parser.proofs.BindLaws.{bind_traced, completed_first, alike_second}
use Rattle.parser.proofs.TakeLaws.{pure_laws}
use Rattle.parser.proofs.ChoiceLaws.{traced_alike, alike_if, branch_first, branch_second}

and_then_same : {A B : Type 0} (f f' : A → Reader B) (o : Outcome A) → ((a : A) (j : Input) → o ≡ read a j → f a j ≡ f' a j) → and_then o f ≡ and_then o f'
and_then_same f f' (read a j) same = same a j refl
and_then_same f f' (unexpected rest) same = refl
and_then_same f f' (too_deep rest) same = refl

some_front : (front rest whole : List Token) → whole ≡ front ++ rest → (front ≡ [] → ⊥) → length rest < length whole
some_front [] rest whole e some = absurd (some refl)
some_front (token ∷ front) rest whole e some =
    let lengths : length whole ≡ length (token ∷ (front ++ rest)) = ap length e in
    let sum : length (front ++ rest) ≡ length front + length rest = length-append front rest in
    omega arith

-- What was read is not empty where no sentence of the rule is.
taken_some :
    {A : Type 0} (r : Reader A) (g : Rule A) (start : List Kind) (i : Input) (a : A) (j : Input) → Starts g start false → is_one_of start End ≡ false → Taken r g i a j → length j.tokens < length i.tokens
taken_some r g start i a j starts ends t = some_front t.front j.tokens i.tokens t.is_front (λ none.
    let empty : g (input i.levels []) a (input j.levels []) = subst (λ front. g (input i.levels (front ++ [])) a (input j.levels [])) none (t.spelled []) in
    elim (starts.starts (input i.levels []) a (input j.levels []) empty) [
      | inl begins ↦ false≢true (sym ends ∙ begins)
      | inr skipped ↦ false≢true skipped.0
    ])

pub shorter :
    {A : Type 0} {r r' : Reader A} {g g' : Rule A} {start follow : List Kind} → Laws r r' g g' start false follow → is_one_of start End ≡ false →
    (i : Input) (a : A) (j : Input) → r i ≡ read a j → length j.tokens < length i.tokens
shorter {r} {g} {g'} {start} laws ends i a j e = taken_some r g start i a j laws.starts ends (subst (λ o. Traced r g g' i o) e (laws.trace.trace i))

nonempty : (kinds : List Kind) (tokens : List Token) → is_one_of kinds End ≡ false → is_one_of kinds (next tokens) ≡ true → 0 < length tokens
nonempty kinds [] ends is = absurd (false≢true (sym ends ∙ is))
nonempty kinds (token ∷ rest) ends is = omega arith

module _ {A : Type 0} (kinds : List Kind) (turn : A → Reader A) where
  from_stops : (n : ℕ) (a : A) (i : Input) → is_one_of kinds (next i.tokens) ≡ false → repeat_from kinds turn n a i ≡ read a i
  unfolding pure
  from_stops zero a i other = refl
  from_stops (suc n) a i other = branch_second kinds (bind (turn a) (repeat_from kinds turn n)) (pure a) i other

  from_turns : (n : ℕ) (a : A) (i : Input) → is_one_of kinds (next i.tokens) ≡ true → repeat_from kinds turn (suc n) a i ≡ and_then (turn a i) (repeat_from kinds turn n)
  unfolding bind
  from_turns n a i is = branch_first kinds (bind (turn a) (repeat_from kinds turn n)) (pure a) i is

  pub repeat_stops : (a : A) (i : Input) → is_one_of kinds (next i.tokens) ≡ false → repeat kinds turn a i ≡ pure a i
  unfolding repeat pure
  repeat_stops a i other = from_stops (length i.tokens) a i other

  module _ (ends : is_one_of kinds End ≡ false) (shrinks : (a : A) (i : Input) (b : A) (j : Input) → turn a i ≡ read b j → length j.tokens < length i.tokens) where
    -- so many turns as there are tokens, or more, make no difference
    enough : (n m : ℕ) (a : A) (i : Input) → length i.tokens ≤ n → length i.tokens ≤ m → repeat_from kinds turn n a i ≡ repeat_from kinds turn m a i
    enough zero m a i few few' = elim (cases_Bool (is_one_of kinds (next i.tokens))) [
      | inl is ↦ (let some : 0 < length i.tokens = nonempty kinds i.tokens ends is in absurd (omega arith))
      | inr other ↦ from_stops zero a i other ∙ sym (from_stops m a i other)
    ]
    enough (suc n) zero a i few few' = elim (cases_Bool (is_one_of kinds (next i.tokens))) [
      | inl is ↦ (let some : 0 < length i.tokens = nonempty kinds i.tokens ends is in absurd (omega arith))
      | inr other ↦ from_stops (suc n) a i other ∙ sym (from_stops zero a i other)
    ]
    enough (suc n) (suc m) a i few few' = elim (cases_Bool (is_one_of kinds (next i.tokens))) [
      | inl is ↦
          from_turns n a i is
          ∙ and_then_same (repeat_from kinds turn n) (repeat_from kinds turn m) (turn a i)
          (λ b j e. (let less : length j.tokens < length i.tokens = shrinks a i b j e in enough n m b j (omega arith) (omega arith)))
          ∙ sym (from_turns m a i is)
      | inr other ↦ from_stops (suc n) a i other ∙ sym (from_stops (suc m) a i other)
    ]

    turns_at : (n : ℕ) (a : A) (i : Input) → length i.tokens ≡ n → is_one_of kinds (next i.tokens) ≡ true → repeat_from kinds turn n a i ≡ and_then (turn a i) (λ b j. repeat_from kinds turn (length j.tokens) b j)
    turns_at zero a i e is = (let some : 0 < length i.tokens = nonempty kinds i.tokens ends is in absurd (omega arith))
    turns_at (suc n) a i e is =
        from_turns n a i is
        ∙ and_then_same (repeat_from kinds turn n) (λ b j. repeat_from kinds turn (length j.tokens) b j) (turn a i)
        (λ b j f. (let less : length j.tokens < length i.tokens = shrinks a i b j f in enough n (length j.tokens) b j (omega arith) (omega arith)))

    pub repeat_turns : (a : A) (i : Input) → is_one_of kinds (next i.tokens) ≡ true → repeat kinds turn a i ≡ bind (turn a) (repeat kinds turn) i
    unfolding repeat bind
    repeat_turns a i is = turns_at (length i.tokens) a i refl is

one_turn : {A : Type 0} (g : A → Rule A) (a : A) (i : Input) (b : A) (j : Input) → bind_rule (g a) (repeat_rule g) i b j → repeat_rule g a i b j
unfolding bind_rule repeat_rule
one_turn g a i b j s = (suc s.3.0, (s.0, s.1, s.2, s.3.1))

no_turn : {A : Type 0} (g : A → Rule A) (a : A) (i : Input) (b : A) (j : Input) → pure_rule a i b j → repeat_rule g a i b j
unfolding repeat_rule
no_turn g a i b j s = (0, s)

pub repeat_sentence : {A : Type 0} (g : A → Rule A) (a : A) → HasSentence (repeat_rule g a)
unfolding repeat_rule pure_rule
repeat_sentence g a = record { sentence = λ levels. record { tail = []; value = a; unclosed = levels; spelled = λ rest. (0, (refl, refl)) } }

module _ {A : Type 0} (kinds : List Kind) {turn turn' : A → Reader A} {g g' : A → Rule A} {start follow : List Kind}
    (laws : (a : A) → Laws (turn a) (turn' a) (g a) (g' a) start false follow) (ends : is_one_of kinds End ≡ false) (inner : all_in start kinds ≡ true) (apart : none_in start follow ≡ true) where
  no_end : is_one_of start End ≡ false
  no_end = elim (cases_Bool (is_one_of start End)) [
    | inl is ↦ absurd (false≢true (sym ends ∙ member start kinds End inner is))
    | inr other ↦ other
  ]

  shrinks : (a : A) (i : Input) (b : A) (j : Input) → turn a i ≡ read b j → length j.tokens < length i.tokens
  shrinks a i b j e = shorter (laws a) no_end i b j e

  stopped_traced : (a : A) (i : Input) → is_one_of kinds (next i.tokens) ≡ false → Traced (repeat kinds turn a) (repeat_rule g a) (repeat_rule g' a) i (repeat kinds turn a i)
  stopped_traced a i other =
      traced_alike (pure a) (repeat kinds turn a) (pure_rule a) (pure_rule a) (repeat_rule g a) (repeat_rule g' a) i
      (λ j same. repeat_stops kinds turn a j (ap (is_one_of kinds) same ∙ other)) (no_turn g a) (no_turn g' a) ((pure_laws a).trace.trace i)

  turned_traced :
      (a : A) (i : Input) → is_one_of kinds (next i.tokens) ≡ true →
      ((b : A) (j : Input) → turn a i ≡ read b j → Traced (repeat kinds turn b) (repeat_rule g b) (repeat_rule g' b) j (repeat kinds turn b j)) →
      Traced (repeat kinds turn a) (repeat_rule g a) (repeat_rule g' a) i (repeat kinds turn a i)
  turned_traced a i is later =
      traced_alike (bind (turn a) (repeat kinds turn)) (repeat kinds turn a) (bind_rule (g a) (repeat_rule g)) (bind_rule (g' a) (repeat_rule g')) (repeat_rule g a) (repeat_rule g' a) i
      (λ j same. repeat_turns kinds turn ends shrinks a j (ap (is_one_of kinds) same ∙ is)) (one_turn g a) (one_turn g' a)
      (bind_traced (turn a) (repeat kinds turn) (g a) (g' a) (repeat_rule g) (repeat_rule g') i (laws a).grows.spells
      (λ front begun. completed_first (g a) (repeat_rule g) i.levels front begun (repeat_sentence g)) (repeat_sentence g') ((laws a).trace.trace i)
      (λ b j e. repeat_sentence g b) later)

  repeat_traced : (n : ℕ) (a : A) (i : Input) → length i.tokens ≤ n → Traced (repeat kinds turn a) (repeat_rule g a) (repeat_rule g' a) i (repeat kinds turn a i)
  repeat_traced zero a i few = elim (cases_Bool (is_one_of kinds (next i.tokens))) [
    | inl is ↦ (let some : 0 < length i.tokens = nonempty kinds i.tokens ends is in absurd (omega arith))
    | inr other ↦ stopped_traced a i other
  ]
  repeat_traced (suc n) a i few = elim (cases_Bool (is_one_of kinds (next i.tokens))) [
    | inl is ↦ turned_traced a i is (λ b j e. (let less : length j.tokens < length i.tokens = shrinks a i b j e in repeat_traced n b j (omega arith)))
    | inr other ↦ stopped_traced a i other
  ]

  turns_start : (n : ℕ) (a : A) (i : Input) (b : A) (j : Input) → turns g n a i b j → (is_one_of start (next i.tokens) ≡ true) ⊎ ((true ≡ true) × (i.tokens ≡ j.tokens))
  unfolding pure_rule bind_rule
  turns_start zero a i b j s = inr (refl, ap (λ i. i.tokens) s.1)
  turns_start (suc n) a i b j s = elim ((laws a).starts.starts i s.0 s.1 s.2) [
    | inl begins ↦ inl begins
    | inr skipped ↦ absurd (false≢true skipped.0)
  ]

  -- between two turns, and behind the last one, the turn before doesn't go on
  between : (n : ℕ) (a : A) (i : Input) (b : A) (j : Input) → turns g n a i b j → is_one_of follow (next j.tokens) ≡ false → is_one_of follow (next i.tokens) ≡ false
  between n a i b j s stops = elim (turns_start n a i b j s) [
    | inl begins ↦ stranger start follow (next i.tokens) apart begins
    | inr skipped ↦ ap (λ tokens. is_one_of follow (next tokens)) skipped.1 ∙ stops
  ]

  turns_read : (n : ℕ) (a : A) (i : Input) (b : A) (j : Input) → turns g n a i b j → is_one_of kinds (next j.tokens) ≡ false → is_one_of follow (next j.tokens) ≡ false → repeat kinds turn a i ≡ read b j
  unfolding pure_rule bind_rule pure bind
  turns_read zero a i b j s stops stops' =
      repeat_stops kinds turn a i (ap (λ i. is_one_of kinds (next i.tokens)) s.1 ∙ stops) ∙ ap (λ a. read a i) s.0 ∙ ap (λ i. read b i) s.1
  turns_read (suc n) a i b j s stops stops' =
      let begins : is_one_of start (next i.tokens) ≡ true = (elim ((laws a).starts.starts i s.0 s.1 s.2) [ inl begins ↦ begins | inr skipped ↦ absurd (false≢true skipped.0) ]) in
      repeat_turns kinds turn ends shrinks a i (member start kinds (next i.tokens) inner begins)
      ∙ ap (λ o. and_then o (repeat kinds turn)) ((laws a).complete.complete i s.0 s.1 s.2 (between n s.0 s.1 b j s.3 stops'))
      ∙ turns_read n s.0 s.1 b j s.3 stops stops'

  turns_alike : (n : ℕ) (a : A) (i : Input) → Alike (repeat_from kinds turn n a i) (repeat_from kinds turn' n a (up i))
  unfolding pure branch bind
  turns_alike zero a i = refl
  turns_alike (suc n) a i =
      alike_if (is_one_of kinds (next i.tokens)) (bind (turn a) (repeat_from kinds turn n) i) (pure a i) (bind (turn' a) (repeat_from kinds turn' n) (up i)) (pure a (up i))
      (alike_second (repeat_from kinds turn n) (repeat_from kinds turn' n) (turn a i) (turn' a (up i)) ((laws a).grows.reads i) (λ b j e. turns_alike n b j)) refl

  turns_spell : (n : ℕ) (a : A) (i : Input) (b : A) (j : Input) → turns g n a i b j → turns g' n a (up i) b (up j)
  unfolding pure_rule bind_rule
  turns_spell zero a i b j s = (s.0, ap up s.1)
  turns_spell (suc n) a i b j s = (s.0, up s.1, (laws a).grows.spells i s.0 s.1 s.2, turns_spell n s.0 s.1 b j s.3)

  pub repeat_full : (a : A) → Full (repeat kinds turn a) (repeat kinds turn' a) (repeat_rule g a) (repeat_rule g' a) start true (kinds ++ follow)
  unfolding repeat repeat_rule
  repeat_full a = record {
    laws = record {
      trace = record { trace = λ i. repeat_traced (length i.tokens) a i (omega arith) };
      complete = record {
        complete = λ i b j s stops. (let stopped = in_neither kinds follow (next j.tokens) stops in turns_read s.0 a i b j s.1 stopped.0 stopped.1);
      };
      grows = record { reads = λ i. turns_alike (length i.tokens) a i; spells = λ i b j s. (s.0, turns_spell s.0 a i b j s.1) };
      starts = record { starts = λ i b j s. turns_start s.0 a i b j s.1 };
    };
    here = repeat_sentence g a;
    deeper = repeat_sentence g' a;
  }
