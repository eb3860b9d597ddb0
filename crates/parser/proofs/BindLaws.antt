-- The laws of one reader after another.
use Rattle.std.proofs.Common.{◌≡◌, ◌⊎◌, inl, inr, ℕ, suc, Bool, true, false, ◌&&◌, cond, List, [], ◌∷◌, ◌++◌, refl, sym, ◌∙◌, ap, subst, append_assoc}
use Rattle.lexer.specs.declared.token.Kind.{Kind}
use Rattle.lexer.specs.declared.token.Token.{Token}
use Rattle.parser.specs.Input.{Input, input, next, is_one_of}
use Rattle.parser.specs.Rules.{Rule, bind as bind_rule}
use Rattle.parser.specs.internal.Readers.{Reader, Outcome, read, unexpected, too_deep, and_then, bind}
use Rattle.parser.proofs.Laws.{up, Completed, HasSentence, Taken, Halt, at_unexpected, at_too_deep, halted, Halted, Deeper, Traced, Complete, Alike, Grows, Starts, Laws, Full}
use Rattle.parser.proofs.FrontLemmas.{next_behind, joined}
use Rattle.parser.proofs.Membership.{none_in, stranger, in_first, in_second, in_neither}

pub begun_or : {A : Type 0} (g : Rule A) (levels : ℕ) (front : List Token) → (front ≡ []) ⊎ Completed g levels front → HasSentence g → Completed g levels front
begun_or g levels front (inl none) possible = subst (λ t. Completed g levels t) (sym none) (possible.sentence levels)
begun_or g levels front (inr begun) possible = begun

module _ {A B : Type 0} (g : Rule A) (f : A → Rule B) where
  pub completed_first : (levels : ℕ) (front : List Token) → Completed g levels front → ((a : A) → HasSentence (f a)) → Completed (bind_rule g f) levels front
  unfolding bind_rule
  completed_first levels front begun possible =
      let ending : Completed (f begun.value) begun.unclosed [] = (possible begun.value).sentence begun.unclosed in
      record {
        tail = begun.tail ++ ending.tail;
        value = ending.value;
        unclosed = ending.unclosed;
        spelled = λ rest. (
          begun.value,
          input begun.unclosed (ending.tail ++ rest),
          subst (λ t. g (input levels (front ++ t)) begun.value (input begun.unclosed (ending.tail ++ rest))) (sym (append_assoc begun.tail ending.tail rest)) (begun.spelled (ending.tail ++ rest)),
          ending.spelled rest,
        );
      }

  pub completed_second :
      (levels unclosed : ℕ) (a : A) (first second : List Token) → ((rest : List Token) → g (input levels (first ++ rest)) a (input unclosed rest)) →
      Completed (f a) unclosed second → Completed (bind_rule g f) levels (first ++ second)
  unfolding bind_rule
  completed_second levels unclosed a first second spelled ending = record {
    tail = ending.tail;
    value = ending.value;
    unclosed = ending.unclosed;
    spelled = λ rest. (
      a,
      input unclosed (second ++ (ending.tail ++ rest)),
      subst (λ t. g (input levels t) a (input unclosed (second ++ (ending.tail ++ rest)))) (sym (append_assoc first second (ending.tail ++ rest))) (spelled (second ++ (ending.tail ++ rest))),
      ending.spelled rest,
    );
  }

and_then_halted : {A B : Type 0} (halt : Halt) (rest : List Token) (f : A → Reader B) → and_then (halted halt rest) f ≡ halted halt rest
and_then_halted at_unexpected rest f = refl
and_then_halted at_too_deep rest f = refl

module _ {A B : Type 0} (r : Reader A) (f : A → Reader B) (g : Rule A) (h : A → Rule B) (i : Input) where
  halted_first : (halt : Halt) (rest : List Token) → Halted r g i halt rest → ((front : List Token) → Completed g i.levels front → Completed (bind_rule g h) i.levels front) → Halted (bind r f) (bind_rule g h) i halt rest
  unfolding bind
  halted_first halt rest first lift = record {
    front = first.front;
    is_front = first.is_front;
    begun = elim first.begun [ inl none ↦ inl none | inr begun ↦ inr (lift first.front begun) ];
    local = λ other e. ap (λ o. and_then o f) (first.local other e) ∙ and_then_halted halt other f;
  }

  module _ (a : A) (j : Input) (first : Taken r g i a j) where
    locally : (front other : List Token) (o : Outcome B) → next (front ++ other) ≡ next j.tokens → f a (input j.levels (front ++ other)) ≡ o → bind r f (input i.levels ((first.front ++ front) ++ other)) ≡ o
    unfolding bind
    locally front other o same second =
        ap (λ t. and_then (r (input i.levels t)) f) (append_assoc first.front front other) ∙ ap (λ o. and_then o f) (first.local (front ++ other) same) ∙ second

    taken_second : (b : B) (k : Input) → Taken (f a) (h a) j b k → Taken (bind r f) (bind_rule g h) i b k
    unfolding bind_rule
    taken_second b k second = record {
      front = first.front ++ second.front;
      is_front = joined first.front second.front k.tokens i.tokens j.tokens first.is_front second.is_front;
      spelled = λ rest. (
        a,
        input j.levels (second.front ++ rest),
        subst (λ t. g (input i.levels t) a (input j.levels (second.front ++ rest))) (sym (append_assoc first.front second.front rest)) (first.spelled (second.front ++ rest)),
        second.spelled rest,
      );
      local = λ rest e. locally second.front rest (read b (input k.levels rest)) (next_behind second.front rest k.tokens e ∙ ap next (sym second.is_front)) (second.local rest e);
    }

    halted_second : (halt : Halt) (rest : List Token) → Halted (f a) (h a) j halt rest → HasSentence (h a) → Halted (bind r f) (bind_rule g h) i halt rest
    halted_second halt rest second possible = record {
      front = first.front ++ second.front;
      is_front = joined first.front second.front rest i.tokens j.tokens first.is_front second.is_front;
      begun = inr (completed_second g h i.levels j.levels a first.front second.front first.spelled (begun_or (h a) j.levels second.front second.begun possible));
      local = λ other e. locally second.front other (halted halt other) (next_behind second.front other rest e ∙ ap next (sym second.is_front)) (second.local other e);
    }

-- the trace of one reader after another, at one place
module _ {A B : Type 0} (r : Reader A) (f : A → Reader B) (g g' : Rule A) (h h' : A → Rule B) (i : Input) where
  deeper_first :
      (rest : List Token) → Deeper r g g' i rest → ((front : List Token) → Completed g i.levels front → Completed (bind_rule g h) i.levels front) → ((a : A) → HasSentence (h' a)) →
      Deeper (bind r f) (bind_rule g h) (bind_rule g' h') i rest
  unfolding halted_first
  deeper_first rest first lift possible' = record {
    halt = halted_first r f g h i at_too_deep rest first.halt lift;
    token = first.token;
    more = first.more;
    is_rest = first.is_rest;
    completed = completed_first g' h' (suc i.levels) (first.halt.front ++ first.token ∷ []) first.completed possible';
  }

  deeper_second :
      (a : A) (j : Input) (first : Taken r g i a j) → ((rest : List Token) → g' (input (suc i.levels) (first.front ++ rest)) a (input (suc j.levels) rest)) →
      (rest : List Token) → Deeper (f a) (h a) (h' a) j rest → HasSentence (h a) → Deeper (bind r f) (bind_rule g h) (bind_rule g' h') i rest
  unfolding halted_second
  deeper_second a j first spelled' rest second possible = record {
    halt = halted_second r f g h i a j first at_too_deep rest second.halt possible;
    token = second.token;
    more = second.more;
    is_rest = second.is_rest;
    completed = subst (λ t. Completed (bind_rule g' h') (suc i.levels) t) (sym (append_assoc first.front second.halt.front (second.token ∷ [])))
        (completed_second g' h' (suc i.levels) (suc j.levels) a first.front (second.halt.front ++ second.token ∷ []) spelled' second.completed);
  }

  module _ (grown : (i : Input) (a : A) (j : Input) → g i a j → g' (up i) a (up j)) where
    traced_second : (a : A) (j : Input) → Taken r g i a j → (o : Outcome B) → HasSentence (h a) → Traced (f a) (h a) (h' a) j o → Traced (bind r f) (bind_rule g h) (bind_rule g' h') i o
    traced_second a j first (read b k) possible second = taken_second r f g h i a j first b k second
    traced_second a j first (unexpected rest) possible second = halted_second r f g h i a j first at_unexpected rest second possible
    traced_second a j first (too_deep rest) possible second =
        deeper_second a j first (λ rest. grown (input i.levels (first.front ++ rest)) a (input j.levels rest) (first.spelled rest)) rest second possible

    traced_first :
        ((front : List Token) → Completed g i.levels front → Completed (bind_rule g h) i.levels front) → ((a : A) → HasSentence (h' a)) → (o : Outcome A) → Traced r g g' i o →
        ((a : A) (j : Input) → o ≡ read a j → HasSentence (h a)) → ((a : A) (j : Input) → o ≡ read a j → Traced (f a) (h a) (h' a) j (f a j)) →
        Traced (bind r f) (bind_rule g h) (bind_rule g' h') i (and_then o f)
    traced_first lift possible' (read a j) first possible second = traced_second a j first (f a j) (possible a j refl) (second a j refl)
    traced_first lift possible' (unexpected rest) first possible second = halted_first r f g h i at_unexpected rest first lift
    traced_first lift possible' (too_deep rest) first possible second = deeper_first rest first lift possible'

    pub bind_traced :
        ((front : List Token) → Completed g i.levels front → Completed (bind_rule g h) i.levels front) → ((a : A) → HasSentence (h' a)) → Traced r g g' i (r i) →
        ((a : A) (j : Input) → r i ≡ read a j → HasSentence (h a)) → ((a : A) (j : Input) → r i ≡ read a j → Traced (f a) (h a) (h' a) j (f a j)) →
        Traced (bind r f) (bind_rule g h) (bind_rule g' h') i (bind r f i)
    unfolding bind
    bind_traced lift possible' first possible second = traced_first lift possible' (r i) first possible second

pub alike_second :
    {A B : Type 0} (f f' : A → Reader B) (o o' : Outcome A) → Alike o o' → ((a : A) (j : Input) → o ≡ read a j → Alike (f a j) (f' a (up j))) →
    Alike (and_then o f) (and_then o' f')
alike_second f f' (read a j) o' same second = subst (λ o. Alike (f a j) (and_then o f')) (sym same) (second a j refl)
alike_second f f' (unexpected rest) o' same second = ap (λ o. and_then o f') same
alike_second f f' (too_deep rest) o' same second = tt

bind_grows :
    {A B : Type 0} {r r' : Reader A} {f f' : A → Reader B} {g g' : Rule A} {h h' : A → Rule B} → Grows r r' g g' → ((a : A) → Grows (f a) (f' a) (h a) (h' a)) →
    Grows (bind r f) (bind r' f') (bind_rule g h) (bind_rule g' h')
unfolding bind bind_rule
bind_grows {r} {r'} {f} {f'} first second = record {
  reads = λ i. alike_second f f' (r i) (r' (up i)) (first.reads i) (λ a j e. (second a).reads j);
  spells = λ i b k s. (s.0, up s.1, first.spells i s.0 s.1 s.2, (second s.0).spells s.1 b k s.3);
}

skipping :
    (start : List Kind) (empty : Bool) (i j : Input) → empty ≡ true → i.tokens ≡ j.tokens → is_one_of start (next j.tokens) ≡ true →
    is_one_of (cond empty start []) (next i.tokens) ≡ true
skipping start empty i j e same begins = rw (e, same) begins

both_empty : (a b : Bool) → a ≡ true → b ≡ true → a && b ≡ true
both_empty a b e f = rw (e, f) refl

bind_starts :
    {A B : Type 0} {g : Rule A} {h : A → Rule B} {start start' : List Kind} {empty empty' : Bool} → Starts g start empty → ((a : A) → Starts (h a) start' empty') →
    Starts (bind_rule g h) (start ++ cond empty start' []) (empty && empty')
unfolding bind_rule
bind_starts {start} {start'} {empty} {empty'} first second = record {
  starts = λ i b k s. elim (first.starts i s.0 s.1 s.2) [
    | inl begins ↦ inl (in_first start (cond empty start' []) (next i.tokens) begins)
    | inr skipped ↦ elim ((second s.0).starts s.1 b k s.3) [
      | inl begins ↦ inl (in_second start (cond empty start' []) (next i.tokens) (skipping start' empty i s.1 skipped.0 skipped.1 begins))
      | inr both ↦ inr (both_empty empty empty' skipped.0 both.0, skipped.1 ∙ both.1)
    ]
  ];
}

pub passing :
    (follow : List Kind) (empty : Bool) (j k : Input) → empty ≡ true → j.tokens ≡ k.tokens → is_one_of (cond empty follow []) (next k.tokens) ≡ false →
    is_one_of follow (next j.tokens) ≡ false
passing follow empty j k e same stops = rw same (rw e at stops)

bind_complete :
    {A B : Type 0} {r : Reader A} {f : A → Reader B} {g : Rule A} {h : A → Rule B} {follow follow' start : List Kind} {empty : Bool} →
    Complete r g follow → ((a : A) → Complete (f a) (h a) follow') → ((a : A) → Starts (h a) start empty) → none_in start follow ≡ true →
    Complete (bind r f) (bind_rule g h) (follow' ++ cond empty follow [])
unfolding bind bind_rule
bind_complete {f} {follow} {follow'} {start} {empty} first second starts apart = record {
  complete = λ i b k s stops.
      let stopped = in_neither follow' (cond empty follow []) (next k.tokens) stops in
      let between : is_one_of follow (next (s.1).tokens) ≡ false = (elim ((starts s.0).starts s.1 b k s.3) [
        | inl begins ↦ stranger start follow (next (s.1).tokens) apart begins
        | inr skipped ↦ passing follow empty s.1 k skipped.0 skipped.1 stopped.1
      ]) in
      ap (λ o. and_then o f) (first.complete i s.0 s.1 s.2 between) ∙ (second s.0).complete s.1 b k s.3 stopped.0;
}

-- The first may be one that opens a level: then so does the whole.
pub bind_laws :
    {A B : Type 0} {r r' : Reader A} {f f' : A → Reader B} {g g' : Rule A} {h h' : A → Rule B} {start start' follow follow' : List Kind} {empty empty' : Bool} →
    Laws r r' g g' start empty follow → ((a : A) → Full (f a) (f' a) (h a) (h' a) start' empty' follow') → none_in start' follow ≡ true →
    Laws (bind r f) (bind r' f') (bind_rule g h) (bind_rule g' h') (start ++ cond empty start' []) (empty && empty') (follow' ++ cond empty' follow [])
bind_laws {r} {f} {g} {g'} {h} {h'} first second apart = record {
  trace = record { trace = λ i. bind_traced r f g g' h h' i first.grows.spells (λ front begun. completed_first g h i.levels front begun (λ a. (second a).here)) (λ a. (second a).deeper) (first.trace.trace i) (λ a j e. (second a).here) (λ a j e. (second a).laws.trace.trace j) };
  complete = bind_complete first.complete (λ a. (second a).laws.complete) (λ a. (second a).laws.starts) apart;
  grows = bind_grows first.grows (λ a. (second a).laws.grows);
  starts = bind_starts first.starts (λ a. (second a).laws.starts);
}

pub bind_sentence : {A B : Type 0} {g : Rule A} {h : A → Rule B} → HasSentence g → ((a : A) → HasSentence (h a)) → HasSentence (bind_rule g h)
bind_sentence {g} {h} first second = record { sentence = λ levels. completed_first g h levels [] (first.sentence levels) second }

-- the first one spells something without opening a level, and so does the whole
pub bind_full :
    {A B : Type 0} {r r' : Reader A} {f f' : A → Reader B} {g g' : Rule A} {h h' : A → Rule B} {start start' follow follow' : List Kind} {empty empty' : Bool} →
    Full r r' g g' start empty follow → ((a : A) → Full (f a) (f' a) (h a) (h' a) start' empty' follow') → none_in start' follow ≡ true →
    Full (bind r f) (bind r' f') (bind_rule g h) (bind_rule g' h') (start ++ cond empty start' []) (empty && empty') (follow' ++ cond empty' follow [])
bind_full first second apart = record {
  laws = bind_laws first.laws second apart;
  here = bind_sentence first.here (λ a. (second a).here);
  deeper = bind_sentence first.deeper (λ a. (second a).deeper);
}
