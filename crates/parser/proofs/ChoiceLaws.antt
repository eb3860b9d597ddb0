-- The laws of a choice, and of what stands inside its own levels.
use Rattle.std.proofs.Common.{◌≡◌, ◌⊎◌, inl, inr, ℕ, suc, Bool, true, false, cond, List, [], ◌∷◌, ◌++◌, refl, sym, ◌∙◌, ap, subst}
use Rattle.std.specs.Prelude.{if◌then◌else◌}
use Rattle.std.proofs.lemmas.Bool.{cases_Bool, false≢true}
use Rattle.lexer.specs.declared.token.Kind.{Kind}
use Rattle.lexer.specs.declared.token.Token.{Token}
use Rattle.parser.specs.Input.{Input, input, next, is_one_of}
use Rattle.parser.specs.Rules.{Rule, either, inside as inside_rule}
use Rattle.parser.specs.internal.Readers.{Reader, Outcome, read, unexpected, too_deep, and_then, branch, inside}
use Rattle.parser.proofs.Laws.{up, Completed, HasSentence, Taken, Halt, at_unexpected, at_too_deep, halted, Halted, Traced, Alike, Laws, Full}
use Rattle.parser.proofs.FrontLemmas.{next_behind}
use Rattle.parser.proofs.Membership.{all_in, none_in, member, no_member, stranger, in_first, in_second, in_neither}
use Rattle.parser.proofs.BindLaws.{passing}

completed_alike : {A : Type 0} (g h : Rule A) (levels : ℕ) (front : List Token) → ((i : Input) (a : A) (j : Input) → g i a j → h i a j) → Completed g levels front → Completed h levels front
completed_alike g h levels front wider c = record {
  tail = c.tail;
  value = c.value;
  unclosed = c.unclosed;
  spelled = λ rest. wider (input levels (front ++ (c.tail ++ rest))) c.value (input c.unclosed rest) (c.spelled rest);
}

-- one reader in place of another that reads alike before tokens of the kind that stands there
module _ {A : Type 0} (r r2 : Reader A) (g g' h h' : Rule A) (i : Input)
    (same : (j : Input) → next j.tokens ≡ next i.tokens → r2 j ≡ r j) (wider : (i : Input) (a : A) (j : Input) → g i a j → h i a j) where
  taken_alike : (a : A) (j : Input) → Taken r g i a j → Taken r2 h i a j
  taken_alike a j t = record {
    front = t.front;
    is_front = t.is_front;
    spelled = λ rest. wider (input i.levels (t.front ++ rest)) a (input j.levels rest) (t.spelled rest);
    local = λ rest e. same (input i.levels (t.front ++ rest)) (next_behind t.front rest j.tokens e ∙ ap next (sym t.is_front)) ∙ t.local rest e;
  }

  halted_alike : (halt : Halt) (rest : List Token) → Halted r g i halt rest → Halted r2 h i halt rest
  halted_alike halt rest t = record {
    front = t.front;
    is_front = t.is_front;
    begun = elim t.begun [ inl none ↦ inl none | inr begun ↦ inr (completed_alike g h i.levels t.front wider begun) ];
    local = λ other e. same (input i.levels (t.front ++ other)) (next_behind t.front other rest e ∙ ap next (sym t.is_front)) ∙ t.local other e;
  }

  module _ (wider' : (i : Input) (a : A) (j : Input) → g' i a j → h' i a j) where
    outcome_alike : (o : Outcome A) → Traced r g g' i o → Traced r2 h h' i o
    unfolding halted_alike
    outcome_alike (read a j) t = taken_alike a j t
    outcome_alike (unexpected rest) t = halted_alike at_unexpected rest t
    outcome_alike (too_deep rest) t = record {
      halt = halted_alike at_too_deep rest t.halt;
      token = t.token;
      more = t.more;
      is_rest = t.is_rest;
      completed = completed_alike g' h' (suc i.levels) (t.halt.front ++ t.token ∷ []) wider' t.completed;
    }

    pub traced_alike : Traced r g g' i (r i) → Traced r2 h h' i (r2 i)
    traced_alike t = subst (λ o. Traced r2 h h' i o) (sym (same i refl)) (outcome_alike (r i) t)

pub alike_if : {A : Type 0} (b : Bool) (o p o' p' : Outcome A) → Alike o o' → Alike p p' → Alike (if b then o else p) (if b then o' else p')
alike_if true o p o' p' first second = first
alike_if false o p o' p' first second = second

pub branch_first : {A : Type 0} (kinds : List Kind) (p q : Reader A) (i : Input) → is_one_of kinds (next i.tokens) ≡ true → branch kinds p q i ≡ p i
unfolding branch
branch_first kinds p q i e = rw e refl

pub branch_second : {A : Type 0} (kinds : List Kind) (p q : Reader A) (i : Input) → is_one_of kinds (next i.tokens) ≡ false → branch kinds p q i ≡ q i
unfolding branch
branch_second kinds p q i e = rw e refl

module _ {A : Type 0} (kinds : List Kind) {p p' q q' : Reader A} {g g' h h' : Rule A} {start start' follow follow' : List Kind} {empty : Bool}
    (first : Laws p p' g g' start false follow) (second : Full q q' h h' start' empty follow') where
  branch_traced : (i : Input) → Traced (branch kinds p q) (either g h) (either g' h') i (branch kinds p q i)
  unfolding either
  branch_traced i = elim (cases_Bool (is_one_of kinds (next i.tokens))) [
    | inl is ↦
        traced_alike p (branch kinds p q) g g' (either g h) (either g' h') i (λ j same. branch_first kinds p q j (ap (is_one_of kinds) same ∙ is))
        (λ i a j s. inl s) (λ i a j s. inl s) (first.trace.trace i)
    | inr other ↦
        traced_alike q (branch kinds p q) h h' (either g h) (either g' h') i (λ j same. branch_second kinds p q j (ap (is_one_of kinds) same ∙ other))
        (λ i a j s. inr s) (λ i a j s. inr s) (second.laws.trace.trace i)
  ]

  branch_complete :
      all_in start kinds ≡ true → none_in start' kinds ≡ true → (i : Input) (a : A) (j : Input) → g i a j ⊎ h i a j →
      is_one_of (follow ++ (follow' ++ cond empty kinds [])) (next j.tokens) ≡ false → branch kinds p q i ≡ read a j
  branch_complete inner apart i a j (inl s) stops =
      let stopped = in_neither follow (follow' ++ cond empty kinds []) (next j.tokens) stops in
      elim (first.starts.starts i a j s) [
        | inl begins ↦ branch_first kinds p q i (member start kinds (next i.tokens) inner begins) ∙ first.complete.complete i a j s stopped.0
        | inr skipped ↦ absurd (false≢true skipped.0)
      ]
  branch_complete inner apart i a j (inr s) stops =
      let stopped = in_neither follow (follow' ++ cond empty kinds []) (next j.tokens) stops in
      let later = in_neither follow' (cond empty kinds []) (next j.tokens) stopped.1 in
      let other : is_one_of kinds (next i.tokens) ≡ false = (elim (second.laws.starts.starts i a j s) [
        | inl begins ↦ stranger start' kinds (next i.tokens) apart begins
        | inr skipped ↦ passing kinds empty i j skipped.0 skipped.1 later.1
      ]) in
      branch_second kinds p q i other ∙ second.laws.complete.complete i a j s later.0

  branch_spells : (i : Input) (a : A) (j : Input) → g i a j ⊎ h i a j → g' (up i) a (up j) ⊎ h' (up i) a (up j)
  branch_spells i a j (inl s) = inl (first.grows.spells i a j s)
  branch_spells i a j (inr s) = inr (second.laws.grows.spells i a j s)

  branch_starts : (i : Input) (a : A) (j : Input) → g i a j ⊎ h i a j → (is_one_of (start ++ start') (next i.tokens) ≡ true) ⊎ ((empty ≡ true) × (i.tokens ≡ j.tokens))
  branch_starts i a j (inl s) = elim (first.starts.starts i a j s) [
    | inl begins ↦ inl (in_first start start' (next i.tokens) begins)
    | inr skipped ↦ absurd (false≢true skipped.0)
  ]
  branch_starts i a j (inr s) = elim (second.laws.starts.starts i a j s) [
    | inl begins ↦ inl (in_second start start' (next i.tokens) begins)
    | inr skipped ↦ inr skipped
  ]

  -- The first is never empty and may open a level; the second may be empty.
  pub branch_full :
      all_in start kinds ≡ true → none_in start' kinds ≡ true →
      Full (branch kinds p q) (branch kinds p' q') (either g h) (either g' h') (start ++ start') empty (follow ++ (follow' ++ cond empty kinds []))
  unfolding branch either
  branch_full inner apart = record {
    laws = record {
      trace = record { trace = branch_traced };
      complete = record { complete = branch_complete inner apart };
      grows = record { reads = λ i. alike_if (is_one_of kinds (next i.tokens)) (p i) (q i) (p' (up i)) (q' (up i)) (first.grows.reads i) (second.laws.grows.reads i); spells = branch_spells };
      starts = record { starts = branch_starts };
    };
    here = record { sentence = λ levels. completed_alike h (either g h) levels [] (λ i a j s. inr s) (second.here.sentence levels) };
    deeper = record { sentence = λ levels. completed_alike h' (either g' h') levels [] (λ i a j s. inr s) (second.deeper.sentence levels) };
  }

completed_inside : {A : Type 0} (g : Rule A) (levels : ℕ) (front : List Token) → Completed g levels front → Completed (inside_rule g) levels front
unfolding inside_rule
completed_inside g levels front c = record { tail = c.tail; value = c.value; unclosed = levels; spelled = λ rest. (c.unclosed, c.spelled rest, refl) }

module _ {A : Type 0} (r r' : Reader A) (g g' : Rule A) (i : Input) where
  inside_halted : (halt : Halt) (rest : List Token) → Halted r g i halt rest → Halted (inside r) (inside_rule g) i halt rest
  unfolding inside
  inside_halted halt rest t = record {
    front = t.front;
    is_front = t.is_front;
    begun = elim t.begun [ inl none ↦ inl none | inr begun ↦ inr (completed_inside g i.levels t.front begun) ];
    local = λ other e. ap (λ o. and_then o (λ a j. read a (input i.levels j.tokens))) (t.local other e) ∙ stays halt other;
  }
    where
      stays : (halt : Halt) (other : List Token) → and_then (halted {A = A} halt other) (λ a j. read a (input i.levels j.tokens)) ≡ halted halt other
      stays at_unexpected other = refl
      stays at_too_deep other = refl

  inside_outcome : (o : Outcome A) → Traced r g g' i o → Traced (inside r) (inside_rule g) (inside_rule g') i (and_then o (λ a j. read a (input i.levels j.tokens)))
  unfolding inside inside_rule inside_halted
  inside_outcome (read a j) t = record {
    front = t.front;
    is_front = t.is_front;
    spelled = λ rest. (j.levels, t.spelled rest, refl);
    local = λ rest e. ap (λ o. and_then o (λ a j. read a (input i.levels j.tokens))) (t.local rest e);
  }
  inside_outcome (unexpected rest) t = inside_halted at_unexpected rest t
  inside_outcome (too_deep rest) t = record {
    halt = inside_halted at_too_deep rest t.halt;
    token = t.token;
    more = t.more;
    is_rest = t.is_rest;
    completed = completed_inside g' (suc i.levels) (t.halt.front ++ t.token ∷ []) t.completed;
  }

inside_alike : {A : Type 0} (i : Input) (o o' : Outcome A) → Alike o o' → Alike (and_then o (λ a j. read a (input i.levels j.tokens))) (and_then o' (λ a j. read a (input (suc i.levels) j.tokens)))
inside_alike i (read a j) o' same = ap (λ o. and_then o (λ a j. read a (input (suc i.levels) j.tokens))) same
inside_alike i (unexpected rest) o' same = ap (λ o. and_then o (λ a j. read a (input (suc i.levels) j.tokens))) same
inside_alike i (too_deep rest) o' same = tt

inside_reads : {A : Type 0} (r : Reader A) (i : Input) (a : A) (unclosed : ℕ) (j : Input) → r i ≡ read a (input unclosed j.tokens) → i.levels ≡ j.levels → inside r i ≡ read a j
unfolding inside
inside_reads r i a unclosed j e same = ap (λ o. and_then o (λ a j. read a (input i.levels j.tokens))) e ∙ ap (λ n. read a (input n j.tokens)) same

pub inside_full :
    {A : Type 0} {r r' : Reader A} {g g' : Rule A} {start follow : List Kind} {empty : Bool} → Full r r' g g' start empty follow →
    Full (inside r) (inside r') (inside_rule g) (inside_rule g') start empty follow
unfolding inside inside_rule
inside_full {r} {r'} {g} {g'} full = record {
  laws = record {
    trace = record { trace = λ i. inside_outcome r r' g g' i (r i) (full.laws.trace.trace i) };
    complete = record { complete = λ i a j s stops. inside_reads r i a s.0 j (full.laws.complete.complete i a (input s.0 j.tokens) s.1 stops) s.2 };
    grows = record { reads = λ i. inside_alike i (r i) (r' (up i)) (full.laws.grows.reads i); spells = λ i a j s. (suc s.0, full.laws.grows.spells i a (input s.0 j.tokens) s.1, ap suc s.2) };
    starts = record { starts = λ i a j s. full.laws.starts.starts i a (input s.0 j.tokens) s.1 };
  };
  here = record { sentence = λ levels. completed_inside g levels [] (full.here.sentence levels) };
  deeper = record { sentence = λ levels. completed_inside g' levels [] (full.deeper.sentence levels) };
}

widened :
    (start wider : List Kind) (empty : Bool) (i j : Input) → all_in start wider ≡ true → (is_one_of start (next i.tokens) ≡ true) ⊎ ((empty ≡ true) × (i.tokens ≡ j.tokens)) →
    (is_one_of wider (next i.tokens) ≡ true) ⊎ ((empty ≡ true) × (i.tokens ≡ j.tokens))
widened start wider empty i j all (inl begins) = inl (member start wider (next i.tokens) all begins)
widened start wider empty i j all (inr skipped) = inr skipped

-- with more kinds to begin with, and more that may stand behind
pub declared_laws :
    {A : Type 0} {r r' : Reader A} {g g' : Rule A} {start follow start' follow' : List Kind} {empty : Bool} → Laws r r' g g' start empty follow →
    all_in start start' ≡ true → all_in follow follow' ≡ true → Laws r r' g g' start' empty follow'
declared_laws {start} {follow} {start'} {follow'} {empty} laws begins stops = record {
  trace = laws.trace;
  complete = record { complete = λ i a j s other. laws.complete.complete i a j s (no_member follow follow' (next j.tokens) stops other) };
  grows = laws.grows;
  starts = record { starts = λ i a j s. widened start start' empty i j begins (laws.starts.starts i a j s) };
}

pub declared :
    {A : Type 0} {r r' : Reader A} {g g' : Rule A} {start follow start' follow' : List Kind} {empty : Bool} → Full r r' g g' start empty follow →
    all_in start start' ≡ true → all_in follow follow' ≡ true → Full r r' g g' start' empty follow'
declared full begins stops = record { laws = declared_laws full.laws begins stops; here = full.here; deeper = full.deeper }

-- ---- that a rule spells something

pub either_sentence : {A : Type 0} (g : Rule A) {h : Rule A} → HasSentence h → HasSentence (either g h)
unfolding either
either_sentence g {h} second = record { sentence = λ levels. completed_alike h (either g h) levels [] (λ i a j s. inr s) (second.sentence levels) }

pub inside_sentence : {A : Type 0} {g : Rule A} → HasSentence g → HasSentence (inside_rule g)
inside_sentence {g} inner = record { sentence = λ levels. completed_inside g levels [] (inner.sentence levels) }
