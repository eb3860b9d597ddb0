-- The laws of a token that opens a level, and of what stands in the level.
use Rattle.std.proofs.Common.{◌≡◌, inl, inr, ℕ, zero, suc, Bool, true, false, cond, List, [], ◌∷◌, ◌++◌, refl, sym, ◌∙◌, ap, subst}
use Rattle.std.proofs.lemmas.Bool.{cases_Bool, false≢true}
use Rattle.lexer.specs.declared.token.Kind.{Kind}
use Rattle.lexer.specs.declared.token.Kind.TheVariants.{End}
use Rattle.lexer.specs.declared.token.Token.{Token}
use Rattle.parser.specs.Input.{Input, input, next, is_one_of}
use Rattle.parser.specs.Rules.{Rule, bind as bind_rule, take_open as take_open_rule}
use Rattle.parser.specs.internal.Readers.{Reader, read, unexpected, too_deep, bind, take_open, take_open_from, opened}
use Rattle.parser.proofs.Laws.{up, Completed, HasSentence, Taken, at_unexpected, Halted, Deeper, Traced, Alike, Grows, Laws, Full}
use Rattle.parser.proofs.Membership.{apart_nothing}
use Rattle.parser.proofs.BindLaws.{bind_traced, bind_laws, alike_second}

-- there is a level below
abbrev pub IsDeep : ℕ → Type 0
IsDeep zero = ⊥
IsDeep (suc depth) = Unit {0}

open_read : (depth : ℕ) (kinds : List Kind) (levels : ℕ) (token : Token) (rest : List Token) → is_one_of kinds token.kind ≡ true → take_open_from depth kinds levels (token ∷ rest) ≡ opened depth levels token rest
open_read depth kinds levels token rest e = rw e refl

open_stops : (depth : ℕ) (kinds : List Kind) (levels : ℕ) (tokens : List Token) → is_one_of kinds (next tokens) ≡ false → take_open_from depth kinds levels tokens ≡ unexpected tokens
open_stops depth kinds levels [] e = refl
open_stops depth kinds levels (token ∷ rest) e = rw e refl

module _ (kinds : List Kind) (ends : is_one_of kinds End ≡ false) where
  open_halted : (depth levels : ℕ) (tokens : List Token) → is_one_of kinds (next tokens) ≡ false → Halted (take_open depth kinds) (take_open_rule depth kinds) (input levels tokens) at_unexpected tokens
  unfolding take_open
  open_halted depth levels tokens e = record {
    front = [];
    is_front = refl;
    begun = inl refl;
    local = λ other same. open_stops depth kinds levels other (ap (is_one_of kinds) same ∙ e);
  }

  -- before each token of these kinds it is too deep
  too_deep_alike :
      (depth levels : ℕ) (token : Token) (rest : List Token) → ((token : Token) (rest : List Token) → opened depth levels token rest ≡ too_deep (token ∷ rest)) → is_one_of kinds token.kind ≡ true →
      (other : List Token) → next other ≡ token.kind → take_open_from depth kinds levels other ≡ too_deep other
  too_deep_alike depth levels token rest deep is [] same = absurd (false≢true (sym ends ∙ ap (is_one_of kinds) same ∙ is))
  too_deep_alike depth levels token rest deep is (first ∷ other) same = open_read depth kinds levels first other (ap (is_one_of kinds) same ∙ is) ∙ deep first other

  open_deeper :
      (depth levels : ℕ) (token : Token) (rest : List Token) → ((token : Token) (rest : List Token) → opened depth levels token rest ≡ too_deep (token ∷ rest)) → is_one_of kinds token.kind ≡ true →
      Deeper (take_open depth kinds) (take_open_rule depth kinds) (take_open_rule (suc depth) kinds) (input levels (token ∷ rest)) (token ∷ rest)
  unfolding take_open take_open_rule
  open_deeper depth levels token rest deep is = record {
    halt = record { front = []; is_front = refl; begun = inl refl; local = too_deep_alike depth levels token rest deep is };
    token = token;
    more = rest;
    is_rest = refl;
    completed = record { tail = []; value = token; unclosed = levels; spelled = λ rest. (is, refl) };
  }

  open_taken :
      (depth levels : ℕ) (token : Token) (rest : List Token) → is_one_of kinds token.kind ≡ true →
      Taken (take_open (suc depth) kinds) (take_open_rule (suc depth) kinds) (input (suc levels) (token ∷ rest)) token (input levels rest)
  unfolding take_open take_open_rule
  open_taken depth levels token rest is = record {
    front = token ∷ [];
    is_front = refl;
    spelled = λ rest. (is, refl);
    local = λ other same. open_read (suc depth) kinds (suc levels) token other is;
  }

  opened_traced :
      (depth levels : ℕ) (token : Token) (rest : List Token) → is_one_of kinds token.kind ≡ true →
      Traced (take_open depth kinds) (take_open_rule depth kinds) (take_open_rule (suc depth) kinds) (input levels (token ∷ rest)) (opened depth levels token rest)
  opened_traced zero levels token rest is = open_deeper zero levels token rest (λ token rest. refl) is
  opened_traced (suc depth) zero token rest is = open_deeper (suc depth) zero token rest (λ token rest. refl) is
  opened_traced (suc depth) (suc levels) token rest is = open_taken depth levels token rest is

  open_traced :
      (depth levels : ℕ) (tokens : List Token) →
      Traced (take_open depth kinds) (take_open_rule depth kinds) (take_open_rule (suc depth) kinds) (input levels tokens) (take_open_from depth kinds levels tokens)
  open_traced depth levels [] = open_halted depth levels [] ends
  open_traced depth levels (token ∷ rest) = elim (cases_Bool (is_one_of kinds token.kind)) [
    | inl is ↦
        subst (λ o. Traced (take_open depth kinds) (take_open_rule depth kinds) (take_open_rule (suc depth) kinds) (input levels (token ∷ rest)) o)
        (sym (open_read depth kinds levels token rest is)) (opened_traced depth levels token rest is)
    | inr other ↦
        subst (λ o. Traced (take_open depth kinds) (take_open_rule depth kinds) (take_open_rule (suc depth) kinds) (input levels (token ∷ rest)) o)
        (sym (open_stops depth kinds levels (token ∷ rest) other)) (open_halted depth levels (token ∷ rest) other)
  ]

  opened_alike : (depth levels : ℕ) (token : Token) (rest : List Token) → Alike (opened depth levels token rest) (opened (suc depth) (suc levels) token rest)
  opened_alike zero levels token rest = tt
  opened_alike (suc depth) zero token rest = tt
  opened_alike (suc depth) (suc levels) token rest = refl

  open_alike : (depth levels : ℕ) (tokens : List Token) → Alike (take_open_from depth kinds levels tokens) (take_open_from (suc depth) kinds (suc levels) tokens)
  open_alike depth levels [] = refl
  open_alike depth levels (token ∷ rest) = elim (cases_Bool (is_one_of kinds token.kind)) [
    | inl is ↦ rw is (opened_alike depth levels token rest)
    | inr other ↦ rw other refl
  ]

  open_spelled : (depth : ℕ) (i : Input) (token : Token) (j : Input) → take_open_rule depth kinds i token j → take_open depth kinds i ≡ read token j
  unfolding take_open take_open_rule
  open_spelled zero i token j s = absurd s
  open_spelled (suc depth) i token j s = ap (λ i. take_open_from (suc depth) kinds i.levels i.tokens) s.1 ∙ open_read (suc depth) kinds (suc j.levels) token j.tokens s.0

  open_grows : (depth : ℕ) (i : Input) (token : Token) (j : Input) → take_open_rule depth kinds i token j → take_open_rule (suc depth) kinds (up i) token (up j)
  unfolding take_open_rule
  open_grows zero i token j s = absurd s
  open_grows (suc depth) i token j s = (s.0, ap up s.1)

  open_starts : (depth : ℕ) (i : Input) (token : Token) (j : Input) → take_open_rule depth kinds i token j → is_one_of kinds (next i.tokens) ≡ true
  unfolding take_open_rule
  open_starts zero i token j s = absurd s
  open_starts (suc depth) i token j s = ap (λ i. is_one_of kinds (next i.tokens)) s.1 ∙ s.0

pub open_laws :
    (depth : ℕ) (kinds : List Kind) → is_one_of kinds End ≡ false →
    Laws (take_open depth kinds) (take_open (suc depth) kinds) (take_open_rule depth kinds) (take_open_rule (suc depth) kinds) kinds false []
unfolding take_open
open_laws depth kinds ends = record {
  trace = record { trace = λ i. open_traced kinds ends depth i.levels i.tokens };
  complete = record { complete = λ i token j s stops. open_spelled kinds ends depth i token j s };
  grows = record { reads = λ i. open_alike kinds ends depth i.levels i.tokens; spells = open_grows kinds ends depth };
  starts = record { starts = λ i token j s. inl (open_starts kinds ends depth i token j s) };
}

never_opens : (kinds : List Kind) (i : Input) (token : Token) (j : Input) → take_open zero kinds i ≡ read token j → ⊥
unfolding take_open
never_opens kinds i token j e = never i.tokens e
  where
    never : (tokens : List Token) → take_open_from zero kinds i.levels tokens ≡ read token j → ⊥
    never [] e = absurd (cc)
    never (first ∷ rest) e = elim (cases_Bool (is_one_of kinds first.kind)) [
      | inl is ↦ (let no : too_deep (first ∷ rest) ≡ read token j = rw is at e in absurd (cc))
      | inr other ↦ (let no : unexpected (first ∷ rest) ≡ read token j = rw other at e in absurd (cc))
    ]

never_completed : (kinds : List Kind) (levels : ℕ) (front : List Token) → Completed (take_open_rule zero kinds) levels front → ⊥
unfolding take_open_rule
never_completed kinds levels front c = c.spelled []

never_spelled : {A : Type 0} (kinds : List Kind) (h : Token → Rule A) (i : Input) (a : A) (j : Input) → bind_rule (take_open_rule zero kinds) h i a j → ⊥
unfolding bind_rule take_open_rule
never_spelled kinds h i a j s = s.2

module _ {A : Type 0} (kinds : List Kind) (f f' : Token → Reader A) (h h' : Token → Rule A) (ends : is_one_of kinds End ≡ false) where
  last_grows : Grows (bind (take_open zero kinds) f) (bind (take_open (suc zero) kinds) f') (bind_rule (take_open_rule zero kinds) h) (bind_rule (take_open_rule (suc zero) kinds) h')
  unfolding bind
  last_grows = record {
    reads = λ i. alike_second f f' (take_open zero kinds i) (take_open (suc zero) kinds (up i)) ((open_laws zero kinds ends).grows.reads i) (λ token j e. absurd (never_opens kinds i token j e));
    spells = λ i a j s. absurd (never_spelled kinds h i a j s);
  }

  -- at the last level nothing is opened
  last_laws :
      (start : List Kind) (empty : Bool) (follow : List Kind) → ((token : Token) → HasSentence (h' token)) →
      Laws (bind (take_open zero kinds) f) (bind (take_open (suc zero) kinds) f') (bind_rule (take_open_rule zero kinds) h) (bind_rule (take_open_rule (suc zero) kinds) h')
      start empty follow
  last_laws start empty follow possible' = record {
    trace = record {
      trace = λ i. bind_traced (take_open zero kinds) f (take_open_rule zero kinds) (take_open_rule (suc zero) kinds) h h' i (open_laws zero kinds ends).grows.spells
          (λ front begun. absurd (never_completed kinds i.levels front begun)) possible' ((open_laws zero kinds ends).trace.trace i)
          (λ token j e. absurd (never_opens kinds i token j e)) (λ token j e. absurd (never_opens kinds i token j e));
    };
    complete = record { complete = λ i a j s stops. absurd (never_spelled kinds h i a j s) };
    grows = last_grows;
    starts = record { starts = λ i a j s. absurd (never_spelled kinds h i a j s) };
  }

-- What stands in the level has the laws where there is a level below. With one level more it can be written in any case.
pub opens :
    {A : Type 0} (depth : ℕ) (kinds : List Kind) {f f' : Token → Reader A} {h h' : Token → Rule A} {start follow : List Kind} {empty : Bool} → is_one_of kinds End ≡ false →
    ((token : Token) → HasSentence (h' token)) → (IsDeep depth → (token : Token) → Full (f token) (f' token) (h token) (h' token) start empty follow) →
    Laws (bind (take_open depth kinds) f) (bind (take_open (suc depth) kinds) f') (bind_rule (take_open_rule depth kinds) h) (bind_rule (take_open_rule (suc depth) kinds) h')
    (kinds ++ []) false (follow ++ cond empty [] [])
opens zero kinds {f} {f'} {h} {h'} {follow} {empty} ends possible' inner = last_laws kinds f f' h h' ends (kinds ++ []) false (follow ++ cond empty [] []) possible'
opens (suc depth) kinds {start} ends possible' inner = bind_laws (open_laws (suc depth) kinds ends) (inner tt) (apart_nothing start)
