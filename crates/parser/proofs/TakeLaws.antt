-- The laws of no token and of one token.
use Rattle.std.proofs.Common.{◌≡◌, inl, inr, ℕ, suc, true, false, List, [], ◌∷◌, refl, sym, ◌∙◌, ap, subst}
use Rattle.std.proofs.lemmas.Bool.{cases_Bool}
use Rattle.lexer.specs.declared.token.Kind.{Kind}
use Rattle.lexer.specs.declared.token.Kind.TheVariants.{End}
use Rattle.lexer.specs.declared.token.Token.{Token}
use Rattle.parser.specs.Input.{Input, input, next, is_one_of}
use Rattle.parser.specs.Rules.{pure as pure_rule, take as take_rule}
use Rattle.parser.specs.internal.Readers.{read, unexpected, pure, take, take_from}
use Rattle.parser.proofs.Laws.{up, HasSentence, Taken, at_unexpected, Halted, Traced, Alike, Laws, Full}

pub pure_sentence : {A : Type 0} (a : A) → HasSentence (pure_rule a)
unfolding pure_rule
pure_sentence a = record { sentence = λ levels. record { tail = []; value = a; unclosed = levels; spelled = λ rest. (refl, refl) } }

pure_taken : {A : Type 0} (a : A) (i : Input) → Taken (pure a) (pure_rule a) i a i
unfolding pure pure_rule
pure_taken a i = record { front = []; is_front = refl; spelled = λ rest. (refl, refl); local = λ rest e. refl }

pub pure_laws : {A : Type 0} (a : A) → Laws (pure a) (pure a) (pure_rule a) (pure_rule a) [] true []
unfolding pure pure_rule
pure_laws a = record {
  trace = record { trace = λ i. pure_taken a i };
  complete = record { complete = λ i b j s stops. both s.0 s.1 };
  grows = record { reads = λ i. refl; spells = λ i b j s. (s.0, ap up s.1) };
  starts = record { starts = λ i b j s. inr (refl, ap (λ i. i.tokens) s.1) };
}
  where
    both : {A : Type 0} {a b : A} {i j : Input} → a ≡ b → i ≡ j → read a i ≡ read b j
    both {a} {b} {i} {j} e f = ap (λ c. read c i) e ∙ ap (λ k. read b k) f

pub pure_full : {A : Type 0} (a : A) → Full (pure a) (pure a) (pure_rule a) (pure_rule a) [] true []
pure_full a = record { laws = pure_laws a; here = pure_sentence a; deeper = pure_sentence a }

-- some token of the kind
abbrev a_token : Kind → Token
a_token kind = record { kind = kind; text = []; number = 0; span = record { start = 0; stop = 0; line = 0 } }

take_read : (kinds : List Kind) (levels : ℕ) (token : Token) (rest : List Token) → is_one_of kinds token.kind ≡ true → take_from kinds levels (token ∷ rest) ≡ read token (input levels rest)
take_read kinds levels token rest e = rw e refl

-- where the next token is none of the kinds
take_stops : (kinds : List Kind) (levels : ℕ) (tokens : List Token) → is_one_of kinds (next tokens) ≡ false → take_from kinds levels tokens ≡ unexpected tokens
take_stops kinds levels [] e = refl
take_stops kinds levels (token ∷ rest) e = rw e refl

module _ (kinds : List Kind) (ends : is_one_of kinds End ≡ false) where
  take_taken : (levels : ℕ) (token : Token) (rest : List Token) → is_one_of kinds token.kind ≡ true → Taken (take kinds) (take_rule kinds) (input levels (token ∷ rest)) token (input levels rest)
  unfolding take take_rule
  take_taken levels token rest e = record {
    front = token ∷ [];
    is_front = refl;
    spelled = λ rest. (e, refl);
    local = λ other same. take_read kinds levels token other e;
  }

  take_halted : (levels : ℕ) (tokens : List Token) → is_one_of kinds (next tokens) ≡ false → Halted (take kinds) (take_rule kinds) (input levels tokens) at_unexpected tokens
  unfolding take
  take_halted levels tokens e = record {
    front = [];
    is_front = refl;
    begun = inl refl;
    local = λ other same. take_stops kinds levels other (ap (is_one_of kinds) same ∙ e);
  }

  take_traced : (levels : ℕ) (tokens : List Token) → Traced (take kinds) (take_rule kinds) (take_rule kinds) (input levels tokens) (take_from kinds levels tokens)
  take_traced levels [] = take_halted levels [] ends
  take_traced levels (token ∷ rest) = elim (cases_Bool (is_one_of kinds token.kind)) [
    | inl is ↦ subst (λ o. Traced (take kinds) (take_rule kinds) (take_rule kinds) (input levels (token ∷ rest)) o) (sym (take_read kinds levels token rest is)) (take_taken levels token rest is)
    | inr other ↦ subst (λ o. Traced (take kinds) (take_rule kinds) (take_rule kinds) (input levels (token ∷ rest)) o) (sym (take_stops kinds levels (token ∷ rest) other)) (take_halted levels (token ∷ rest) other)
  ]

  take_alike : (levels : ℕ) (tokens : List Token) → Alike (take_from kinds levels tokens) (take_from kinds (suc levels) tokens)
  take_alike levels [] = refl
  take_alike levels (token ∷ rest) = elim (cases_Bool (is_one_of kinds token.kind)) [
    | inl is ↦ rw is refl
    | inr other ↦ rw other refl
  ]

pub take_laws : (kinds : List Kind) → is_one_of kinds End ≡ false → Laws (take kinds) (take kinds) (take_rule kinds) (take_rule kinds) kinds false []
unfolding take take_rule
take_laws kinds ends = record {
  trace = record { trace = λ i. take_traced kinds ends i.levels i.tokens };
  complete = record { complete = λ i token j s stops. ap (λ i. take_from kinds i.levels i.tokens) s.1 ∙ take_read kinds j.levels token j.tokens s.0 };
  grows = record { reads = λ i. take_alike kinds ends i.levels i.tokens; spells = λ i token j s. (s.0, ap up s.1) };
  starts = record { starts = λ i token j s. inl (ap (λ i. is_one_of kinds (next i.tokens)) s.1 ∙ s.0) };
}

pub take_sentence : (kind : Kind) (kinds : List Kind) → is_one_of (kind ∷ kinds) kind ≡ true → HasSentence (take_rule (kind ∷ kinds))
unfolding take_rule
take_sentence kind kinds is = record { sentence = λ levels. record { tail = a_token kind ∷ []; value = a_token kind; unclosed = levels; spelled = λ rest. (is, refl) } }

pub take_full :
    (kind : Kind) (kinds : List Kind) → is_one_of (kind ∷ kinds) End ≡ false → is_one_of (kind ∷ kinds) kind ≡ true →
    Full (take (kind ∷ kinds)) (take (kind ∷ kinds)) (take_rule (kind ∷ kinds)) (take_rule (kind ∷ kinds)) (kind ∷ kinds) false []
take_full kind kinds ends is = record { laws = take_laws (kind ∷ kinds) ends; here = take_sentence kind kinds is; deeper = take_sentence kind kinds is }
