-- With which token tokens go on hangs on its kind alone; and none goes on with what is refused.
use Rattle.std.proofs.Common.{◌≡◌, ◌≢◌, ◌⊎◌, inl, inr, Option, Some, List, [], ◌∷◌, ◌++◌, refl, sym, ◌∙◌, subst, append_assoc, append-nil}
use Rattle.std.specs.Prelude.{MatchOption}
use Rattle.lexer.specs.declared.token.Token.{Token}
use Rattle.syntax.specs.declared.declaration.Description.{Description}
use Rattle.parser.specs.Accepted.{Begins, IsRefused, Parses, most_levels}
use Rattle.parser.specs.Grammar.{description}
use Rattle.parser.specs.Input.{input, next}
use Rattle.parser.specs.Sentences.{GoesOnWith}
use Rattle.refusals.specs.declared.parser.Fault.{Fault}
use Rattle.refusals.specs.declared.parser.Fault.TheVariants.{Memory, Unexpected, TooDeep}
use Rattle.viable_tokens.specs.internal.Trials.{IsHopeless}
use Rattle.viable_tokens.proofs.Blind.{AlikeTokens, description_blind}

-- ---- kinds

alike_itself : (tokens : List Token) → AlikeTokens tokens tokens
alike_itself [] = tt
alike_itself (token ∷ rest) = (refl, alike_itself rest)

alike_at : (front : List Token) (one other : Token) (tail : List Token) → one.kind ≡ other.kind
    → AlikeTokens (front ++ one ∷ tail) (front ++ other ∷ tail)
alike_at [] one other tail same = (same, alike_itself tail)
alike_at (token ∷ front) one other tail same = (refl, alike_at front one other tail same)

next_alike : (tokens others : List Token) → AlikeTokens tokens others → next tokens ≡ next others
next_alike [] [] like = refl
next_alike [] (other ∷ others) like = absurd like
next_alike (token ∷ rest) [] like = absurd like
next_alike (token ∷ rest) (other ∷ others) like = like.0

-- what is spelled of the one is spelled of the other
spelled_alike : (tokens others : List Token) (given : Description) → AlikeTokens tokens others → Parses tokens given
    → (other : Description) × Parses others other
spelled_alike tokens others given like s =
    let found = (description_blind most_levels).mirror (input most_levels tokens) (input most_levels others) given
    (input s.unclosed s.rest) s.spelled (refl, like) in (
      found.0,
      record {
        rest = (found.1).tokens;
        at_end = sym (next_alike s.rest (found.1).tokens (found.3).1) ∙ s.at_end;
        unclosed = (found.1).levels;
        spelled = found.2;
      },
    )

pub begins_alike : (front : List Token) (one other : Token) → one.kind ≡ other.kind → Begins (front ++ one ∷ [])
    → Begins (front ++ other ∷ [])
begins_alike front one other same b =
    let like : AlikeTokens ((front ++ one ∷ []) ++ b.tail) ((front ++ other ∷ []) ++ b.tail) =
    subst (λ tokens. AlikeTokens tokens ((front ++ other ∷ []) ++ b.tail)) (sym (append_assoc front (one ∷ []) b.tail))
    (subst (AlikeTokens (front ++ one ∷ b.tail)) (sym (append_assoc front (other ∷ []) b.tail))
    (alike_at front one other b.tail same)) in
    let found = spelled_alike _ _ b.whole like b.spells in
    record { tail = b.tail; whole = found.0; spells = found.1 }

-- ---- refusals

-- a description goes on with each of its tokens
goes_on : (tokens front rest : List Token) (given : Description) → Parses tokens given → tokens ≡ front ++ rest
    → GoesOnWith description most_levels front rest
goes_on tokens front [] given s is = (given, subst (λ t. Parses t given) (is ∙ append-nil front) s)
goes_on tokens front (token ∷ rest) given s is = record {
  tail = rest;
  whole = given;
  spells = subst (λ t. Parses t given) (is ∙ sym (append_assoc front (token ∷ []) rest)) s;
}

pub not_both : (tokens : List Token) (given : Description) (fault : Fault) → Parses tokens given → IsRefused tokens fault → ⊥
not_both tokens given Memory s refused = refused
not_both tokens given (Unexpected offset) s refused =
    let stops = (refused.2).stops in stops.no_further (goes_on tokens refused.0 refused.1 given s stops.whole)
not_both tokens given (TooDeep offset) s refused =
    let stops = (refused.2).stops in stops.no_further (goes_on tokens refused.0 refused.1 given s stops.whole)

-- ---- what the parser answers

abbrev Answered : Option Fault → List Token → Type 0
Answered result tokens = MatchOption result (Begins tokens)
    (λ fault. (fault ≡ Memory) ⊎ ((later : List Token) → IsRefused (tokens ++ later) fault))

-- a fault that is not want of memory
pub hopeless : (result : Option Fault) (fault : Fault) (tokens : List Token) → result ≡ Some fault → fault ≢ Memory
    → Answered result tokens → IsHopeless tokens
hopeless result fault tokens is other answered =
    let told : (fault ≡ Memory) ⊎ ((later : List Token) → IsRefused (tokens ++ later) fault) =
    subst (λ r. Answered r tokens) is answered in
    elim told [ inl memory ↦ absurd (other memory) | inr refused ↦ λ later. (fault, refused later) ]
