-- What is refused at a token is refused there with whatever stands behind; else the tokens begin a description.
use Rattle.std.proofs.Common.{◌≡◌, ◌⊎◌, ◌++◌, List, [], ◌∷◌, inl, inr, refl, ap, subst, sym, ◌∙◌, append_assoc}
use Rattle.std.specs.Prelude.{MatchOption}
use Rattle.std.proofs.lemmas.List.{append-nil}
use Rattle.lexer.specs.declared.token.Token.{Token}
use Rattle.syntax.specs.declared.declaration.Description.{Description}
use Rattle.refusals.specs.declared.parser.Fault.TheVariants.{Memory, Unexpected, TooDeep}
use Rattle.parser.specs.Accepted.{Begins, IsRefused, Parses, most_levels}
use Rattle.parser.specs.Grammar.{description}
use Rattle.parser.specs.Input.{Input}
use Rattle.parser.specs.Sentences.{StopsAt, StopsForGood, StopsForLevels}
use Rattle.parser.specs.declared.halt.Halt.{Halt}
use Rattle.parser.specs.declared.halt.Halt.TheVariants as stop
use Rattle.parser.specs.internal.Answer.{fault_before}
use Rattle.parser.specs.internal.Readers.{read}
use Rattle.parser.specs.internal.Reads.{Halts}
use Rattle.parser.proofs.Parsed.{outcome, parsed, unexpected_stop, too_deep_stop}

-- where reading stops at a token it stops there with more behind it
stops_on : (tokens front : List Token) (token : Token) (rest later : List Token) → StopsAt description most_levels tokens front (token ∷ rest)
    → StopsAt description most_levels (tokens ++ later) front (token ∷ rest ++ later)
stops_on tokens front token rest later stops = record {
  whole = ap (λ (t : List Token). t ++ later) stops.whole ∙ append_assoc front (token ∷ rest) later;
  goes_on = stops.goes_on;
  no_further = stops.no_further;
}

unexpected_on : (tokens later front : List Token) (token : Token) (rest : List Token) → StopsForGood description most_levels tokens front (token ∷ rest)
    → IsRefused (tokens ++ later) (Unexpected token.span.start)
unexpected_on tokens later front token rest stops =
    (front, token ∷ rest ++ later, record { stops = stops_on tokens front token rest later stops.stops; for_good = stops.for_good }, refl)

too_deep_on : (tokens later front : List Token) (token : Token) (rest : List Token) → StopsForLevels description most_levels tokens front (token ∷ rest)
    → IsRefused (tokens ++ later) (TooDeep token.span.start)
too_deep_on tokens later front token rest stops =
    (front, token ∷ rest ++ later, record { stops = stops_on tokens front token rest later stops.stops; with_one_more = stops.with_one_more }, refl)

-- what is read so far is all, and can be gone on with
begins : (tokens front : List Token) → StopsAt description most_levels tokens front [] → Begins tokens
begins tokens front stops = subst (λ (t : List Token). Begins t) (sym (append-nil front) ∙ sym stops.whole) stops.goes_on

-- what a reading that stopped tells
pub told : (tokens rest : List Token) (halt : Halt) → Halts halt rest (outcome tokens)
    → MatchOption (fault_before halt rest) (Begins tokens) (λ fault. (fault ≡ Memory) ⊎ ((later : List Token) → IsRefused (tokens ++ later) fault))
told tokens rest stop.Memory halts = inl refl
told tokens [] stop.Unexpected halts = let found = unexpected_stop tokens [] halts in begins tokens found.0 (found.1).stops
told tokens [] stop.TooDeep halts = let found = too_deep_stop tokens [] halts in begins tokens found.0 (found.1).stops
told tokens (token ∷ rest) stop.Unexpected halts =
    inr (λ later. let found = unexpected_stop tokens (token ∷ rest) halts in unexpected_on tokens later found.0 token rest found.1)
told tokens (token ∷ rest) stop.TooDeep halts =
    inr (λ later. let found = too_deep_stop tokens (token ∷ rest) halts in too_deep_on tokens later found.0 token rest found.1)

-- a whole description begins with itself
pub begins_whole : (tokens : List Token) (given : Description) (left : Input) → outcome tokens ≡ read given left → Begins tokens
begins_whole tokens given left e =
    record { tail = []; whole = given; spells = subst (λ t. Parses t given) (sym (append-nil tokens)) (parsed tokens given left e) }
