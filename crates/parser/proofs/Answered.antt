-- The clauses of `parse`, from its answer being what reading comes to.
use Rattle.std.proofs.Common.{◌≡◌, ◌⊎◌, inl, inr, List, Result, Ok, Err, refl, sym, ◌∙◌, ap}
use Rattle.std.specs.Prelude.{IfOk, IfErr, MatchResult}
use Rattle.lexer.specs.declared.token.Token.{Token}
use Rattle.syntax.specs.declared.declaration.Description.{Description}
use Rattle.parser.specs.Accepted.{Parses, IsRefused}
use Rattle.parser.specs.internal.Answer.{IsAnswer}
use Rattle.parser.specs.Offsets.{offset_at}
use Rattle.refusals.specs.declared.parser.Fault.{Fault}
use Rattle.refusals.specs.declared.parser.Fault.TheVariants.{Memory, Unexpected, TooDeep}
use Rattle.parser.specs.internal.Readers.{Outcome, read, unexpected, too_deep}
use Rattle.parser.proofs.Parsed.{outcome, parsed, unexpected_first, too_deep_first, every_description, every_unexpected, every_too_deep}

pub answers_description : (tokens : List Token) (result : Result Description Fault) → IsAnswer tokens (outcome tokens) result → IfOk result (λ given. Parses tokens given)
answers_description tokens (Ok given) answer = parsed tokens given answer.0 answer.1
answers_description tokens (Err fault) answer = tt

refused : (tokens : List Token) (fault : Fault) → IsAnswer tokens (outcome tokens) (Err fault) → (fault ≡ Memory) ⊎ IsRefused tokens fault
refused tokens Memory answer = inl refl
refused tokens (Unexpected offset) answer = inr (rw answer.2 (unexpected_first tokens answer.0 answer.1))
refused tokens (TooDeep offset) answer = inr (rw answer.2 (too_deep_first tokens answer.0 answer.1))

pub answers_fault : (tokens : List Token) (result : Result Description Fault) → IsAnswer tokens (outcome tokens) result → IfErr result (λ fault. (fault ≡ Memory) ⊎ IsRefused tokens fault)
answers_fault tokens (Ok given) answer = tt
answers_fault tokens (Err fault) answer = refused tokens fault answer

-- what an outcome holds
abbrev value_of : Outcome Description → Description → Description
value_of (read given j) other = given
value_of (unexpected rest) other = other
value_of (too_deep rest) other = other

pub answers_every_description :
    (tokens : List Token) (result : Result Description Fault) → IsAnswer tokens (outcome tokens) result → (due : Description) → Parses tokens due →
    MatchResult result (λ given. given ≡ due) (λ fault. fault ≡ Memory)
answers_every_description tokens (Ok given) answer due parses =
    let found = every_description tokens due parses in
    let same : read given answer.0 ≡ read due found.0 = sym answer.1 ∙ found.1 in
    ap (λ o. value_of o given) same
answers_every_description tokens (Err Memory) answer due parses = refl
answers_every_description tokens (Err (Unexpected offset)) answer due parses =
    let found = every_description tokens due parses in
    let no : unexpected answer.0 ≡ read due found.0 = sym answer.1 ∙ found.1 in
    absurd (cc)
answers_every_description tokens (Err (TooDeep offset)) answer due parses =
    let found = every_description tokens due parses in
    let no : too_deep answer.0 ≡ read due found.0 = sym answer.1 ∙ found.1 in
    absurd (cc)

abbrev left_of : Outcome Description → List Token → List Token
left_of (read given j) other = other
left_of (unexpected rest) other = rest
left_of (too_deep rest) other = rest

pub answers_every_fault :
    (tokens : List Token) (result : Result Description Fault) → IsAnswer tokens (outcome tokens) result → (due : Fault) → IsRefused tokens due →
    MatchResult result (λ _. ⊥) (λ fault. (fault ≡ Memory) ⊎ (fault ≡ due))
answers_every_fault tokens result answer Memory refusal = absurd refusal
answers_every_fault tokens (Ok given) answer (Unexpected due) refusal =
    let found = every_unexpected tokens due refusal in
    let no : read given answer.0 ≡ unexpected found.0 = sym answer.1 ∙ found.1 in
    cc
answers_every_fault tokens (Ok given) answer (TooDeep due) refusal =
    let found = every_too_deep tokens due refusal in
    let no : read given answer.0 ≡ too_deep found.0 = sym answer.1 ∙ found.1 in
    cc
answers_every_fault tokens (Err Memory) answer (Unexpected due) refusal = inl refl
answers_every_fault tokens (Err Memory) answer (TooDeep due) refusal = inl refl
answers_every_fault tokens (Err (Unexpected offset)) answer (Unexpected due) refusal =
    let found = every_unexpected tokens due refusal in
    let same : unexpected answer.0 ≡ unexpected found.0 = sym answer.1 ∙ found.1 in
    let rests : answer.0 ≡ found.0 = ap (λ o. left_of o answer.0) same in
    inr (ap (λ n. Unexpected n) (answer.2 ∙ ap (offset_at tokens) rests ∙ sym found.2))
answers_every_fault tokens (Err (Unexpected offset)) answer (TooDeep due) refusal =
    let found = every_too_deep tokens due refusal in
    let no : unexpected answer.0 ≡ too_deep found.0 = sym answer.1 ∙ found.1 in
    absurd (cc)
answers_every_fault tokens (Err (TooDeep offset)) answer (Unexpected due) refusal =
    let found = every_unexpected tokens due refusal in
    let no : too_deep answer.0 ≡ unexpected found.0 = sym answer.1 ∙ found.1 in
    absurd (cc)
answers_every_fault tokens (Err (TooDeep offset)) answer (TooDeep due) refusal =
    let found = every_too_deep tokens due refusal in
    let same : too_deep answer.0 ≡ too_deep found.0 = sym answer.1 ∙ found.1 in
    let rests : answer.0 ≡ found.0 = ap (λ o. left_of o answer.0) same in
    inr (ap (λ n. TooDeep n) (answer.2 ∙ ap (offset_at tokens) rests ∙ sym found.2))
