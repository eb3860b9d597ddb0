-- What is marked beside a fault of sharing.
use Rattle.std.proofs.Common.{◌≡◌, ◌≢◌, ◌⊎◌, inl, inr, ℕ, false, List, [], ◌++◌, None, Result, Ok, Err, OnOk, sym, ap, ◌∙◌, subst}
use Rattle.std.proofs.lemmas.List.{append-nil}
use Rattle.findings.specs.MarkedPlaces.{marked_at}
use Rattle.findings.specs.Marking.{TellsMarked}
use Rattle.findings.specs.declared.finding.Beside.{Beside}
use Rattle.findings.specs.declared.finding.Finding.{Finding}
use Rattle.findings.specs.declared.finding.Input.{Input}
use Rattle.lexer.specs.Refusal as lexer
use Rattle.lexer.specs.Tokens.{AreTokens}
use Rattle.lexer.specs.declared.token.Token.{Token}
use Rattle.parser.specs.Accepted as parser
use Rattle.refusals.specs.declared.lexer.Fault as lexing
use Rattle.refusals.specs.declared.lexer.Fault.TheVariants as no_tokens
use Rattle.refusals.specs.declared.parser.Fault as parsing
use Rattle.refusals.specs.declared.parser.Fault.TheVariants as no_description
use Rattle.source_places.specs.Places.{within}
use Rattle.typed_source.specs.declared.fault.Fault.TheVariants as not_typed
use Rattle.diagnosis.specs.Clashes.{AddsClash, IsFaulty, TellsClash, place_of}
use Rattle.diagnosis.specs.Told.{TellsSource}
use Rattle.diagnosis.proofs.InLine.{starts_at}

-- what holds whatever comes holds of a success
pub always : {X E : Type 0} (r : Result X E) (P : Type 0) → P → OnOk r P
always (Ok x) P h = h
always (Err e) P h = tt

-- a source that has no tokens is faulty
pub is_uncut : (source : List ℕ) (fault : lexing.Fault) → fault ≢ no_tokens.Memory
    → (fault ≡ no_tokens.Memory) ⊎ lexer.IsRefused source fault → IsFaulty source
is_uncut source fault other (inl memory) = absurd (other memory)
is_uncut source fault other (inr refused) = (not_typed.Lexer fault, λ e. cc, refused)

-- so is one of which the tokens are no description
pub is_unparsed : (source : List ℕ) (tokens : List Token) (fault : parsing.Fault) → AreTokens source tokens
    → fault ≢ no_description.Memory → (fault ≡ no_description.Memory) ⊎ parser.IsRefused tokens fault → IsFaulty source
is_unparsed source tokens fault cut other (inl memory) = absurd (other memory)
is_unparsed source tokens fault cut other (inr refused) = (not_typed.Parser fault, λ e. cc, (tokens, cut, refused))

-- of a faulty source nothing is marked
pub adds_none : (source : List ℕ) (old new : Finding) → IsFaulty source → new.beside.items ≡ old.beside.items
    → AddsClash source old new
adds_none source old new faulty kept =
    (None, inl faulty, ap marked_at kept ∙ sym (append-nil (marked_at old.beside.items)))

-- words about a finding before and behind change no mark
pub between : (source : List ℕ) (first said marked last : Finding) → said.start ≡ first.start
    → said.beside.items ≡ first.beside.items → last.beside.items ≡ marked.beside.items → AddsClash source said marked
    → AddsClash source first last
between source first said marked last starts before behind adds = (
  adds.0,
  subst (λ (n : ℕ). TellsClash source n adds.0) starts adds.1,
  ap marked_at behind ∙ adds.2 ∙ ap (λ (z : List Beside). marked_at z ++ place_of adds.0) before,
)

-- a finding that had no marks is told
pub told_source : (number : ℕ) (input : Input) (offset start : ℕ) (told : List ℕ) (old new : Finding)
    → old.start ≡ start → old.beside.items ≡ [] → (number ≡ 15 → AddsClash input.bytes.now old new)
    → start ≡ within input.bytes.now offset
    → TellsMarked input.name.now input.bytes.now false (starts_at start new) told → TellsSource number input offset told
told_source number input offset start told old new starts bare adds is tells = (
  starts_at start new,
  is,
  tells,
  λ e. let added = adds e in (
    added.0,
    subst (λ (n : ℕ). TellsClash input.bytes.now n added.0) starts added.1,
    added.2 ∙ ap (λ (z : List Beside). marked_at z ++ place_of added.0) bare,
  ),
)
