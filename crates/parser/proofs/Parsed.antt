-- From what the first reader comes to: what `parse` promises.
use Rattle.std.proofs.Common.{◌≡◌, ℕ, false, List, [], ◌∷◌, refl}
use Rattle.lexer.specs.declared.token.Kind.TheVariants as kind
use Rattle.lexer.specs.declared.token.Kind.TheVariants.{End}
use Rattle.lexer.specs.declared.token.Token.{Token}
use Rattle.syntax.specs.declared.declaration.Description.{Description}
use Rattle.parser.specs.Accepted.{most_levels, Parses, FirstUnexpected, FirstTooDeep}
use Rattle.parser.specs.Offsets.{offset_at}
use Rattle.parser.specs.Sentences.{StopsForGood, StopsForLevels}
use Rattle.parser.specs.Input.{Input, input, is_one_of, same_kind}
use Rattle.parser.specs.internal.Readers.{Outcome, read, unexpected, too_deep, whole}
use Rattle.parser.specs.Grammar as g
use Rattle.parser.specs.internal.Reading as r
use Rattle.parser.proofs.DeclarationLaws.{description_full}
use Rattle.parser.proofs.WholeLaws.{read_sentence, sentence_read, stops_for_good, stops_for_levels, good_stop_read, deep_stop_read}

-- what reading the tokens from the first to the end comes to
abbrev pub outcome : List Token → Outcome Description
outcome tokens = whole (r.description most_levels) (input most_levels tokens)

no_end : is_one_of (kind.ProcedureWord ∷ []) End ≡ false
unfolding same_kind
no_end = refl

pub parsed : (tokens : List Token) (given : Description) (j : Input) → outcome tokens ≡ read given j → Parses tokens given
parsed tokens given j e = read_sentence g.description r.description description_full no_end most_levels tokens given j e

pub unexpected_stop : (tokens rest : List Token) → outcome tokens ≡ unexpected rest → (front : List Token) × StopsForGood g.description most_levels tokens front rest
unexpected_stop tokens rest e = stops_for_good g.description r.description description_full no_end most_levels tokens rest e

pub too_deep_stop : (tokens rest : List Token) → outcome tokens ≡ too_deep rest → (front : List Token) × StopsForLevels g.description most_levels tokens front rest
too_deep_stop tokens rest e = stops_for_levels g.description r.description description_full no_end most_levels tokens rest e

pub unexpected_first : (tokens rest : List Token) → outcome tokens ≡ unexpected rest → FirstUnexpected tokens (offset_at tokens rest)
unexpected_first tokens rest e = let found = unexpected_stop tokens rest e in (found.0, rest, found.1, refl)

pub too_deep_first : (tokens rest : List Token) → outcome tokens ≡ too_deep rest → FirstTooDeep tokens (offset_at tokens rest)
too_deep_first tokens rest e = let found = too_deep_stop tokens rest e in (found.0, rest, found.1, refl)

-- ---- the other way round

pub every_description : (tokens : List Token) (given : Description) → Parses tokens given → (j : Input) × (outcome tokens ≡ read given j)
every_description tokens given s = (input s.unclosed s.rest, sentence_read g.description r.description description_full no_end most_levels tokens given s)

pub every_unexpected : (tokens : List Token) (offset : ℕ) → FirstUnexpected tokens offset → (rest : List Token) × (outcome tokens ≡ unexpected rest) × (offset ≡ offset_at tokens rest)
every_unexpected tokens offset first = (first.1, good_stop_read g.description r.description description_full no_end most_levels tokens first.0 first.1 first.2, first.3)

pub every_too_deep : (tokens : List Token) (offset : ℕ) → FirstTooDeep tokens offset → (rest : List Token) × (outcome tokens ≡ too_deep rest) × (offset ≡ offset_at tokens rest)
every_too_deep tokens offset first = (first.1, deep_stop_read g.description r.description description_full no_end most_levels tokens first.0 first.1 first.2, first.3)
