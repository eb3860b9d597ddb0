-- Which tokens are a description, and where others stop being the beginning of one.
use Rattle.std.specs.Prelude.{◌≡◌, ℕ, List}
use Rattle.lexer.specs.declared.token.Token.{Token}
use Rattle.syntax.specs.declared.declaration.Description.{Description}
use Rattle.parser.specs.Sentences.{GoesOn, Spells, StopsForGood, StopsForLevels}
use Rattle.parser.specs.Offsets.{offset_at}
use Rattle.parser.specs.Grammar.{description}
use Rattle.refusals.specs.declared.parser.Fault.{Fault}
use Rattle.refusals.specs.declared.parser.Fault.TheVariants.{Memory, Unexpected, TooDeep}

-- how many levels may be open around one another
abbrev pub most_levels : ℕ
most_levels = 64

-- the tokens up to the first end are this description
abbrev pub Parses : List Token → Description → Type 0
Parses tokens given = Spells description most_levels tokens given

-- some description begins with the tokens
abbrev pub Begins : List Token → Type 0
Begins tokens = GoesOn description most_levels tokens

-- At the offset stands the first token with which no description goes on, or there the tokens end too soon.
abbrev pub FirstUnexpected : List Token → ℕ → Type 0
FirstUnexpected tokens offset =
    (front : List Token) × (rest : List Token) × StopsForGood description most_levels tokens front rest
    × (offset ≡ offset_at tokens rest)

-- At the offset stands the first token with which no description goes on, and with one level more one does.
abbrev pub FirstTooDeep : List Token → ℕ → Type 0
FirstTooDeep tokens offset =
    (front : List Token) × (rest : List Token) × StopsForLevels description most_levels tokens front rest
    × (offset ≡ offset_at tokens rest)

-- the fault that is due for the tokens
abbrev pub IsRefused : List Token → Fault → Type 0
IsRefused tokens Memory = ⊥
IsRefused tokens (Unexpected offset) = FirstUnexpected tokens offset
IsRefused tokens (TooDeep offset) = FirstTooDeep tokens offset
