-- What is tried to find the tokens that can stand.
-- No reader has to believe it: the contract of `viable_kinds` ties it to `Begins` of the grammar.
use Rattle.std.specs.Prelude.{◌≡◌, ◌⊎◌, ◌++◌, ℕ, List, take, drop}
use Rattle.lexer.specs.declared.token.Token.{Token}
use Rattle.lexer.specs.internal.Parts.{BeginsProcedure, HasNoEnd}
use Rattle.parser.specs.Accepted.{Begins, IsRefused, Parses}
use Rattle.refusals.specs.declared.parser.Fault.{Fault}
use Rattle.syntax.specs.declared.declaration.Description.{Description}

-- whatever stands behind the tokens, they are refused
abbrev pub IsHopeless : List Token → Type 0
IsHopeless tokens = (later : List Token) → (fault : Fault) × IsRefused (tokens ++ later) fault

-- the tokens are a description, and none of them is an end
abbrev pub IsWhole : List Token → Type 0
IsWhole tokens = ((given : Description) × Parses tokens given) × HasNoEnd tokens

-- what begins with `procedure` is behind these tokens what it is alone
pub record Passes (before : List Token) : Type 0 where
  pub begins : (part : List Token) → BeginsProcedure part → Begins part → Begins (before ++ part)
  pub refused : (part : List Token) → BeginsProcedure part → (fault : Fault) → IsRefused part fault →
      IsRefused (before ++ part) fault

-- the tokens from `first` on count: nothing stands before them, or they begin with `procedure` behind what is whole
abbrev pub Counts : List Token → ℕ → Type 0
Counts tokens first = (first ≡ 0) ⊎ (BeginsProcedure (drop first tokens) × Passes (take first tokens))
