-- A source whose tokens are made part by part.
-- No reader has to believe it: `HasRead` holds of nothing read, and where the source ends the parts together are its
-- tokens by `AreTokens` of
-- `Tokens.antt`.
use Rattle.std.specs.Prelude.{◌≡◌, ◌≢◌, ℕ, ◌+◌, ◌≤◌, List, [], ◌∷◌, ◌++◌, length, take, drop, Some, ◌⊎◌}
use Rattle.std.specs.List.{All}
use Rattle.syntax.specs.Texts.{Text}
use Rattle.lexer.specs.Refusal.{IsRefused}
use Rattle.lexer.specs.Table.{reserved_word}
use Rattle.lexer.specs.Tokens.{AreTokens, behind}
use Rattle.lexer.specs.internal.Fronts.{IsFront}
use Rattle.lexer.specs.internal.Reached.{Reaches}
use Rattle.lexer.specs.Standing.{position_of, rest_of}
use Rattle.lexer.specs.declared.class.Class.TheVariants.{Blank, Word}
use Rattle.lexer.specs.declared.lexing.Found.{Found}
use Rattle.lexer.specs.declared.lexing.Lexing.{Lexing}
use Rattle.lexer.specs.declared.lexing.Stop.{Stop}
use Rattle.lexer.specs.declared.lexing.Stop.TheVariants.{Full, Procedure, EndOfSource}
use Rattle.lexer.specs.declared.token.Kind.TheVariants.{End, ProcedureWord}
use Rattle.lexer.specs.declared.token.Token.{Token}
use Rattle.refusals.specs.declared.lexer.Fault.{Fault}

-- the source is read up to what is left, and these are the tokens of what is read
abbrev pub HasRead : Text → List Token → Lexing → Type 0
HasRead source tokens lexing = Reaches source tokens (position_of lexing) (rest_of lexing)

-- between the two these tokens are read
abbrev pub Goes : Lexing → List Token → Lexing → Type 0
Goes old added new =
    (source : Text) (before : List Token) → HasRead source before old → HasRead source (before ++ added) new

-- these tokens are all that are left
abbrev pub Ends : Lexing → List Token → Type 0
Ends lexing added =
    (source : Text) (before : List Token) → HasRead source before lexing → AreTokens source (before ++ added)

-- what is left is refused
abbrev pub Refuses : Lexing → Fault → Type 0
Refuses lexing fault = (source : Text) (before : List Token) → HasRead source before lexing → IsRefused source fault

-- what is left can be read to its end
abbrev pub IsRest : Lexing → Type 0
IsRest lexing =
    (source : Text) (before : List Token) → HasRead source before lexing →
    (later : List Token) × AreTokens source (before ++ later)

-- none of the tokens is the end of the source
abbrev pub HasNoEnd : List Token → Type 0
HasNoEnd tokens = All (λ (token : Token). token.kind ≢ End) tokens

-- the piece was cut off the one, and the other is left
pub record IsCutOff (old : Lexing) (found : Found) (new : Lexing) : Type 0 where
  pub size : ℕ
  pub front : IsFront found.class size (rest_of old)
  pub text : found.text.now ≡ take size (rest_of old)
  pub position : found.position ≡ position_of old
  pub behind : position_of new ≡ behind (position_of old) (take size (rest_of old))
  pub rest : rest_of new ≡ drop size (rest_of old)

-- the blanks at the front are behind
pub record IsBehindBlanks (old new : Lexing) : Type 0 where
  pub size : ℕ
  pub front : IsFront Blank size (rest_of old)
  pub behind : position_of new ≡ behind (position_of old) (take size (rest_of old))
  pub rest : rest_of new ≡ drop size (rest_of old)

-- the blanks at the front are behind, if there were any
abbrev pub Skips : Lexing → Lexing → Type 0
Skips old new = (new ≡ old) ⊎ IsBehindBlanks old new

-- what is left begins with the word `procedure`
pub record IsAtProcedure (lexing : Lexing) : Type 0 where
  pub size : ℕ
  pub front : IsFront Word size (rest_of lexing)
  pub word : reserved_word (take size (rest_of lexing)) ≡ Some ProcedureWord

-- the first of the tokens is the word `procedure`
abbrev pub BeginsProcedure : List Token → Type 0
BeginsProcedure [] = ⊥
BeginsProcedure (token ∷ _) = token.kind ≡ ProcedureWord

-- each of the tokens took a byte and more
abbrev pub TakesBytes : Lexing → List Token → Lexing → Type 0
TakesBytes old added new = length added + length (rest_of new) ≤ length (rest_of old)

-- what is read in a part, by where it ends
abbrev pub IsPart : Stop → ℕ → Lexing → List Token → Lexing → Type 0
IsPart Full most old added new = Goes old added new × HasNoEnd added × (length added ≡ most) × TakesBytes old added new
IsPart Procedure most old added new =
    Goes old added new × HasNoEnd added × (length added ≤ most) × TakesBytes old added new × IsAtProcedure new
IsPart EndOfSource most old added new = Ends old added × (length added ≤ most)

-- what was read before a fault is behind what the part held
abbrev pub IsKept : Lexing → List Token → Lexing → List Token → Type 0
IsKept old before new part = (added : List Token) × (part ≡ before ++ added) × Goes old added new
