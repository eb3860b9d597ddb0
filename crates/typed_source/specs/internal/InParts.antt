-- A source that is typed part by part: what is known behind each part.
-- No reader has to believe it: where the last part is read, it comes to `IsTyped` and `IsRefused` of `Source.antt`.
use Rattle.std.specs.Prelude.{◌≡◌, ℕ, Bool, true, false, List, ◌++◌}
use Rattle.lexer.specs.Tokens.{AreTokens}
use Rattle.lexer.specs.declared.lexing.Lexing.{Lexing}
use Rattle.lexer.specs.declared.lexing.Stop.{Stop}
use Rattle.lexer.specs.declared.lexing.Stop.TheVariants.{Full, Procedure, EndOfSource}
use Rattle.lexer.specs.declared.token.Token.{Token}
use Rattle.lexer.specs.internal.Parts.{HasRead, HasNoEnd, Goes, Ends, Refuses, TakesBytes}
use Rattle.parser.specs.Accepted as parser
use Rattle.parser.specs.internal.Parts.{Opens}
use Rattle.lexer.specs.internal.Parts.{BeginsProcedure}
use Rattle.syntax.specs.declared.declaration.Description.{Description}
use Rattle.types.specs.declared.typing.Typing.{Typing}
use Rattle.types.specs.internal.Judged.{Judges}
use Rattle.typed_source.specs.declared.fault.Fault.{Fault}
use Rattle.typed_source.specs.declared.part.Part.{Part}

-- between the two these tokens are read, up to the end or not
abbrev pub ReadsPart : Bool → Lexing → List Token → Lexing → Type 0
ReadsPart true old part new = Ends old part
ReadsPart false old part new = Goes old part new × HasNoEnd part × TakesBytes old part new

-- whether reading stopped where the source ends
abbrev pub is_end : Stop → Bool
is_end Full = false
is_end Procedure = false
is_end EndOfSource = true

-- the part is read, and it begins with these tokens
abbrev pub ReadsOn : Bool → Lexing → List Token → List Token → Lexing → Type 0
ReadsOn is_last old front part new = ((added : List Token) × (part ≡ front ++ added)) × ReadsPart is_last old part new

-- no description begins with the part, where the source can be cut at all
abbrev pub RefusesPart : Lexing → List Token → Fault → Type 0
RefusesPart old part Fault.Memory = Unit {0}
RefusesPart old part (Fault.Lexer fault) = Refuses old fault
RefusesPart old part (Fault.Parser fault) =
    (source : List ℕ) (before : List Token) → HasRead source before old
    → (later : List Token) × AreTokens source (before ++ (part ++ later)) × parser.IsRefused (part ++ later) fault
RefusesPart old part (Fault.Types fault) = ⊥

-- the same of the next part, of which the first token is known where one has to be
abbrev pub RefusesNext : Bool → Lexing → Fault → Type 0
RefusesNext is_first old Fault.Memory = Unit {0}
RefusesNext is_first old (Fault.Lexer fault) = Refuses old fault
RefusesNext is_first old (Fault.Parser fault) =
    (part : List Token) × (is_first ≡ false → BeginsProcedure part) × RefusesPart old part (Fault.Parser fault)
RefusesNext is_first old (Fault.Types fault) = ⊥

-- the part is read between the two, and a first token is known where one has to be
abbrev pub IsNext : Bool → Lexing → Part → Lexing → Type 0
IsNext is_first old part new =
    (tokens : List Token) × (is_first ≡ false → BeginsProcedure tokens) × ReadsPart part.is_last old tokens new
    × parser.Parses tokens part.description

-- the tokens read so far are this description, and its types and procedures are judged
pub record Stands (source : List ℕ) (is_last : Bool) (lexing : Lexing) (typing : Typing) : Type 0 where
  pub before : List Token
  pub given : Description
  pub all : is_last ≡ true → AreTokens source before × parser.Parses before given
  pub some : is_last ≡ false → HasRead source before lexing × Opens before given
  pub judged : Judges typing given
