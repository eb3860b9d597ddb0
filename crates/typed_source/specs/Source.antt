-- What it is for a source to be typed, and to be refused.
use Rattle.std.specs.Prelude.{◌≡◌, ◌≢◌, ℕ, List, Ok}
use Rattle.lexer.specs.Refusal as lexer
use Rattle.lexer.specs.Tokens.{AreTokens}
use Rattle.lexer.specs.declared.token.Token.{Token}
use Rattle.parser.specs.Accepted as parser
use Rattle.refusals.specs.declared.types.Fault.TheVariants as not_typed
use Rattle.syntax.specs.declared.declaration.Description.{Description}
use Rattle.types.specs.declared.tree.Procedure.{Procedure}
use Rattle.types.specs.Declarations.{found_description}
use Rattle.types.specs.Findings as types
use Rattle.typed_source.specs.declared.fault.Fault.{Fault}

-- the source is this description
abbrev pub Describes : List ℕ → Description → Type 0
Describes source description = (tokens : List Token) × AreTokens source tokens × parser.Parses tokens description

-- the source is a description without a fault, and these are its procedures
abbrev pub IsTyped : List ℕ → List Procedure → Type 0
IsTyped source procedures =
    (description : Description) × Describes source description × (found_description description ≡ Ok procedures)

-- the first pass that refuses the source refuses it for this reason; want of memory is `Memory`, whichever pass met it
abbrev pub IsRefused : List ℕ → Fault → Type 0
IsRefused source Fault.Memory = Unit {0}
IsRefused source (Fault.Lexer fault) = lexer.IsRefused source fault
IsRefused source (Fault.Parser fault) =
    (tokens : List Token) × AreTokens source tokens × parser.IsRefused tokens fault
IsRefused source (Fault.Types fault) =
    (fault ≢ not_typed.Memory)
    × ((description : Description) × Describes source description
    × types.IsRefused (found_description description) fault)
