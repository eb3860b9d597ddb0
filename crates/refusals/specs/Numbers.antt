-- The numbers by which programs know the refusals of source and stimulus.
use Rattle.std.specs.Prelude.{ℕ}
use Rattle.refusals.specs.declared.lexer.Fault as lexer
use Rattle.refusals.specs.declared.lexer.Fault.TheVariants as no_tokens
use Rattle.refusals.specs.declared.parser.Fault as parser
use Rattle.refusals.specs.declared.parser.Fault.TheVariants as no_description
use Rattle.refusals.specs.declared.types.Fault as types
use Rattle.refusals.specs.declared.types.Fault.TheVariants as not_typed
use Rattle.refusals.specs.declared.elaborate.Fault as elaborate
use Rattle.refusals.specs.declared.elaborate.Fault.TheVariants as no_system
use Rattle.refusals.specs.declared.sharing_check.Fault as sharing
use Rattle.refusals.specs.declared.sharing_check.Fault.TheVariants as not_shared

-- a fault of the lexer
abbrev pub lexer_number : lexer.Fault → ℕ
lexer_number no_tokens.Memory = 1
lexer_number (no_tokens.BadCharacter offset) = 2
lexer_number (no_tokens.OpenComment offset) = 3
lexer_number (no_tokens.NumberTooLarge offset) = 4

-- a fault of the parser
abbrev pub parser_number : parser.Fault → ℕ
parser_number no_description.Memory = 1
parser_number (no_description.Unexpected offset) = 5
parser_number (no_description.TooDeep offset) = 6

-- a fault of typing
abbrev pub types_number : types.Fault → ℕ
types_number not_typed.Memory = 1
types_number (not_typed.UnknownName offset) = 7
types_number (not_typed.NameTwice offset) = 8
types_number (not_typed.WrongKind offset) = 9
types_number (not_typed.TooWide offset) = 10
types_number (not_typed.GuardNotOneBit offset) = 11
types_number (not_typed.BadArm offset) = 12
types_number (not_typed.PortMismatch offset) = 13
types_number (not_typed.EnclosedTwice offset) = 17

-- a fault of the stimulus or of elaboration
abbrev pub elaborate_number : elaborate.Fault → ℕ
elaborate_number no_system.Memory = 1
elaborate_number no_system.TooManyNodes = 14
elaborate_number (no_system.BadStimulus line) = 51

-- a fault of the rule on sharing
abbrev pub sharing_number : sharing.Fault → ℕ
sharing_number not_shared.Memory = 1
sharing_number (not_shared.SharedVariable offset) = 15
sharing_number (not_shared.SharedChannel offset) = 16
