-- Where source and stimulus are refused: at an offset in the source, or on a line of the stimulus.
use Rattle.std.specs.Prelude.{ℕ, Option, Some, None}
use Rattle.refusals.specs.declared.lexer.Fault as lexer
use Rattle.refusals.specs.declared.lexer.Fault.TheVariants as no_tokens
use Rattle.refusals.specs.declared.parser.Fault as parser
use Rattle.refusals.specs.declared.parser.Fault.TheVariants as no_description
use Rattle.refusals.specs.declared.types.Fault as types
use Rattle.refusals.specs.declared.types.Fault.TheVariants as not_typed
use Rattle.refusals.specs.declared.elaborate.Fault as elaborate
use Rattle.refusals.specs.declared.elaborate.Fault.TheVariants as no_system
use Rattle.refusals.specs.declared.sharing_check.Fault as sharing
use Rattle.refusals.specs.declared.sharing_check.Fault.TheVariants as not_shared

-- a fault of the lexer
abbrev pub lexer_offset : lexer.Fault → Option ℕ
lexer_offset no_tokens.Memory = None
lexer_offset (no_tokens.BadCharacter offset) = Some offset
lexer_offset (no_tokens.OpenComment offset) = Some offset
lexer_offset (no_tokens.NumberTooLarge offset) = Some offset

-- a fault of the parser
abbrev pub parser_offset : parser.Fault → Option ℕ
parser_offset no_description.Memory = None
parser_offset (no_description.Unexpected offset) = Some offset
parser_offset (no_description.TooDeep offset) = Some offset

-- a fault of typing
abbrev pub types_offset : types.Fault → Option ℕ
types_offset not_typed.Memory = None
types_offset (not_typed.UnknownName offset) = Some offset
types_offset (not_typed.NameTwice offset) = Some offset
types_offset (not_typed.WrongKind offset) = Some offset
types_offset (not_typed.TooWide offset) = Some offset
types_offset (not_typed.GuardNotOneBit offset) = Some offset
types_offset (not_typed.BadArm offset) = Some offset
types_offset (not_typed.PortMismatch offset) = Some offset
types_offset (not_typed.EnclosedTwice offset) = Some offset

-- a fault of the stimulus or of elaboration
abbrev pub elaborate_line : elaborate.Fault → Option ℕ
elaborate_line no_system.Memory = None
elaborate_line no_system.TooManyNodes = None
elaborate_line (no_system.BadStimulus line) = Some line

-- a fault of the rule on sharing
abbrev pub sharing_offset : sharing.Fault → Option ℕ
sharing_offset not_shared.Memory = None
sharing_offset (not_shared.SharedVariable offset) = Some offset
sharing_offset (not_shared.SharedChannel offset) = Some offset
