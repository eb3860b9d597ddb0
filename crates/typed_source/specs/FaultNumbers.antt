-- The numbers and offsets of the faults of a source.
use Rattle.std.specs.Prelude.{ℕ, Option, None}
use Rattle.refusals.specs.Numbers.{lexer_number, parser_number, types_number}
use Rattle.refusals.specs.Places.{lexer_offset, parser_offset, types_offset}
use Rattle.typed_source.specs.declared.fault.Fault.{Fault}
use Rattle.typed_source.specs.declared.fault.Fault.TheVariants.{Memory, Lexer, Parser, Types}

-- the number of a refusal of the source
abbrev pub source_number : Fault → ℕ
source_number Memory = 1
source_number (Lexer fault) = lexer_number fault
source_number (Parser fault) = parser_number fault
source_number (Types fault) = types_number fault

-- where a fault of the source is
abbrev pub source_offset : Fault → Option ℕ
source_offset Memory = None
source_offset (Lexer fault) = lexer_offset fault
source_offset (Parser fault) = parser_offset fault
source_offset (Types fault) = types_offset fault
