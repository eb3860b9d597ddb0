-- What the fault of a pass becomes: want of memory is one fault, whichever pass met it.
use Rattle.refusals.specs.declared.lexer.Fault as lexer
use Rattle.refusals.specs.declared.lexer.Fault.TheVariants as no_tokens
use Rattle.refusals.specs.declared.parser.Fault as parser
use Rattle.refusals.specs.declared.parser.Fault.TheVariants as no_description
use Rattle.refusals.specs.declared.types.Fault as types
use Rattle.refusals.specs.declared.types.Fault.TheVariants as not_typed
use Rattle.typed_source.specs.declared.fault.Fault.{Fault}

-- a fault of the lexer
abbrev pub of_lexer : lexer.Fault → Fault
of_lexer no_tokens.Memory = Fault.Memory
of_lexer fault = Fault.Lexer fault

-- a fault of the parser
abbrev pub of_parser : parser.Fault → Fault
of_parser no_description.Memory = Fault.Memory
of_parser fault = Fault.Parser fault

-- a fault of typing
abbrev pub of_types : types.Fault → Fault
of_types not_typed.Memory = Fault.Memory
of_types fault = Fault.Types fault
