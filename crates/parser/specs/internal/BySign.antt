-- What the code picks by a sign or a word, where the grammar names the form.
-- No reader has to believe it: `proofs/CommandLaws.antt` and `proofs/DeclarationLaws.antt` tie the readers of
-- `internal/Reading.antt` that use it to the grammar;
-- `made_of` stands in the clauses of `Joined` alone, which `command_of` ties to them at its two signs.
use Rattle.std.specs.Prelude.{List}
use Rattle.lexer.specs.declared.token.Kind.{Kind}
use Rattle.lexer.specs.declared.token.Kind.TheVariants as kind
use Rattle.syntax.specs.declared.name.Identifier.{Identifier}
use Rattle.syntax.specs.declared.expression.TypeName.{TypeName}
use Rattle.syntax.specs.declared.expression.Expr.{Expr}
use Rattle.syntax.specs.declared.command.Command.{Command}
use Rattle.syntax.specs.declared.command.Action.{Action}
use Rattle.syntax.specs.declared.command.Action.TheVariants as action
use Rattle.syntax.specs.declared.declaration.Port.{Port}
use Rattle.syntax.specs.declared.declaration.PortKind.TheVariants as port
use Rattle.syntax.specs.declared.declaration.Local.{Local}
use Rattle.syntax.specs.declared.declaration.LocalKind.TheVariants as local

-- what commands with this sign between them make
abbrev pub made_of : Kind → List Command → Action
made_of kind.DoubleBar = action.Parallel
made_of _ = action.Sequence

-- what an expression behind this sign does with the name before it
abbrev pub given_by : Kind → Identifier → Expr → Action
given_by kind.AssignSign = action.Assign
given_by _ = action.Send

-- what names and a type declare behind this word
abbrev pub typed_port : Kind → List Identifier → TypeName → Port
typed_port kind.InputWord = λ names given. record { names = names; kind = port.Input given }
typed_port _ = λ names given. record { names = names; kind = port.Output given }

abbrev pub typed_local : Kind → List Identifier → TypeName → Local
typed_local kind.VariableWord = λ names given. record { names = names; kind = local.Variable given }
typed_local kind.SharedWord = λ names given. record { names = names; kind = local.SharedVariable given }
typed_local _ = λ names given. record { names = names; kind = local.Channel given }

-- what names alone declare
abbrev pub synced_port : List Identifier → Port
synced_port names = record { names = names; kind = port.Sync }

abbrev pub synced_local : List Identifier → Local
synced_local names = record { names = names; kind = local.Sync }
