-- The trees that productions build.
use Rattle.std.specs.Prelude.{List, [], ◌∷◌}
use Rattle.lexer.specs.declared.token.Kind.{Kind}
use Rattle.lexer.specs.declared.token.Kind.TheVariants as kind
use Rattle.lexer.specs.declared.token.Token.{Token}
use Rattle.syntax.specs.declared.span.Span.{Span}
use Rattle.syntax.specs.declared.name.Identifier.{Identifier}
use Rattle.syntax.specs.declared.expression.Width.{Width}
use Rattle.syntax.specs.declared.expression.Operator.{Operator}
use Rattle.syntax.specs.declared.expression.Operator.TheVariants as operator
use Rattle.syntax.specs.declared.expression.Expr.{Expr, roll-Expr, out-Expr}
use Rattle.syntax.specs.declared.expression.Shape.{Shape}
use Rattle.syntax.specs.declared.expression.Shape.TheVariants as shape
use Rattle.syntax.specs.declared.command.Label.{Label}
use Rattle.syntax.specs.declared.command.LabelValue.TheVariants as label
use Rattle.syntax.specs.declared.command.Command.{Command, roll-Command, out-Command}
use Rattle.syntax.specs.declared.command.Action.{Action}

-- from the beginning of the first to the end of the last
abbrev pub through : Span → Span → Span
through first last = record { start = first.start; stop = last.stop; line = first.line }

abbrev pub identifier_of : Token → Identifier
identifier_of token = record { span = token.span; name = token.text }

abbrev pub width_of : Token → Width
width_of token = record { span = token.span; bits = token.number }

-- a label that is written as a number
abbrev pub number_label : Token → Label
number_label token = record { span = token.span; value = label.Number token.number }

-- a label that is written as a name
abbrev pub name_label : Identifier → Label
name_label name = record { span = name.span; value = label.Name name.name }

abbrev pub span_of : Expr → Span
span_of expression = (out-Expr expression).span

-- an expression with no parentheses around it
abbrev pub expression_at : Span → Shape → Expr
expression_at span shape = roll-Expr (record { span = span; own_start = span.start; shape = shape })

-- the same expression in parentheses, which take up the span
abbrev pub in_parentheses : Span → Expr → Expr
in_parentheses span expression =
    roll-Expr (record { span = span; own_start = (out-Expr expression).own_start; shape = (out-Expr expression).shape })

-- the operator that a token between operands stands for
abbrev pub operator_of : Kind → Operator
operator_of kind.PlusSign = operator.Add
operator_of kind.MinusSign = operator.Subtract
operator_of kind.AndWord = operator.And
operator_of kind.OrWord = operator.Or
operator_of kind.XorWord = operator.Xor
operator_of kind.EqualSign = operator.Equal
operator_of kind.NotEqualSign = operator.NotEqual
operator_of kind.LessSign = operator.Less
operator_of kind.GreaterSign = operator.Greater
operator_of kind.LessOrEqualSign = operator.LessOrEqual
operator_of _ = operator.GreaterOrEqual

abbrev pub binary : Token → Expr → Expr → Expr
binary sign left right =
    expression_at (through (span_of left) (span_of right)) (shape.Binary (operator_of sign.kind) left right)

abbrev pub command_span : Command → Span
command_span command = (out-Command command).span

abbrev pub command_at : Span → Action → Command
command_at span action = roll-Command (record { span = span; action = action })

-- from the span to the end of the last of the commands
abbrev pub over : Span → List Command → Span
over span [] = span
over span (command ∷ []) = through span (command_span command)
over span (command ∷ next ∷ more) = over span (next ∷ more)
