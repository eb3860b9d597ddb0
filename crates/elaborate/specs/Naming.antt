-- What the names of a body stand for.
use Rattle.std.specs.Prelude.{ℕ, List, map, slice_index_or}
use Rattle.types.specs.declared.tree.Binding.{Binding}
use Rattle.types.specs.declared.tree.Binding.TheVariants as binding
use Rattle.types.specs.declared.tree.ChannelUse.{ChannelUse}
use Rattle.types.specs.declared.tree.VariableUse.{VariableUse}
use Rattle.types.specs.declared.tree.Expression.{Expression}
use Rattle.types.specs.declared.tree.Expression.TheOpen.{Expression-F}
use Rattle.types.specs.declared.tree.Expression.TheFolds.{fold-Expression}
use Rattle.system.specs.declared.expression.Use.{Use}
use Rattle.system.specs.declared.expression.Expression as named
use Rattle.system.specs.declared.expression.Expression.TheViews as expression
use Rattle.value.specs.declared.Comparison.TheVariants as comparison
use Rattle.syntax.specs.declared.expression.Operator.{Operator}
use Rattle.syntax.specs.declared.expression.Operator.TheVariants as written
use Rattle.system.specs.declared.expression.Operator as elaborated
use Rattle.system.specs.declared.expression.Operator.TheVariants as operator

-- the channel that stands for each port, and the number of each local
pub record Names : Type 0 where
  pub ports : List ℕ
  pub locals : List ℕ

-- the operator that is written so
abbrev pub operator_of : Operator → elaborated.Operator
operator_of written.Add = operator.Add
operator_of written.Subtract = operator.Subtract
operator_of written.And = operator.And
operator_of written.Or = operator.Or
operator_of written.Xor = operator.Xor
operator_of written.Equal = operator.Compare comparison.Equal
operator_of written.NotEqual = operator.Compare comparison.NotEqual
operator_of written.Less = operator.Compare comparison.Less
operator_of written.Greater = operator.Compare comparison.Greater
operator_of written.LessOrEqual = operator.Compare comparison.LessOrEqual
operator_of written.GreaterOrEqual = operator.Compare comparison.GreaterOrEqual

-- the number at a place, 0 where there are not so many
abbrev pub number_at : List ℕ → ℕ → ℕ
number_at numbers place = slice_index_or numbers place 0

-- the channel that a port or local is
abbrev pub channel_at : Names → Binding → ℕ
channel_at names (binding.Port p) = number_at names.ports p
channel_at names (binding.Local p) = number_at names.locals p

-- a use of a channel, with its number
abbrev pub channel_use : Names → ChannelUse → Use
channel_use names u = record { number = channel_at names u.channel; offset = u.offset }

-- a use of a variable, with its number
abbrev pub variable_use : Names → VariableUse → Use
variable_use names u = record { number = number_at names.locals u.variable; offset = u.offset }

-- the channels of the arguments of a call
abbrev pub channels_of : Names → List ChannelUse → List ℕ
channels_of names uses = map (λ u. channel_at names u.channel) uses

-- one layer of an expression with numbers for its names
abbrev pub expression_layer : Names → Expression-F named.Expression → named.Expression
expression_layer names (Expression-F.Constant v) = named.Constant v
expression_layer names (Expression-F.Variable x w) = named.Variable (variable_use names x) w
expression_layer names (Expression-F.Received c w) = named.Received (channel_at names c) w
expression_layer names (Expression-F.Binary op a b) = expression.Binary (operator_of op) a b
expression_layer names (Expression-F.Not a) = expression.Not a
expression_layer names (Expression-F.Cast a w) = expression.Cast a w

-- the expression with numbers for its names
abbrev pub expression_in : Names → Expression → named.Expression
expression_in names = fold-Expression named.Expression (expression_layer names)
