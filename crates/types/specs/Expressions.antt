-- Expressions: what they become, and how wide they are.
use Rattle.std.specs.Prelude.{ℕ, ◌+◌, List, ◌&&◌, nat_le, nat_eq, max, if◌then◌else◌, Ok, Err}
use Rattle.value.specs.Word.{Word, most_bits, least_width_of}
use Rattle.types.specs.Names.{VisibleNames, find}
use Rattle.types.specs.Uses.{type_use, value_use}
use Rattle.types.specs.Findings.{Verdict, Keeping, Findings, becomes, if_right, both}
use Rattle.types.specs.declared.expression.Valued.{Valued}
use Rattle.refusals.specs.declared.types.Fault.TheVariants.{TooWide, GuardNotOneBit}
use Rattle.types.specs.declared.tree.Expression.TheVariants as typed
use Rattle.types.specs.declared.tree.Binding.{Binding}
use Rattle.types.specs.declared.uses.Named.{Named}
use Rattle.types.specs.declared.uses.Named.TheVariants as named
use Rattle.syntax.specs.declared.expression.Expr.{Expr}
use Rattle.syntax.specs.declared.expression.Shape.TheFolds.{fold-Expr}
use Rattle.syntax.specs.declared.expression.Shape.TheOpen.{Expr-F, Shape-F}
use Rattle.syntax.specs.declared.expression.Operator.{Operator}
use Rattle.syntax.specs.declared.expression.Operator.TheVariants.{Add, Subtract, And, Or, Xor, Equal, NotEqual, Less, Greater, LessOrEqual, GreaterOrEqual}
use Rattle.syntax.specs.declared.expression.TypeName.{TypeName}
use Rattle.syntax.specs.declared.expression.TypeName.TheVariants.{Named as NamedType, Bits}
use Rattle.syntax.specs.declared.expression.Width.{Width}

-- a declared width is from 1 to the most bits of a number
unfoldable pub declared_width : Width → Verdict ℕ
declared_width declared =
    if nat_le 1 declared.bits
    && nat_le declared.bits most_bits then Ok declared.bits else Err (TooWide declared.span.start)

-- the width of a type
abbrev pub type_width : VisibleNames → List Binding → TypeName → Verdict ℕ
type_width names opened (NamedType identifier) = type_use (find names opened identifier.name) identifier.span.start
type_width names opened (Bits width) = declared_width width

-- how wide the value of an operator is over operands of these widths
abbrev pub operator_width : Operator → ℕ → ℕ → ℕ
operator_width Add left right = max left right + 1
operator_width Subtract left right = max left right
operator_width And left right = max left right
operator_width Or left right = max left right
operator_width Xor left right = max left right
operator_width Equal left right = 1
operator_width NotEqual left right = 1
operator_width Less left right = 1
operator_width Greater left right = 1
operator_width LessOrEqual left right = 1
operator_width GreaterOrEqual left right = 1

-- this, where the width of a guard at `start` is one bit
abbrev pub if_one_bit : {A : Type 0} → ℕ → ℕ → A → Verdict A
if_one_bit width start a = if nat_eq width 1 then Ok a else Err (GuardNotOneBit start)

-- a sum may not be wider than a number
abbrev pub width_within : ℕ → ℕ → Operator → Verdict ℕ
width_within start width Add = if nat_le width most_bits then Ok width else Err (TooWide start)
width_within start width _ = Ok width

-- a number at its least width
abbrev pub least_word : ℕ → Word
least_word n = record { bits = n; width = least_width_of n }

abbrev pub constant : Word → Valued
constant v = record { expression = typed.Constant v; width = v.width }

abbrev pub of_name : Named → Valued
of_name (named.Element v) = constant v
of_name (named.Variable variable w) = record { expression = typed.Variable variable w; width = w }
of_name (named.Received binding w) = record { expression = typed.Received binding w; width = w }

abbrev pub combined : Operator → Valued → Valued → ℕ → Valued
combined op left right width = record { expression = typed.Binary op left.expression right.expression; width = width }

abbrev pub complement : Valued → Valued
complement operand = record { expression = typed.Not operand.expression; width = operand.width }

abbrev pub cast : Valued → ℕ → Valued
cast operand width = record { expression = typed.Cast operand.expression width; width = width }

-- ---- what an expression is, whatever way its faults are kept

module _ (k : Keeping) where
  -- an operator over what its operands are
  unfoldable pub binary : Operator → ℕ → Findings k Valued → Findings k Valued → Findings k Valued
  binary op start left right = if_right (both k left right) (λ p.
      k.alone (becomes (combined op p.0 p.1) (width_within start (operator_width op p.0.width p.1.width) op)))

  -- what an expression is where these names are visible and these channels are open
  abbrev pub JudgedValue : Type 0
  JudgedValue = VisibleNames → List Binding → Findings k Valued

  -- one layer of an expression whose own first byte is at `start`
  abbrev pub shape_layer : Shape-F (ℕ → JudgedValue) JudgedValue → ℕ → JudgedValue
  shape_layer (Shape-F.Number n) start names opened = Ok (constant (least_word n))
  shape_layer (Shape-F.Name name) start names opened =
      k.alone (becomes of_name (value_use (find names opened name) start))
  shape_layer (Shape-F.Binary op left right) start names opened =
      binary op start (left names opened) (right names opened)
  shape_layer (Shape-F.Not operand) start names opened = becomes complement (operand names opened)
  shape_layer (Shape-F.Cast operand type) start names opened =
      becomes (λ p. cast p.0 p.1) (both k (operand names opened) (k.alone (type_width names opened type)))

  abbrev pub expression_layer : Expr-F (ℕ → JudgedValue) JudgedValue → JudgedValue
  expression_layer e = e.shape e.own_start

  abbrev pub judged_expression : Expr → JudgedValue
  judged_expression = fold-Expr (ℕ → JudgedValue) JudgedValue shape_layer expression_layer
