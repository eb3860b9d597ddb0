-- How wide types and expressions are by the rules of the language: in accepted descriptions each has exactly one width,
-- and so has each operand in an expression.
use Rattle.std.specs.Prelude.{◌≡◌, ℕ, ◌+◌, ◌≤◌, List, [], ◌∷◌, ◌++◌, flat_map, max}
use Rattle.value.specs.Word.{most_bits, least_width_of}
use Rattle.types.specs.Laws.{IsAccepted}
use Rattle.types.specs.Parts.{Name, expressions_in}
use Rattle.types.specs.Visible.{Declaration, outside, visible_in}
use Rattle.syntax.specs.Lists.{In, Every}
use Rattle.syntax.specs.declared.declaration.Description.{Description}
use Rattle.syntax.specs.declared.declaration.Local.{Local}
use Rattle.syntax.specs.declared.declaration.LocalKind.{LocalKind}
use Rattle.syntax.specs.declared.declaration.LocalKind.TheVariants as local_of
use Rattle.syntax.specs.declared.declaration.Port.{Port}
use Rattle.syntax.specs.declared.declaration.PortKind.{PortKind}
use Rattle.syntax.specs.declared.declaration.PortKind.TheVariants as port_of
use Rattle.syntax.specs.declared.declaration.Procedure.{Procedure}
use Rattle.syntax.specs.declared.expression.Expr.{Expr, out-Expr}
use Rattle.syntax.specs.declared.expression.Operator.{Operator}
use Rattle.syntax.specs.declared.expression.Operator.TheVariants.{Add, Subtract, And, Or, Xor, Equal, NotEqual, Less, Greater, LessOrEqual, GreaterOrEqual}
use Rattle.syntax.specs.declared.expression.Shape.{Shape, out-Shape}
use Rattle.syntax.specs.declared.expression.Shape.TheOpen.{Shape-F}
use Rattle.syntax.specs.declared.expression.TypeName.{TypeName}
use Rattle.syntax.specs.declared.expression.TypeName.TheVariants.{Named, Bits}

abbrev pub shape_of : Expr → Shape-F Shape Expr
shape_of e = out-Shape (out-Expr e).shape

-- the name is that of a value of this width, or of what passes such values on (as a value it stands inside an arm on it
-- alone: `received` in `SameTree.antt`)
abbrev pub NameHasWidth : List Declaration → Name → ℕ → Type 0
NameHasWidth visible name width =
    (d : Declaration) × In d visible × (d.name ≡ name) × In width d.as_value

-- the type has this width
abbrev pub TypeHasWidth : List Declaration → TypeName → ℕ → Type 0
TypeHasWidth visible (Named identifier) width =
    (d : Declaration) × In d visible × (d.name ≡ identifier.name) × In width d.as_type
TypeHasWidth visible (Bits declared) width = (width ≡ declared.bits) × (1 ≤ width) × (width ≤ most_bits)

-- The operator gives a value of this width over operands of those: a sum is one bit wider than the wider of them, and
-- no wider than a number can be; a difference, or what is taken bit by bit, is as wide as the wider; a comparison is
-- one bit wide.
abbrev pub OperatorGives : Operator → ℕ → ℕ → ℕ → Type 0
OperatorGives Add left right width = (width ≡ max left right + 1) × (width ≤ most_bits)
OperatorGives Subtract left right width = width ≡ max left right
OperatorGives And left right width = width ≡ max left right
OperatorGives Or left right width = width ≡ max left right
OperatorGives Xor left right width = width ≡ max left right
OperatorGives Equal left right width = width ≡ 1
OperatorGives NotEqual left right width = width ≡ 1
OperatorGives Less left right width = width ≡ 1
OperatorGives Greater left right width = width ≡ 1
OperatorGives LessOrEqual left right width = width ≡ 1
OperatorGives GreaterOrEqual left right width = width ≡ 1

-- the expression has this width where these are visible, a rule a form
pub data HasWidth (visible : List Declaration) : Expr → ℕ → Type 0 where
  of_number : (e : Expr) (n width : ℕ) → shape_of e ≡ Shape-F.Number n → width ≡ least_width_of n →
      HasWidth visible e width
  of_name : (e : Expr) (n : Name) (width : ℕ) → shape_of e ≡ Shape-F.Name n → NameHasWidth visible n width →
      HasWidth visible e width
  of_operator : (e : Expr) (op : Operator) (left right : Expr) (a b width : ℕ) →
      shape_of e ≡ Shape-F.Binary op left right → HasWidth visible left a → HasWidth visible right b →
      OperatorGives op a b width → HasWidth visible e width
  of_not : (e operand : Expr) (width : ℕ) → shape_of e ≡ Shape-F.Not operand → HasWidth visible operand width →
      HasWidth visible e width
  of_cast : (e operand : Expr) (type : TypeName) (a width : ℕ) → shape_of e ≡ Shape-F.Cast operand type →
      HasWidth visible operand a → TypeHasWidth visible type width → HasWidth visible e width

-- the expression has this width and no other
abbrev pub HasThisAlone : List Declaration → Expr → ℕ → Type 0
HasThisAlone visible e width =
    HasWidth visible e width × ((other : ℕ) → HasWidth visible e other → other ≡ width)

abbrev pub NameHasThisAlone : List Declaration → Name → ℕ → Type 0
NameHasThisAlone visible name width =
    NameHasWidth visible name width × ((other : ℕ) → NameHasWidth visible name other → other ≡ width)

abbrev pub TypeHasThisAlone : List Declaration → TypeName → ℕ → Type 0
TypeHasThisAlone visible type width =
    TypeHasWidth visible type width × ((other : ℕ) → TypeHasWidth visible type other → other ≡ width)

-- ---- types of ports and locals

abbrev pub type_of_port : PortKind → List TypeName
type_of_port (port_of.Input type) = type ∷ []
type_of_port (port_of.Output type) = type ∷ []
type_of_port port_of.Sync = []

abbrev pub type_of_local : LocalKind → List TypeName
type_of_local (local_of.Variable type) = type ∷ []
type_of_local (local_of.SharedVariable type) = type ∷ []
type_of_local (local_of.Channel type) = type ∷ []
type_of_local local_of.Sync = []

-- the types with which a procedure declares its ports and its locals
abbrev pub types_written : Procedure → List TypeName
types_written p =
    flat_map (λ (d : Port). type_of_port d.kind) p.ports ++ flat_map (λ (d : Local). type_of_local d.kind) p.locals

-- In an accepted description each type of a port or local has exactly one width.
abbrev pub TypesHaveOneWidth : Type 0
TypesHaveOneWidth =
    (d : Description) → IsAccepted d →
    (before : List Procedure) (p : Procedure) (behind : List Procedure) → d.procedures ≡ before ++ p ∷ behind →
    Every (λ type. (width : ℕ) × TypeHasThisAlone (outside d.types before) type width) (types_written p)

-- ---- expressions and their operands

-- the expression x is e, or stands in an operand of e
pub data StandsIn (x : Expr) : Expr → Type 0 where
  itself : StandsIn x x
  left_of : (e : Expr) (op : Operator) (left right : Expr) → shape_of e ≡ Shape-F.Binary op left right →
      StandsIn x left → StandsIn x e
  right_of : (e : Expr) (op : Operator) (left right : Expr) → shape_of e ≡ Shape-F.Binary op left right →
      StandsIn x right → StandsIn x e
  inside_not : (e operand : Expr) → shape_of e ≡ Shape-F.Not operand → StandsIn x operand → StandsIn x e
  inside_cast : (e operand : Expr) (type : TypeName) → shape_of e ≡ Shape-F.Cast operand type → StandsIn x operand →
      StandsIn x e

-- In an accepted description each expression, and each operand in it, has exactly one width by the rules.
abbrev pub OperandsHaveOneWidth : Type 0
OperandsHaveOneWidth =
    (d : Description) → IsAccepted d →
    (before : List Procedure) (p : Procedure) (behind : List Procedure) → d.procedures ≡ before ++ p ∷ behind →
    Every
    (λ whole. (e : Expr) → StandsIn e whole → (width : ℕ) × HasThisAlone (visible_in d.types before p) e width)
    (expressions_in p)
