-- What is visible in a procedure, and how wide an expression can be there. Each rule goes over all declarations and
-- keeps each answer that one of them gives: `Laws.antt` says that in accepted descriptions there is exactly one.
use Rattle.std.specs.Prelude.{ℕ, ◌+◌, ◌-◌, List, [], ◌∷◌, ◌++◌, length, map, flat_map, ◌&&◌, nat_le, nat_eq, max, if◌then◌else◌}
use Rattle.std.specs.Cmp.Lexicographic.{pointwise}
use Rattle.value.specs.Word.{most_bits, least_width_of}
use Rattle.types.specs.Parts.{Name}
use Rattle.syntax.specs.declared.declaration.Description.{Description}
use Rattle.syntax.specs.declared.declaration.Local.{Local}
use Rattle.syntax.specs.declared.declaration.LocalKind.{LocalKind}
use Rattle.syntax.specs.declared.declaration.LocalKind.TheVariants as local_of
use Rattle.syntax.specs.declared.declaration.Port.{Port}
use Rattle.syntax.specs.declared.declaration.PortKind.{PortKind}
use Rattle.syntax.specs.declared.declaration.PortKind.TheVariants as port_of
use Rattle.syntax.specs.declared.declaration.Procedure.{Procedure}
use Rattle.syntax.specs.declared.declaration.TypeDeclaration.{TypeDeclaration}
use Rattle.syntax.specs.declared.declaration.TypeDefinition.{TypeDefinition}
use Rattle.syntax.specs.declared.declaration.TypeDefinition.TheVariants as type_of
use Rattle.syntax.specs.declared.expression.Expr.{Expr}
use Rattle.syntax.specs.declared.expression.Shape.TheFolds.{fold-Expr}
use Rattle.syntax.specs.declared.expression.Shape.TheOpen.{Expr-F, Shape-F}
use Rattle.syntax.specs.declared.expression.Operator.{Operator}
use Rattle.syntax.specs.declared.expression.Operator.TheVariants.{Add, Subtract, And, Or, Xor, Equal, NotEqual, Less, Greater, LessOrEqual, GreaterOrEqual}
use Rattle.syntax.specs.declared.expression.TypeName.{TypeName}
use Rattle.syntax.specs.declared.expression.TypeName.TheVariants.{Named, Bits}
use Rattle.syntax.specs.declared.name.Identifier.{Identifier}

-- a declaration of a name: the widths of the type that it names, and those of the value that it names
pub record Declaration : Type 0 where
  pub name : Name
  pub as_type : List ℕ
  pub as_value : List ℕ

-- the answers of all that declare the name
abbrev pub of_all : (Declaration → List ℕ) → List Declaration → Name → List ℕ
of_all answer declarations name = flat_map (λ d. if pointwise nat_eq name d.name then answer d else []) declarations

-- a width, if a value can have it
abbrev pub in_range : ℕ → List ℕ
in_range width = if nat_le 1 width && nat_le width most_bits then width ∷ [] else []

-- how wide a type can be
abbrev pub type_widths : List Declaration → TypeName → List ℕ
type_widths declarations (Named identifier) = of_all (λ d. d.as_type) declarations identifier.name
type_widths declarations (Bits width) = in_range width.bits

-- ---- what is visible

-- the least width of at least 1 that holds the number of each element
abbrev pub element_width : List Identifier → ℕ
element_width elements = least_width_of (length elements - 1)

-- a type, and the elements of an enumeration
abbrev pub of_definition : Name → TypeDefinition → List Declaration
of_definition name (type_of.Bits width) = record { name = name; as_type = in_range width.bits; as_value = [] } ∷ []
of_definition name (type_of.Enumeration elements) =
    record { name = name; as_type = element_width elements ∷ []; as_value = [] }
    ∷ map (λ element. record { name = element.name; as_type = []; as_value = element_width elements ∷ [] }) elements

abbrev pub of_procedure : Procedure → Declaration
of_procedure p = record { name = p.name.name; as_type = []; as_value = [] }

-- the widths of what passes through a port; inside a command that is enclosed by an input on it, its name is that value
abbrev pub port_widths : List Declaration → PortKind → List ℕ
port_widths outside (port_of.Input type) = type_widths outside type
port_widths outside (port_of.Output type) = type_widths outside type
port_widths outside port_of.Sync = []

-- the widths of what a local holds or passes on
abbrev pub local_widths : List Declaration → LocalKind → List ℕ
local_widths outside (local_of.Variable type) = type_widths outside type
local_widths outside (local_of.SharedVariable type) = type_widths outside type
local_widths outside (local_of.Channel type) = type_widths outside type
local_widths outside local_of.Sync = []

-- the names, of values of these widths
abbrev pub valued_names : List ℕ → List Identifier → List Declaration
valued_names widths names = map (λ name. record { name = name.name; as_type = []; as_value = widths }) names

-- what is declared outside of procedures before a procedure: the types, and the procedures before it
abbrev pub outside : List TypeDeclaration → List Procedure → List Declaration
outside types before =
    flat_map (λ (t : TypeDeclaration). of_definition t.name.name t.definition) types ++ map of_procedure before

-- what is visible in a procedure, in order of the source: what is declared outside before it, its ports and its locals
abbrev pub visible_in : List TypeDeclaration → List Procedure → Procedure → List Declaration
visible_in types before p =
    outside types before
    ++ (flat_map (λ (d : Port). valued_names (port_widths (outside types before) d.kind) d.names) p.ports
    ++ flat_map (λ (d : Local). valued_names (local_widths (outside types before) d.kind) d.names) p.locals)

-- ---- how wide an expression can be

-- an operator over operands of these widths
abbrev pub operator_widths : Operator → ℕ → ℕ → List ℕ
operator_widths Add left right = if nat_le (max left right + 1) most_bits then (max left right + 1) ∷ [] else []
operator_widths Subtract left right = max left right ∷ []
operator_widths And left right = max left right ∷ []
operator_widths Or left right = max left right ∷ []
operator_widths Xor left right = max left right ∷ []
operator_widths Equal left right = 1 ∷ []
operator_widths NotEqual left right = 1 ∷ []
operator_widths Less left right = 1 ∷ []
operator_widths Greater left right = 1 ∷ []
operator_widths LessOrEqual left right = 1 ∷ []
operator_widths GreaterOrEqual left right = 1 ∷ []

abbrev pub shape_widths : List Declaration → Shape-F (List ℕ) (List ℕ) → List ℕ
shape_widths declarations (Shape-F.Number n) = least_width_of n ∷ []
shape_widths declarations (Shape-F.Name name) = of_all (λ d. d.as_value) declarations name
shape_widths declarations (Shape-F.Binary op left right) =
    flat_map (λ a. flat_map (λ b. operator_widths op a b) right) left
shape_widths declarations (Shape-F.Not operand) = operand
shape_widths declarations (Shape-F.Cast operand type) = flat_map (λ _. type_widths declarations type) operand

abbrev pub expression_widths : Expr-F (List ℕ) (List ℕ) → List ℕ
expression_widths e = e.shape

-- the widths that an expression can have: one for each way to give each of its operands a width
abbrev pub widths_of : List Declaration → Expr → List ℕ
widths_of declarations = fold-Expr (List ℕ) (List ℕ) (shape_widths declarations) expression_widths
