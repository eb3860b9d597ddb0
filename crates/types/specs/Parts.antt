-- What stands in a command, in an expression and in the declarations of a procedure: the names that are used there, and
-- the expressions.
use Rattle.std.specs.Prelude.{ℕ, List, [], ◌∷◌, ◌++◌, flat_map, Option, Some, None}
use Rattle.syntax.specs.declared.command.Action.TheFolds.{fold-Command}
use Rattle.syntax.specs.declared.command.Action.TheOpen.{Action-F, Arm-F, CaseArm-F, Command-F, Guarded-F}
use Rattle.syntax.specs.declared.command.Command.{Command}
use Rattle.syntax.specs.declared.command.Label.{Label}
use Rattle.syntax.specs.declared.command.LabelValue.{LabelValue}
use Rattle.syntax.specs.declared.command.LabelValue.TheVariants as label
use Rattle.syntax.specs.declared.declaration.Local.{Local}
use Rattle.syntax.specs.declared.declaration.LocalKind.{LocalKind}
use Rattle.syntax.specs.declared.declaration.LocalKind.TheVariants as local_of
use Rattle.syntax.specs.declared.declaration.Port.{Port}
use Rattle.syntax.specs.declared.declaration.PortKind.{PortKind}
use Rattle.syntax.specs.declared.declaration.PortKind.TheVariants as port_of
use Rattle.syntax.specs.declared.declaration.Procedure.{Procedure}
use Rattle.syntax.specs.declared.expression.Expr.{Expr}
use Rattle.syntax.specs.declared.expression.Shape.TheFolds.{fold-Expr}
use Rattle.syntax.specs.declared.expression.Shape.TheOpen.{Expr-F, Shape-F}
use Rattle.syntax.specs.declared.expression.TypeName.{TypeName}
use Rattle.syntax.specs.declared.expression.TypeName.TheVariants.{Named, Bits}
use Rattle.syntax.specs.declared.name.Identifier.{Identifier}

-- a name, by its bytes
abbrev pub Name : Type 0
Name = List ℕ

-- ---- types and expressions

-- the name that a type is written with, if any
abbrev pub names_of_type : TypeName → List Name
names_of_type (Named identifier) = identifier.name ∷ []
names_of_type (Bits width) = []

abbrev pub names_of_shape : Shape-F (List Name) (List Name) → List Name
names_of_shape (Shape-F.Number n) = []
names_of_shape (Shape-F.Name name) = name ∷ []
names_of_shape (Shape-F.Binary op left right) = left ++ right
names_of_shape (Shape-F.Not operand) = operand
names_of_shape (Shape-F.Cast operand type) = operand ++ names_of_type type

abbrev pub names_of_layer : Expr-F (List Name) (List Name) → List Name
names_of_layer e = e.shape

-- the names in an expression
abbrev pub names_of_expression : Expr → List Name
names_of_expression = fold-Expr (List Name) (List Name) names_of_shape names_of_layer

-- ---- commands

-- a name or an expression of a command
pub data Part : Type 0 where
  named : Name → Part
  valued : Expr → Part

abbrev pub part_of : Identifier → Part
part_of identifier = named identifier.name

abbrev pub parts_of_value : LabelValue → List Part
parts_of_value (label.Number n) = []
parts_of_value (label.Name name) = named name ∷ []

abbrev pub parts_of_label : Label → List Part
parts_of_label l = parts_of_value l.value

abbrev pub parts_of_last : Option (List Part) → List Part
parts_of_last None = []
parts_of_last (Some parts) = parts

-- those of one child behind those of another
abbrev pub parts_of_each : List (List Part) → List Part
parts_of_each children = flat_map (λ parts. parts) children

-- one layer of a command, one line a form
abbrev pub parts_of_action : Action-F (List Part) (List Part) (List Part) (List Part) (List Part) → List Part
parts_of_action Action-F.Continue = []
parts_of_action Action-F.Halt = []
parts_of_action (Action-F.Sync c) = part_of c ∷ []
parts_of_action (Action-F.Loop body) = body
parts_of_action (Action-F.While guard body) = valued guard ∷ body
parts_of_action (Action-F.If arms last) = parts_of_each arms ++ parts_of_last last
parts_of_action (Action-F.Case subject arms last) = valued subject ∷ (parts_of_each arms ++ parts_of_last last)
parts_of_action (Action-F.Select arms) = parts_of_each arms
parts_of_action (Action-F.Arbitrate first second) = parts_of_each (first ∷ second ∷ [])
parts_of_action (Action-F.Assign x e) = part_of x ∷ valued e ∷ []
parts_of_action (Action-F.Send c e) = part_of c ∷ valued e ∷ []
parts_of_action (Action-F.Receive c x) = part_of c ∷ part_of x ∷ []
parts_of_action (Action-F.Input c body) = part_of c ∷ body
parts_of_action (Action-F.Call p arguments) = part_of p ∷ flat_map (λ a. part_of a ∷ []) arguments
parts_of_action (Action-F.Sequence children) = parts_of_each children
parts_of_action (Action-F.Parallel children) = parts_of_each children

abbrev pub parts_of_arm : Arm-F (List Part) (List Part) (List Part) (List Part) (List Part) → List Part
parts_of_arm a = part_of a.channel ∷ a.body

abbrev pub parts_of_case_arm : CaseArm-F (List Part) (List Part) (List Part) (List Part) (List Part) → List Part
parts_of_case_arm a = flat_map parts_of_label a.labels ++ a.body

abbrev pub parts_of_layer : Command-F (List Part) (List Part) (List Part) (List Part) (List Part) → List Part
parts_of_layer c = c.action

abbrev pub parts_of_guarded : Guarded-F (List Part) (List Part) (List Part) (List Part) (List Part) → List Part
parts_of_guarded a = valued a.guard ∷ a.body

-- what stands in a command
abbrev pub parts_of_command : Command → List Part
parts_of_command =
    fold-Command (List Part) (List Part) (List Part) (List Part)
    (List Part) parts_of_action parts_of_arm parts_of_case_arm parts_of_layer parts_of_guarded

-- ---- procedures

abbrev pub names_of_part : Part → List Name
names_of_part (named name) = name ∷ []
names_of_part (valued e) = names_of_expression e

abbrev pub expressions_of_part : Part → List Expr
expressions_of_part (named name) = []
expressions_of_part (valued e) = e ∷ []

abbrev pub names_of_port : PortKind → List Name
names_of_port (port_of.Input type) = names_of_type type
names_of_port (port_of.Output type) = names_of_type type
names_of_port port_of.Sync = []

abbrev pub names_of_local : LocalKind → List Name
names_of_local (local_of.Variable type) = names_of_type type
names_of_local (local_of.SharedVariable type) = names_of_type type
names_of_local (local_of.Channel type) = names_of_type type
names_of_local local_of.Sync = []

-- the names that a procedure uses: those of the types of its ports and locals, and those in its body
abbrev pub names_used : Procedure → List Name
names_used p =
    flat_map (λ (d : Port). names_of_port d.kind) p.ports
    ++ (flat_map (λ (d : Local). names_of_local d.kind) p.locals
    ++ flat_map names_of_part (parts_of_command p.body))

-- the expressions in the body of a procedure, each with its operands in it
abbrev pub expressions_in : Procedure → List Expr
expressions_in p = flat_map expressions_of_part (parts_of_command p.body)
