-- What commands ask of widths: a guard is one bit wide, what is put somewhere has room there, and a call passes for
-- each port what is as wide. (That what is assigned to is a variable, and what is sent on or passed a channel of the
-- right kind, `SameTree.antt` says.)
use Rattle.std.specs.Prelude.{◌≡◌, ℕ, ◌≤◌, List, [], ◌∷◌, ◌++◌, map, flat_map, Option, Some, None}
use Rattle.value.specs.Word.{least_width_of}
use Rattle.types.specs.Laws.{IsAccepted}
use Rattle.types.specs.Parts.{Name}
use Rattle.types.specs.Visible.{Declaration, outside, visible_in}
use Rattle.types.specs.Widths.{HasThisAlone, NameHasThisAlone, TypeHasThisAlone}
use Rattle.syntax.specs.Lists.{In, Every}
use Rattle.syntax.specs.declared.command.Action.TheFolds.{fold-Command}
use Rattle.syntax.specs.declared.command.Action.TheOpen.{Action-F, Arm-F, CaseArm-F, Command-F, Guarded-F}
use Rattle.syntax.specs.declared.command.Command.{Command}
use Rattle.syntax.specs.declared.command.Label.{Label}
use Rattle.syntax.specs.declared.command.LabelValue.{LabelValue}
use Rattle.syntax.specs.declared.command.LabelValue.TheVariants as label
use Rattle.syntax.specs.declared.declaration.Description.{Description}
use Rattle.syntax.specs.declared.declaration.Port.{Port}
use Rattle.syntax.specs.declared.declaration.PortKind.{PortKind}
use Rattle.syntax.specs.declared.declaration.PortKind.TheVariants as port_of
use Rattle.syntax.specs.declared.declaration.Procedure.{Procedure}
use Rattle.syntax.specs.declared.declaration.TypeDeclaration.{TypeDeclaration}
use Rattle.syntax.specs.declared.expression.Expr.{Expr}
use Rattle.syntax.specs.declared.name.Identifier.{Identifier}

pub data Demand : Type 0 where
  -- the guard is one bit wide
  one_bit : Expr → Demand
  -- the value has room in what the name names: what it is assigned to, or what it is sent on
  has_room : Expr → Name → Demand
  -- what comes over what the first names has room in what the second names
  is_received : Name → Name → Demand
  -- the label has room in the expression
  may_match : Label → Expr → Demand
  -- the procedure takes these, one for each of its ports
  takes : Name → List Name → Demand

-- ---- what a command demands

abbrev pub demands_of_last : Option (List Demand) → List Demand
demands_of_last None = []
demands_of_last (Some demands) = demands

abbrev pub demands_of_each : List (List Demand) → List Demand
demands_of_each children = flat_map (λ demands. demands) children

-- an arm of `case`: its labels, and what its command demands
abbrev pub InArm : Type 0
InArm = List Label × List Demand

abbrev pub demands_of_labels : Expr → List InArm → List Demand
demands_of_labels subject arms = flat_map (λ (a : InArm). map (λ l. may_match l subject) a.0 ++ a.1) arms

-- one layer of a command, one line a form
abbrev pub demands_of_action : Action-F (List Demand) (List Demand) InArm (List Demand) (List Demand) → List Demand
demands_of_action Action-F.Continue = []
demands_of_action Action-F.Halt = []
demands_of_action (Action-F.Sync c) = []
demands_of_action (Action-F.Loop body) = body
demands_of_action (Action-F.While guard body) = one_bit guard ∷ body
demands_of_action (Action-F.If arms last) = demands_of_each arms ++ demands_of_last last
demands_of_action (Action-F.Case subject arms last) = demands_of_labels subject arms ++ demands_of_last last
demands_of_action (Action-F.Select arms) = demands_of_each arms
demands_of_action (Action-F.Arbitrate first second) = demands_of_each (first ∷ second ∷ [])
demands_of_action (Action-F.Assign x e) = has_room e x.name ∷ []
demands_of_action (Action-F.Send c e) = has_room e c.name ∷ []
demands_of_action (Action-F.Receive c x) = is_received c.name x.name ∷ []
demands_of_action (Action-F.Input c body) = body
demands_of_action (Action-F.Call p arguments) = takes p.name (map (λ (a : Identifier). a.name) arguments) ∷ []
demands_of_action (Action-F.Sequence children) = demands_of_each children
demands_of_action (Action-F.Parallel children) = demands_of_each children

abbrev pub demands_of_arm : Arm-F (List Demand) (List Demand) InArm (List Demand) (List Demand) → List Demand
demands_of_arm a = a.body

abbrev pub demands_of_case_arm : CaseArm-F (List Demand) (List Demand) InArm (List Demand) (List Demand) → InArm
demands_of_case_arm a = (a.labels, a.body)

abbrev pub demands_of_layer : Command-F (List Demand) (List Demand) InArm (List Demand) (List Demand) → List Demand
demands_of_layer c = c.action

abbrev pub demands_of_guarded : Guarded-F (List Demand) (List Demand) InArm (List Demand) (List Demand) → List Demand
demands_of_guarded a = one_bit a.guard ∷ a.body

-- what a command demands, with all commands in it
abbrev pub demands_of_command : Command → List Demand
demands_of_command =
    fold-Command (List Demand) (List Demand) InArm (List Demand)
    (List Demand) demands_of_action demands_of_arm demands_of_case_arm demands_of_layer demands_of_guarded

-- ---- demands that are met

abbrev pub LabelHasThisAlone : List Declaration → LabelValue → ℕ → Type 0
LabelHasThisAlone visible (label.Number n) width = width ≡ least_width_of n
LabelHasThisAlone visible (label.Name name) width = NameHasThisAlone visible name width

-- of this name is something that has no value: what passes no data
abbrev pub PassesNone : List Declaration → Name → Type 0
PassesNone visible name = (d : Declaration) × In d visible × (d.name ≡ name) × (d.as_value ≡ [])

-- the port, of a type that stands behind these types, is as wide as what is of this name
abbrev pub PortTakes : List Declaration → List Declaration → PortKind → Name → Type 0
PortTakes types visible (port_of.Input type) name =
    (width : ℕ) × TypeHasThisAlone types type width × NameHasThisAlone visible name width
PortTakes types visible (port_of.Output type) name =
    (width : ℕ) × TypeHasThisAlone types type width × NameHasThisAlone visible name width
PortTakes types visible port_of.Sync name = PassesNone visible name

abbrev pub PortsTake : List Declaration → List Declaration → List PortKind → List Name → Type 0
PortsTake types visible [] [] = Unit {0}
PortsTake types visible [] (name ∷ names) = ⊥
PortsTake types visible (kind ∷ kinds) [] = ⊥
PortsTake types visible (kind ∷ kinds) (name ∷ names) =
    PortTakes types visible kind name × PortsTake types visible kinds names

-- the kind of each port of a procedure, in order
abbrev pub ports_in_order : Procedure → List PortKind
ports_in_order p = flat_map (λ (d : Port). map (λ (name : Identifier). d.kind) d.names) p.ports

-- the widths that it speaks of are the only ones, and fit, where these procedures stand before
abbrev pub IsMet : List TypeDeclaration → List Procedure → List Declaration → Demand → Type 0
IsMet types before visible (one_bit e) = HasThisAlone visible e 1
IsMet types before visible (has_room e name) =
    (width : ℕ) × (room : ℕ) × HasThisAlone visible e width × NameHasThisAlone visible name room × (width ≤ room)
IsMet types before visible (is_received channel variable) =
    (width : ℕ) × (room : ℕ) × NameHasThisAlone visible channel width × NameHasThisAlone visible variable room
    × (width ≤ room)
IsMet types before visible (may_match l e) =
    (width : ℕ) × (room : ℕ) × LabelHasThisAlone visible l.value width × HasThisAlone visible e room × (width ≤ room)
IsMet types before visible (takes name arguments) =
    (first : List Procedure) × (p : Procedure) × (rest : List Procedure) × (before ≡ first ++ p ∷ rest)
    × (p.name.name ≡ name) × PortsTake (outside types first) visible (ports_in_order p) arguments

-- In an accepted description each demand is met.
abbrev pub DemandsAreMet : Type 0
DemandsAreMet =
    (d : Description) → IsAccepted d →
    (before : List Procedure) (p : Procedure) (behind : List Procedure) → d.procedures ≡ before ++ p ∷ behind →
    Every (IsMet d.types before (visible_in d.types before p)) (demands_of_command p.body)
