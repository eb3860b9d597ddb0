-- What a description declares: types, and procedures with their ports and locals.
use Rattle.std.specs.Prelude.{ℕ, suc, ◌-◌, List, [], ◌∷◌, ◌++◌, length, map, Ok, Err}
use Rattle.value.specs.Word.{least_width_of}
use Rattle.types.specs.Commands.{Scope, judged_command}
use Rattle.types.specs.Expressions.{declared_width, type_width}
use Rattle.types.specs.Findings.{Verdict, Keeping, Findings, every, becomes, both, and, demands, with_next}
use Rattle.types.specs.Names.{VisibleNames, declared, is_fresh, port_meaning, local_meaning}
use Rattle.types.specs.declared.scope.Meaning.{Meaning}
use Rattle.types.specs.declared.scope.Meaning.TheVariants as meaning
use Rattle.types.specs.declared.tree.Local.{Local}
use Rattle.types.specs.declared.tree.LocalKind.{LocalKind}
use Rattle.types.specs.declared.tree.LocalKind.TheVariants as local
use Rattle.types.specs.declared.tree.Port.{Port}
use Rattle.types.specs.declared.tree.PortKind.{PortKind}
use Rattle.types.specs.declared.tree.PortKind.TheVariants as port
use Rattle.types.specs.declared.tree.Procedure.{Procedure}
use Rattle.syntax.specs.declared.declaration.Description.{Description}
use Rattle.syntax.specs.declared.declaration.Local as tree_local
use Rattle.syntax.specs.declared.declaration.LocalKind as tree_local_kind
use Rattle.syntax.specs.declared.declaration.LocalKind.TheVariants as local_of
use Rattle.syntax.specs.declared.declaration.Port as tree_port
use Rattle.syntax.specs.declared.declaration.PortKind as tree_port_kind
use Rattle.syntax.specs.declared.declaration.PortKind.TheVariants as port_of
use Rattle.syntax.specs.declared.declaration.Procedure as tree_procedure
use Rattle.syntax.specs.declared.declaration.TypeDeclaration.{TypeDeclaration}
use Rattle.syntax.specs.declared.declaration.TypeDefinition.{TypeDefinition}
use Rattle.syntax.specs.declared.declaration.TypeDefinition.TheVariants.{Bits, Enumeration}
use Rattle.syntax.specs.declared.expression.TypeName.{TypeName}
use Rattle.syntax.specs.declared.name.Identifier.{Identifier}

-- that a width is right
abbrev pub demanded : Verdict ℕ → Verdict (Unit {0})
demanded width = becomes (λ _. tt) width

-- a width, or one bit, so that a name whose type has a fault can be used without a further one
abbrev pub width_or_one : Verdict ℕ → ℕ
width_or_one (Ok width) = width
width_or_one (Err fault) = 1

-- the least width of at least 1 that holds the numbers of so many elements
abbrev pub enumeration_width : ℕ → ℕ
enumeration_width count = least_width_of (count - 1)

-- the width of a type, or one bit where it has a fault
abbrev pub type_width_or_one : VisibleNames → TypeName → ℕ
type_width_or_one names type = width_or_one (type_width names [] type)

abbrev pub port_kind : VisibleNames → tree_port_kind.PortKind → PortKind
port_kind names (port_of.Input type) = port.Input (type_width_or_one names type)
port_kind names (port_of.Output type) = port.Output (type_width_or_one names type)
port_kind names port_of.Sync = port.Sync

abbrev pub local_kind : VisibleNames → tree_local_kind.LocalKind → LocalKind
local_kind names (local_of.Variable type) = local.Variable (type_width_or_one names type)
local_kind names (local_of.SharedVariable type) = local.SharedVariable (type_width_or_one names type)
local_kind names (local_of.Channel type) = local.Channel (type_width_or_one names type)
local_kind names local_of.Sync = local.Sync

abbrev pub one_port : PortKind → Identifier → Port
one_port kind name = record { name = name.name; declared = name.span.start; kind = kind }

abbrev pub one_local : LocalKind → Identifier → Local
one_local kind name = record { name = name.name; declared = name.span.start; kind = kind }

-- that the type of a port is right where these names are visible
abbrev pub port_type : VisibleNames → tree_port_kind.PortKind → Verdict (Unit {0})
port_type names (port_of.Input type) = demanded (type_width names [] type)
port_type names (port_of.Output type) = demanded (type_width names [] type)
port_type names port_of.Sync = Ok tt

abbrev pub local_type : VisibleNames → tree_local_kind.LocalKind → Verdict (Unit {0})
local_type names (local_of.Variable type) = demanded (type_width names [] type)
local_type names (local_of.SharedVariable type) = demanded (type_width names [] type)
local_type names (local_of.Channel type) = demanded (type_width names [] type)
local_type names local_of.Sync = Ok tt

module _ (k : Keeping) where
  -- ---- types

  -- the names that are visible so far, and whether the declarations so far are right
  pub record SoFar : Type 0 where
    pub names : VisibleNames
    pub right : Findings k (Unit {0})

  -- one more name
  abbrev pub with_name : SoFar → Identifier → Meaning → SoFar
  with_name s name m = record {
    names = declared s.names name.name m;
    right = and k s.right (k.alone (is_fresh s.names name.name name.span.start));
  }

  -- elements of an enumeration of this width, the first of them number n
  abbrev pub with_elements : ℕ → ℕ → SoFar → List Identifier → SoFar
  with_elements width n s [] = s
  with_elements width n s (element ∷ rest) =
      with_elements width (suc n) (with_name s element (meaning.Element (record { bits = n; width = width }))) rest

  -- a further demand
  abbrev pub with_demand : SoFar → Verdict (Unit {0}) → SoFar
  with_demand s demand = record { names = s.names; right = and k s.right (k.alone demand) }

  abbrev pub with_definition : SoFar → Identifier → TypeDefinition → SoFar
  with_definition s name (Bits width) =
      with_demand (with_name s name (meaning.TypeName (width_or_one (declared_width width))))
      (demanded (declared_width width))
  with_definition s name (Enumeration elements) =
      with_elements (enumeration_width (length elements)) 0
      (with_name s name (meaning.TypeName (enumeration_width (length elements)))) elements

  -- the types of a description, each visible from its declaration on
  abbrev pub with_types : SoFar → List TypeDeclaration → SoFar
  with_types s [] = s
  with_types s (t ∷ rest) = with_types (with_definition s t.name t.definition) rest

  -- ---- ports and locals

  -- the names that are visible so far, the ports or locals so far, and whether their names are new
  pub record Declared (A : Type 0) : Type 0 where
    pub names : VisibleNames
    pub made : List A
    pub right : Findings k (Unit {0})

  abbrev pub with_one : {A : Type 0} → Declared A → Identifier → Meaning → A → Declared A
  with_one s name m one = record {
    names = declared s.names name.name m;
    made = s.made ++ one ∷ [];
    right = and k s.right (k.alone (is_fresh s.names name.name name.span.start));
  }

  -- ports of one kind
  abbrev pub with_ports : PortKind → Declared Port → List Identifier → Declared Port
  with_ports kind s [] = s
  with_ports kind s (name ∷ rest) =
      with_ports kind (with_one s name (port_meaning (length s.made) kind) (one_port kind name)) rest

  -- locals of one kind
  abbrev pub with_locals : LocalKind → Declared Local → List Identifier → Declared Local
  with_locals kind s [] = s
  with_locals kind s (name ∷ rest) =
      with_locals kind (with_one s name (local_meaning (length s.made) kind) (one_local kind name)) rest

  -- the ports of a procedure
  abbrev pub all_ports : Declared Port → List tree_port.Port → Declared Port
  all_ports s [] = s
  all_ports s (d ∷ rest) = all_ports (with_ports (port_kind s.names d.kind) s d.names) rest

  -- the locals of a procedure
  abbrev pub all_locals : Declared Local → List tree_local.Local → Declared Local
  all_locals s [] = s
  all_locals s (d ∷ rest) = all_locals (with_locals (local_kind s.names d.kind) s d.names) rest

  -- nothing declared yet behind these names
  abbrev pub behind : {A : Type 0} → VisibleNames → Declared A
  behind names = record { names = names; made = []; right = Ok tt }

  abbrev pub port_types : VisibleNames → List tree_port.Port → Findings k (Unit {0})
  port_types names ports = demands k (map (λ d. port_type names d.kind) ports)

  abbrev pub local_types : VisibleNames → List tree_local.Local → Findings k (Unit {0})
  local_types names locals = demands k (map (λ d. local_type names d.kind) locals)

  -- ---- procedures

  abbrev pub ports_of : VisibleNames → tree_procedure.Procedure → Declared Port
  ports_of names p = all_ports (behind names) p.ports

  abbrev pub locals_of : VisibleNames → tree_procedure.Procedure → Declared Local
  locals_of names p = all_locals (behind (ports_of names p).names) p.locals

  -- the scope of the body: all ports and locals, but not the procedure itself
  abbrev pub scope_inside : Scope → tree_procedure.Procedure → Scope
  scope_inside scope p = record { names = (locals_of scope.names p).names; procedures = scope.procedures }

  -- what the types of the ports and locals owe, where all of these are visible
  abbrev pub types_right : VisibleNames → tree_procedure.Procedure → Findings k (Unit {0})
  types_right names p = and k (port_types names p.ports) (local_types names p.locals)

  -- what the declarations of a procedure owe
  unfoldable pub declarations_right : Scope → tree_procedure.Procedure → Findings k (Unit {0})
  declarations_right scope p =
      and k (k.alone (is_fresh scope.names p.name.name p.name.span.start))
      (and k (and k (ports_of scope.names p).right (locals_of scope.names p).right)
      (types_right (scope_inside scope p).names p))

  -- a procedure with this scope before it
  unfoldable pub judged_procedure : Scope → tree_procedure.Procedure → Findings k Procedure
  judged_procedure scope p =
      becomes
      (λ q. record {
        name = p.name.name;
        ports = (ports_of scope.names p).made;
        locals = (locals_of scope.names p).made;
        body = q.1;
      })
      (both k (declarations_right scope p) (judged_command k p.body (scope_inside scope p) []))

  -- the scope behind the end of a procedure: the procedure, and nothing that it declares
  abbrev pub after_procedure : Scope → tree_procedure.Procedure → Scope
  after_procedure scope p = record {
    names = declared scope.names p.name.name (meaning.Procedure (length scope.procedures));
    procedures = scope.procedures ++ map (λ q. q.kind) (ports_of scope.names p).made ∷ [];
  }

  -- procedures one after another, behind those that are judged already
  abbrev pub with_procedures : Scope → Findings k (List Procedure) → List tree_procedure.Procedure →
      Findings k (List Procedure)
  with_procedures scope done [] = done
  with_procedures scope done (p ∷ rest) =
      with_procedures (after_procedure scope p) (with_next k done (judged_procedure scope p)) rest

  -- ---- the whole

  abbrev pub types_of : Description → SoFar
  types_of d = with_types (record { names = []; right = Ok tt }) d.types

  -- what a description is: its procedures where it is typed, or its faults
  unfoldable pub judged_description : Description → Findings k (List Procedure)
  judged_description d =
      becomes (λ p. p.1)
      (both k (types_of d).right
      (with_procedures (record { names = (types_of d).names; procedures = [] }) (Ok []) d.procedures))

-- a description with all its faults
unfoldable pub found_description : Description → Findings every (List Procedure)
found_description = judged_description every
