-- What is answered of a description is the least of all its faults.
use Rattle.std.proofs.Common.{◌≡◌, ℕ, suc, List, [], ◌∷◌, length, map, Ok, Err, IfOk, IfErr, refl, ap, sym, ◌∙◌}
use Rattle.types.specs.Commands.{Scope, judged_command}
use Rattle.types.specs.Declarations.{SoFar, with_name, with_elements, with_definition, with_demand, with_types, enumeration_width, width_or_one, demanded, Declared, with_one, with_ports, with_locals, all_ports, all_locals, one_port, one_local, port_kind, local_kind, port_type, local_type, port_types, local_types, behind, ports_of, locals_of, scope_inside, after_procedure, types_of, declarations_right, judged_procedure, with_procedures, judged_description, found_description}
use Rattle.types.specs.Expressions.{declared_width}
use Rattle.types.specs.Findings.{Verdict, Findings, becomes, both, and, with_next, one_fault, every, IsRefused}
use Rattle.types.specs.Names.{VisibleNames, declared, is_fresh, port_meaning, local_meaning}
use Rattle.types.specs.internal.Least.{least}
use Rattle.types.specs.declared.scope.Meaning.{Meaning}
use Rattle.types.specs.declared.scope.Meaning.TheVariants as meaning
use Rattle.types.specs.declared.tree.Local.{Local}
use Rattle.types.specs.declared.tree.LocalKind.{LocalKind}
use Rattle.types.specs.declared.tree.Port.{Port}
use Rattle.types.specs.declared.tree.PortKind.{PortKind}
use Rattle.types.specs.declared.tree.Procedure.{Procedure}
use Rattle.syntax.specs.declared.declaration.Description.{Description}
use Rattle.syntax.specs.declared.declaration.Local as tree_local
use Rattle.syntax.specs.declared.declaration.Port as tree_port
use Rattle.syntax.specs.declared.declaration.Procedure as tree_procedure
use Rattle.syntax.specs.declared.declaration.TypeDeclaration.{TypeDeclaration}
use Rattle.syntax.specs.declared.declaration.TypeDefinition.{TypeDefinition}
use Rattle.syntax.specs.declared.declaration.TypeDefinition.TheVariants.{Bits, Enumeration}
use Rattle.syntax.specs.declared.name.Identifier.{Identifier}
use Rattle.types.proofs.Least.{answer, answer-one_fault, joined_is, and_is, demands_are, with_next_is, right_from, refused_from}
use Rattle.types.proofs.LeastCommands.{command_agrees}

-- one more demand
more_is : (x : Findings every (Unit {0})) (demand : Verdict (Unit {0})) → answer (and every x (one_fault demand)) ≡ and least (answer x) demand
more_is x demand = and_is x (one_fault demand) (answer x) demand refl (answer-one_fault demand)

-- ---- types

-- the same names, and what is answered of the faults
abbrev answered : SoFar every → SoFar least
answered s = record { names = s.names; right = answer s.right }

name_is : (s : SoFar every) (name : Identifier) (m : Meaning) → answered (with_name every s name m) ≡ with_name least (answered s) name m
name_is s name m =
    ap (λ (r : Verdict (Unit {0})). record { names = declared s.names name.name m; right = r }) (more_is s.right (is_fresh s.names name.name name.span.start))

elements_are : (width n : ℕ) (s : SoFar every) (elements : List Identifier)
    → answered (with_elements every width n s elements) ≡ with_elements least width n (answered s) elements
elements_are width n s [] = refl
elements_are width n s (element ∷ rest) =
    elements_are width (suc n) (with_name every s element (meaning.Element (record { bits = n; width = width }))) rest
    ∙ ap (λ z. with_elements least width (suc n) z rest) (name_is s element _)

definition_is : (s : SoFar every) (name : Identifier) (d : TypeDefinition)
    → answered (with_definition every s name d) ≡ with_definition least (answered s) name d
definition_is s name (Bits width) =
    let named = with_name every s name (meaning.TypeName (width_or_one (declared_width width))) in
    ap (λ (r : Verdict (Unit {0})). record { names = named.names; right = r }) (more_is named.right (demanded (declared_width width)))
    ∙ ap (λ z. with_demand least z (demanded (declared_width width))) (name_is s name _)
definition_is s name (Enumeration elements) =
    elements_are (enumeration_width (length elements)) 0 (with_name every s name (meaning.TypeName (enumeration_width (length elements)))) elements
    ∙ ap (λ z. with_elements least (enumeration_width (length elements)) 0 z elements) (name_is s name _)

types_are : (s : SoFar every) (types : List TypeDeclaration) → answered (with_types every s types) ≡ with_types least (answered s) types
types_are s [] = refl
types_are s (t ∷ rest) =
    types_are (with_definition every s t.name t.definition) rest ∙ ap (λ z. with_types least z rest) (definition_is s t.name t.definition)

-- ---- ports and locals

abbrev made_of : {A : Type 0} → Declared every A → Declared least A
made_of s = record { names = s.names; made = s.made; right = answer s.right }

one_is : {A : Type 0} (s : Declared every A) (name : Identifier) (m : Meaning) (one : A)
    → made_of (with_one every s name m one) ≡ with_one least (made_of s) name m one
one_is s name m one =
    ap (λ (r : Verdict (Unit {0})). record { names = declared s.names name.name m; made = (with_one every s name m one).made; right = r })
    (more_is s.right (is_fresh s.names name.name name.span.start))

ports_are : (kind : PortKind) (s : Declared every Port) (names : List Identifier)
    → made_of (with_ports every kind s names) ≡ with_ports least kind (made_of s) names
ports_are kind s [] = refl
ports_are kind s (name ∷ rest) =
    ports_are kind (with_one every s name (port_meaning (length s.made) kind) (one_port kind name)) rest
    ∙ ap (λ z. with_ports least kind z rest) (one_is s name _ _)

locals_are : (kind : LocalKind) (s : Declared every Local) (names : List Identifier)
    → made_of (with_locals every kind s names) ≡ with_locals least kind (made_of s) names
locals_are kind s [] = refl
locals_are kind s (name ∷ rest) =
    locals_are kind (with_one every s name (local_meaning (length s.made) kind) (one_local kind name)) rest
    ∙ ap (λ z. with_locals least kind z rest) (one_is s name _ _)

all_ports_are : (s : Declared every Port) (ds : List tree_port.Port) → made_of (all_ports every s ds) ≡ all_ports least (made_of s) ds
all_ports_are s [] = refl
all_ports_are s (d ∷ rest) =
    all_ports_are (with_ports every (port_kind s.names d.kind) s d.names) rest
    ∙ ap (λ z. all_ports least z rest) (ports_are (port_kind s.names d.kind) s d.names)

all_locals_are : (s : Declared every Local) (ds : List tree_local.Local) → made_of (all_locals every s ds) ≡ all_locals least (made_of s) ds
all_locals_are s [] = refl
all_locals_are s (d ∷ rest) =
    all_locals_are (with_locals every (local_kind s.names d.kind) s d.names) rest
    ∙ ap (λ z. all_locals least z rest) (locals_are (local_kind s.names d.kind) s d.names)

-- ---- procedures

ports_of_is : (names : VisibleNames) (p : tree_procedure.Procedure) → made_of (ports_of every names p) ≡ ports_of least names p
ports_of_is names p = all_ports_are (behind every names) p.ports

locals_of_is : (names : VisibleNames) (p : tree_procedure.Procedure) → made_of (locals_of every names p) ≡ locals_of least names p
locals_of_is names p =
    all_locals_are (behind every (ports_of every names p).names) p.locals
    ∙ ap (λ (z : Declared least Port). all_locals least (behind least z.names) p.locals) (ports_of_is names p)

scope_inside_is : (scope : Scope) (p : tree_procedure.Procedure) → scope_inside every scope p ≡ scope_inside least scope p
scope_inside_is scope p = ap (λ (z : Declared least Local). record { names = z.names; procedures = scope.procedures }) (locals_of_is scope.names p)

after_is : (scope : Scope) (p : tree_procedure.Procedure) → after_procedure every scope p ≡ after_procedure least scope p
after_is scope p = rw (← ports_of_is scope.names p) refl

declarations_are : (scope : Scope) (p : tree_procedure.Procedure) → answer (declarations_right every scope p) ≡ declarations_right least scope p
unfolding declarations_right
declarations_are scope p =
    and_is _ _ _ _ (answer-one_fault _)
    (and_is _ _ _ _
    (and_is _ _ _ _ (ap (λ (z : Declared least Port). z.right) (ports_of_is scope.names p)) (ap (λ (z : Declared least Local). z.right) (locals_of_is scope.names p)))
    (and_is _ _ _ _
    (demands_are (map (λ d. port_type (scope_inside every scope p).names d.kind) p.ports) ∙ ap (λ (z : Scope). port_types least z.names p.ports) (scope_inside_is scope p))
    (demands_are (map (λ d. local_type (scope_inside every scope p).names d.kind) p.locals) ∙ ap (λ (z : Scope). local_types least z.names p.locals) (scope_inside_is scope p))))

-- the procedure with these ports and these locals
abbrev procedure_with : Scope → tree_procedure.Procedure → List Port → VisibleNames → List Local → Verdict Procedure
procedure_with scope p ports names locals =
    becomes (λ q. record { name = p.name.name; ports = ports; locals = locals; body = q.1 })
    (both least (declarations_right least scope p) (judged_command least p.body (record { names = names; procedures = scope.procedures }) []))

procedure_is : (scope : Scope) (p : tree_procedure.Procedure) → answer (judged_procedure every scope p) ≡ judged_procedure least scope p
unfolding judged_procedure
procedure_is scope p =
    joined_is _ (declarations_right every scope p) (judged_command every p.body (scope_inside every scope p) []) _ _ (declarations_are scope p)
    (command_agrees p.body (scope_inside every scope p) [])
    ∙ ap (λ (z : Declared least Port). procedure_with scope p z.made (locals_of every scope.names p).names (locals_of every scope.names p).made)
    (ports_of_is scope.names p)
    ∙ ap (λ (z : Declared least Local). procedure_with scope p (ports_of least scope.names p).made z.names z.made) (locals_of_is scope.names p)

procedures_are : (scope : Scope) (done : Findings every (List Procedure)) (ps : List tree_procedure.Procedure)
    → answer (with_procedures every scope done ps) ≡ with_procedures least scope (answer done) ps
procedures_are scope done [] = refl
procedures_are scope done (p ∷ rest) =
    procedures_are (after_procedure every scope p) (with_next every done (judged_procedure every scope p)) rest
    ∙ ap (λ z. with_procedures least z (answer (with_next every done (judged_procedure every scope p))) rest) (after_is scope p)
    ∙ ap (λ z. with_procedures least (after_procedure least scope p) z rest)
    (with_next_is done (judged_procedure every scope p) (answer done) (judged_procedure least scope p) refl (procedure_is scope p))

types_of_is : (d : Description) → answered (types_of every d) ≡ types_of least d
types_of_is d = types_are (record { names = []; right = Ok tt }) d.types

pub description_agrees : (d : Description) → answer (found_description d) ≡ judged_description least d
unfolding found_description judged_description
description_agrees d =
    joined_is _ _ _ _ _ (ap (λ (s : SoFar least). s.right) (types_of_is d))
    (procedures_are (record { names = (types_of every d).names; procedures = [] }) (Ok []) d.procedures
    ∙ ap (λ (s : SoFar least). with_procedures least (record { names = s.names; procedures = [] }) (Ok []) d.procedures) (types_of_is d))

-- a description is typed where nothing is one_fault
pub typed_from : (d : Description) (made : Verdict (List Procedure)) → made ≡ judged_description least d → IfOk made (λ typed. found_description d ≡ Ok typed)
typed_from d (Ok typed) e = right_from (found_description d) typed (description_agrees d ∙ sym e)
typed_from d (Err fault) e = tt

-- else the answer is the least fault
pub refused_with : (d : Description) (made : Verdict (List Procedure)) → made ≡ judged_description least d
    → IfErr made (λ fault. IsRefused (found_description d) fault)
refused_with d (Ok typed) e = tt
refused_with d (Err fault) e = refused_from (found_description d) fault (description_agrees d ∙ sym e)
