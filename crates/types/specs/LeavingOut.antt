-- An accepted description stays accepted without one of several names that a declaration declares, and without ports,
-- where they are not used.
use Rattle.std.specs.Prelude.{◌≡◌, ◌↔◌, List, [], ◌∷◌, ◌++◌, map, flat_map, Ok}
use Rattle.types.specs.Declarations.{found_description}
use Rattle.types.specs.Laws.{IsAccepted, Apart}
use Rattle.types.specs.Parts.{Name, names_used}
use Rattle.types.specs.Visible.{element_width}
use Rattle.types.specs.declared.tree.Procedure as typed
use Rattle.syntax.specs.declared.declaration.Local.{Local}
use Rattle.syntax.specs.declared.declaration.Port.{Port}
use Rattle.syntax.specs.declared.declaration.Procedure.{Procedure}
use Rattle.syntax.specs.declared.declaration.TypeDeclaration.{TypeDeclaration}
use Rattle.syntax.specs.declared.declaration.TypeDefinition.TheVariants as type_of
use Rattle.syntax.specs.declared.name.Identifier.{Identifier}

-- ---- locals

-- the locals of a procedure where one declaration of them has these names
abbrev pub with_local_names : Procedure → List Local → Local → List Identifier → List Local → Procedure
with_local_names p front l names back = record p { locals = front ++ record l { names = names } ∷ back }

-- Some of the names of a declaration of locals may stand in a declaration of their own: the description becomes the
-- same.
abbrev pub LocalsMayStandApart : Type 0
LocalsMayStandApart =
    (types : List TypeDeclaration) (before : List Procedure) (p : Procedure) (behind : List Procedure) →
    (front : List Local) (l : Local) (back : List Local) (some others : List Identifier) →
    (procedures : List typed.Procedure) →
    (found_description (record {
      types = types;
      procedures = before ++ with_local_names p front l (some ++ others) back ∷ behind;
    }) ≡ Ok procedures)
    ↔ (found_description (record {
      types = types;
      procedures = before ++ with_local_names p front l some (record l { names = others } ∷ back) ∷ behind;
    }) ≡ Ok procedures)

-- An accepted description stays accepted without one of the names of a declaration of locals, where their procedure
-- does not use it.
abbrev pub OneLocalMayBeLeftOut : Type 0
OneLocalMayBeLeftOut =
    (types : List TypeDeclaration) (before : List Procedure) (p : Procedure) (behind : List Procedure) →
    (front : List Local) (l : Local) (back : List Local) →
    (first : List Identifier) (name : Identifier) (others : List Identifier) →
    IsAccepted (record {
      types = types;
      procedures = before ++ with_local_names p front l (first ++ name ∷ others) back ∷ behind;
    }) →
    Apart (name.name ∷ []) (names_used (with_local_names p front l (first ++ name ∷ others) back)) →
    IsAccepted (record {
      types = types;
      procedures = before ++ with_local_names p front l (first ++ others) back ∷ behind;
    })

-- ---- ports

abbrev pub spelled : List Identifier → List Name
spelled names = map (λ (name : Identifier). name.name) names

-- none of these procedures names this one
abbrev pub IsUnnamed : Procedure → List Procedure → Type 0
IsUnnamed p behind = Apart (p.name.name ∷ []) (flat_map names_used behind)

-- An accepted description stays accepted without a declaration of ports that their procedure does not use, where no
-- procedure behind it names this one: a call would pass an argument for each of its ports.
abbrev pub PortsMayBeLeftOut : Type 0
PortsMayBeLeftOut =
    (types : List TypeDeclaration) (before : List Procedure) (p : Procedure) (behind : List Procedure) →
    (front : List Port) (d : Port) (back : List Port) →
    IsAccepted (record { types = types; procedures = before ++ record p { ports = front ++ d ∷ back } ∷ behind }) →
    Apart (spelled d.names) (names_used (record p { ports = front ++ d ∷ back })) →
    IsUnnamed p behind →
    IsAccepted (record { types = types; procedures = before ++ record p { ports = front ++ back } ∷ behind })

-- the ports of a procedure where one declaration of them has these names
abbrev pub with_port_names : Procedure → List Port → Port → List Identifier → List Port → Procedure
with_port_names p front d names back = record p { ports = front ++ record d { names = names } ∷ back }

-- Some of the names of a declaration of ports may stand in a declaration of their own: the description becomes the
-- same.
abbrev pub PortsMayStandApart : Type 0
PortsMayStandApart =
    (types : List TypeDeclaration) (before : List Procedure) (p : Procedure) (behind : List Procedure) →
    (front : List Port) (d : Port) (back : List Port) (some others : List Identifier) →
    (procedures : List typed.Procedure) →
    (found_description (record {
      types = types;
      procedures = before ++ with_port_names p front d (some ++ others) back ∷ behind;
    }) ≡ Ok procedures)
    ↔ (found_description (record {
      types = types;
      procedures = before ++ with_port_names p front d some (record d { names = others } ∷ back) ∷ behind;
    }) ≡ Ok procedures)

-- An accepted description stays accepted without one of the names of a declaration of ports, under the same conditions.
abbrev pub OnePortMayBeLeftOut : Type 0
OnePortMayBeLeftOut =
    (types : List TypeDeclaration) (before : List Procedure) (p : Procedure) (behind : List Procedure) →
    (front : List Port) (d : Port) (back : List Port) →
    (first : List Identifier) (name : Identifier) (others : List Identifier) →
    IsAccepted (record {
      types = types;
      procedures = before ++ with_port_names p front d (first ++ name ∷ others) back ∷ behind;
    }) →
    Apart (name.name ∷ []) (names_used (with_port_names p front d (first ++ name ∷ others) back)) →
    IsUnnamed p behind →
    IsAccepted (record {
      types = types;
      procedures = before ++ with_port_names p front d (first ++ others) back ∷ behind;
    })

-- ---- elements

abbrev pub enumeration : Identifier → List Identifier → TypeDeclaration
enumeration name elements = record { name = name; definition = type_of.Enumeration elements }

-- An accepted description stays accepted without the last element of an enumeration, where no procedure uses it and the
-- others keep their width. (Without one that is not the last the others would have other numbers.)
abbrev pub LastElementMayBeLeftOut : Type 0
LastElementMayBeLeftOut =
    (before : List TypeDeclaration) (name : Identifier) (elements : List Identifier) (last : Identifier)
    (behind : List TypeDeclaration) (procedures : List Procedure) →
    element_width (elements ++ last ∷ []) ≡ element_width elements →
    IsAccepted (record {
      types = before ++ enumeration name (elements ++ last ∷ []) ∷ behind;
      procedures = procedures;
    }) →
    Apart (last.name ∷ []) (flat_map names_used procedures) →
    IsAccepted (record { types = before ++ enumeration name elements ∷ behind; procedures = procedures })
