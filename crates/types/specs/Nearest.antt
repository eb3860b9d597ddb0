-- Each name that is used has exactly one declaration among those before it, and so that is the nearest.
use Rattle.std.specs.Prelude.{◌≡◌, List, [], ◌∷◌, ◌++◌, map, flat_map, Option, Some, None, nat_eq, if◌then◌else◌}
use Rattle.std.specs.Option.{option_or}
use Rattle.std.specs.Cmp.Lexicographic.{pointwise}
use Rattle.types.specs.Laws.{IsAccepted, OnlyOne}
use Rattle.types.specs.Parts.{Name, names_of_part, names_of_port, names_of_local, parts_of_command}
use Rattle.types.specs.Visible.{Declaration, port_widths, local_widths, valued_names, outside, visible_in}
use Rattle.syntax.specs.Lists.{Every}
use Rattle.syntax.specs.declared.declaration.Description.{Description}
use Rattle.syntax.specs.declared.declaration.Local.{Local}
use Rattle.syntax.specs.declared.declaration.Port.{Port}
use Rattle.syntax.specs.declared.declaration.Procedure.{Procedure}
use Rattle.syntax.specs.declared.declaration.TypeDeclaration.{TypeDeclaration}

-- the last of these declarations that is of the name, if any
abbrev pub nearest : List Declaration → Name → Option Declaration
nearest [] name = None
nearest (d ∷ rest) name = option_or (nearest rest name) (if pointwise nat_eq name d.name then Some d else None)

-- a name that is used, and what is declared before the end of the declaration or of the procedure in which it stands
pub record Use : Type 0 where
  pub name : Name
  pub before : List Declaration

abbrev pub uses_of : List Declaration → List Name → List Use
uses_of before names = map (λ name. record { name = name; before = before }) names

-- what a declaration of ports declares, and one of locals, behind these types
abbrev pub by_port : List Declaration → Port → List Declaration
by_port types d = valued_names (port_widths types d.kind) d.names

abbrev pub by_local : List Declaration → Local → List Declaration
by_local types d = valued_names (local_widths types d.kind) d.names

-- the names in declarations, one after another, each of which declares some
abbrev pub uses_in_each : {D : Type 0} → (D → List Declaration) → (D → List Name) → List Declaration → List D →
    List Use
uses_in_each by names before [] = []
uses_in_each by names before (d ∷ rest) =
    uses_of (before ++ by d) (names d) ++ uses_in_each by names (before ++ by d) rest

-- the names that a procedure uses, in order of the source
abbrev pub uses_in : List TypeDeclaration → List Procedure → Procedure → List Use
uses_in types before p =
    uses_in_each (by_port (outside types before)) (λ d. names_of_port d.kind) (outside types before) p.ports
    ++ (uses_in_each (by_local (outside types before)) (λ d. names_of_local d.kind)
    (outside types before ++ flat_map (by_port (outside types before)) p.ports) p.locals
    ++ uses_of (visible_in types before p) (flat_map names_of_part (parts_of_command p.body)))

-- of the declarations before it one alone is of its name, and so it is the nearest
abbrev pub HasNearest : Use → Type 0
HasNearest u =
    (only : OnlyOne (λ (declaration : Declaration). declaration.name ≡ u.name) u.before)
    × (nearest u.before u.name ≡ Some only.one)

-- In an accepted description each name that a procedure uses has exactly one declaration among those before it: the
-- nearest.
abbrev pub NamesAreDeclaredBefore : Type 0
NamesAreDeclaredBefore =
    (d : Description) → IsAccepted d →
    (before : List Procedure) (p : Procedure) (behind : List Procedure) → d.procedures ≡ before ++ p ∷ behind →
    Every HasNearest (uses_in d.types before p)
