-- The laws of typing on names and widths, and on what may be left out.
use Rattle.std.specs.Prelude.{◌≡◌, ℕ, List, [], ◌∷◌, ◌++◌, map, flat_map, Ok}
use Rattle.types.specs.Declarations.{found_description}
use Rattle.types.specs.Parts.{Name, names_used, expressions_in}
use Rattle.types.specs.Visible.{Declaration, visible_in, widths_of}
use Rattle.types.specs.declared.tree.Procedure as typed
use Rattle.syntax.specs.Lists.{In, Every}
use Rattle.syntax.specs.declared.declaration.Description.{Description}
use Rattle.syntax.specs.declared.declaration.Local.{Local}
use Rattle.syntax.specs.declared.declaration.Port.{Port}
use Rattle.syntax.specs.declared.declaration.Procedure.{Procedure}
use Rattle.syntax.specs.declared.declaration.TypeDeclaration.{TypeDeclaration}
use Rattle.syntax.specs.declared.declaration.TypeDefinition.{TypeDefinition}
use Rattle.syntax.specs.declared.declaration.TypeDefinition.TheVariants as type_of
use Rattle.syntax.specs.declared.name.Identifier.{Identifier}

-- the description is accepted
abbrev pub IsAccepted : Description → Type 0
IsAccepted d = (procedures : List typed.Procedure) × (found_description d ≡ Ok procedures)

-- exactly one element of the list is so
pub record OnlyOne {X : Type 0} (Is : X → Type 0) (xs : List X) : Type 0 where
  pub before : List X
  pub one : X
  pub behind : List X
  pub all : xs ≡ before ++ one ∷ behind
  pub is : Is one
  pub none_before : Every (λ x. ¬ Is x) before
  pub none_behind : Every (λ x. ¬ Is x) behind

-- In an accepted description each name that a procedure uses has exactly one declaration among all that are visible in
-- it, and no other one can be meant. (`Nearest.antt` says that it stands before the use.)
abbrev pub NamesAreDeclaredOnce : Type 0
NamesAreDeclaredOnce =
    (d : Description) → IsAccepted d →
    (before : List Procedure) (p : Procedure) (behind : List Procedure) → d.procedures ≡ before ++ p ∷ behind →
    Every (λ name. OnlyOne (λ declaration. declaration.name ≡ name) (visible_in d.types before p)) (names_used p)

-- In an accepted description each expression has exactly one width, and there is only one way to come to it.
abbrev pub ExpressionsHaveOneWidth : Type 0
ExpressionsHaveOneWidth =
    (d : Description) → IsAccepted d →
    (before : List Procedure) (p : Procedure) (behind : List Procedure) → d.procedures ≡ before ++ p ∷ behind →
    Every (λ e. (width : ℕ) × (widths_of (visible_in d.types before p) e ≡ width ∷ [])) (expressions_in p)

-- no two of the names are equal
abbrev pub Distinct : List Name → Type 0
Distinct [] = Unit {0}
Distinct (name ∷ names) = (¬ In name names) × Distinct names

-- the names that a typed procedure declares: its ports, and then its locals
abbrev pub declared_names : typed.Procedure → List Name
declared_names p = map (λ q. q.name) p.ports ++ map (λ l. l.name) p.locals

-- the names that stand in the source where a procedure declares its ports and its locals
abbrev pub written_names : Procedure → List Name
written_names p =
    flat_map (λ (d : Port). map (λ (name : Identifier). name.name) d.names) p.ports
    ++ flat_map (λ (d : Local). map (λ (name : Identifier). name.name) d.names) p.locals

-- In an accepted description each procedure declares the names that stand in the source, in that order.
abbrev pub DeclaredNamesStay : Type 0
DeclaredNamesStay =
    (d : Description) (procedures : List typed.Procedure) → found_description d ≡ Ok procedures →
    map declared_names procedures ≡ map written_names d.procedures

-- In an accepted description the names that a procedure declares are distinct.
abbrev pub DeclaredNamesAreDistinct : Type 0
DeclaredNamesAreDistinct =
    (d : Description) (procedures : List typed.Procedure) → found_description d ≡ Ok procedures →
    Every (λ procedure. Distinct (declared_names procedure)) procedures

-- ---- what is not used

-- no name is one of both
abbrev pub Apart : List Name → List Name → Type 0
Apart names others = (name : Name) → In name names → In name others → ⊥

abbrev pub elements_of : TypeDefinition → List Name
elements_of (type_of.Bits width) = []
elements_of (type_of.Enumeration elements) = map (λ (element : Identifier). element.name) elements

-- a type and its elements
abbrev pub declared_by : TypeDeclaration → List Name
declared_by t = t.name.name ∷ elements_of t.definition

-- An accepted description stays accepted without a type that no procedure uses, nor any element of it.
abbrev pub TypesMayBeLeftOut : Type 0
TypesMayBeLeftOut =
    (before : List TypeDeclaration) (t : TypeDeclaration) (behind : List TypeDeclaration)
    (procedures : List Procedure) →
    IsAccepted (record { types = before ++ t ∷ behind; procedures = procedures }) →
    Apart (declared_by t) (flat_map names_used procedures) →
    IsAccepted (record { types = before ++ behind; procedures = procedures })

-- An accepted description stays accepted without a procedure whose name is not used behind it.
abbrev pub ProceduresMayBeLeftOut : Type 0
ProceduresMayBeLeftOut =
    (types : List TypeDeclaration) (before : List Procedure) (p : Procedure) (behind : List Procedure) →
    IsAccepted (record { types = types; procedures = before ++ p ∷ behind }) →
    Apart (p.name.name ∷ []) (flat_map names_used behind) →
    IsAccepted (record { types = types; procedures = before ++ behind })

-- An accepted description stays accepted without a declaration of locals that their procedure does not use.
abbrev pub LocalsMayBeLeftOut : Type 0
LocalsMayBeLeftOut =
    (types : List TypeDeclaration) (before : List Procedure) (p : Procedure) (behind : List Procedure) →
    (front : List Local) (l : Local) (back : List Local) →
    IsAccepted (record { types = types; procedures = before ++ record p { locals = front ++ l ∷ back } ∷ behind }) →
    Apart (map (λ (name : Identifier). name.name) l.names) (names_used (record p { locals = front ++ l ∷ back })) →
    IsAccepted (record { types = types; procedures = before ++ record p { locals = front ++ back } ∷ behind })
