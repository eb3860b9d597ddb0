-- Each type of a port or local has one width.
use Rattle.std.proofs.Common.{◌≡◌, inl, ℕ, List, [], ◌∷◌, map, flat_map, Ok, refl, sym, subst}
use Rattle.types.specs.Declarations.{demanded, port_type, local_type, scope_inside}
use Rattle.types.specs.Expressions.{declared_width, type_width}
use Rattle.types.specs.Findings.{every}
use Rattle.types.specs.Names.{VisibleNames}
use Rattle.types.specs.Visible.{Declaration, type_widths}
use Rattle.types.specs.Widths.{TypeHasThisAlone, type_of_port, type_of_local, types_written, TypesHaveOneWidth}
use Rattle.syntax.specs.Lists.{In, Every}
use Rattle.syntax.specs.declared.declaration.Description.{Description}
use Rattle.syntax.specs.declared.declaration.Local.{Local}
use Rattle.syntax.specs.declared.declaration.LocalKind.{LocalKind}
use Rattle.syntax.specs.declared.declaration.LocalKind.TheVariants as local_of
use Rattle.syntax.specs.declared.declaration.Port.{Port}
use Rattle.syntax.specs.declared.declaration.PortKind.{PortKind}
use Rattle.syntax.specs.declared.declaration.PortKind.TheVariants as port_of
use Rattle.syntax.specs.declared.declaration.Procedure.{Procedure}
use Rattle.syntax.specs.declared.expression.TypeName.{TypeName}
use Rattle.syntax.specs.declared.expression.TypeName.TheVariants.{Named, Bits}
use Rattle.types.proofs.DeclaredBefore.{between}
use Rattle.types.proofs.DeclaredOnce.{InAccepted, in_accepted, demanded-ok, type_at}
use Rattle.types.proofs.ExpressionWays.{type_found, type_once}
use Rattle.types.proofs.Lookups.{shown, every-append, every-weaker}
use Rattle.types.proofs.TypingLaws.{every-flat, is_sound}
use Rattle.types.proofs.WidthRules.{in_single, type_from, type_into}

pub type_has : (ds : List Declaration) (type : TypeName) (w : ℕ) → type_widths ds type ≡ w ∷ [] → TypeHasThisAlone ds type w
type_has ds type w only =
    (type_from ds type w (subst (In w) (sym only) (inl refl)), λ other has. in_single other w (subst (In other) only (type_into ds type other has)))

module _ (d : Description) (before : List Procedure) (p : Procedure) (here : InAccepted d before p) where
  abbrev outer : VisibleNames
  outer = here.scope.names

  abbrev inner : VisibleNames
  inner = (scope_inside every here.scope p).names

  abbrev HasOne : TypeName → Type 0
  HasOne type = (width : ℕ) × TypeHasThisAlone (map shown outer) type width

  type_alone : (type : TypeName) → demanded (type_width inner [] type) ≡ Ok tt → HasOne type
  type_alone (Bits width) e =
      let right = demanded-ok (declared_width width) e in
      (right.0, type_has (map shown outer) (Bits width) right.0 (type_once outer here.once [] (Bits width) right.0 right.1).0)
  type_alone (Named identifier) e =
      let n = identifier.name in
      let right = demanded-ok (type_width inner [] (Named identifier)) e in
      let found = (between d before p here).types n right.0 (type_found inner [] n identifier.span.start right.0 right.1) in
      let is : type_width outer [] (Named identifier) ≡ Ok right.0 = type_at outer n identifier.span.start right.0 found in
      (right.0, type_has (map shown outer) (Named identifier) right.0 (type_once outer here.once [] (Named identifier) right.0 is).0)

  port_alone : (kind : PortKind) → port_type inner kind ≡ Ok tt → Every HasOne (type_of_port kind)
  port_alone (port_of.Input type) e = (type_alone type e, tt)
  port_alone (port_of.Output type) e = (type_alone type e, tt)
  port_alone port_of.Sync e = tt

  local_alone : (kind : LocalKind) → local_type inner kind ≡ Ok tt → Every HasOne (type_of_local kind)
  local_alone (local_of.Variable type) e = (type_alone type e, tt)
  local_alone (local_of.SharedVariable type) e = (type_alone type e, tt)
  local_alone (local_of.Channel type) e = (type_alone type e, tt)
  local_alone local_of.Sync e = tt

  all_alone : Every HasOne (types_written p)
  all_alone =
      let sound = is_sound d before p here in
      every-append HasOne (flat_map (λ (q : Port). type_of_port q.kind) p.ports) (flat_map (λ (l : Local). type_of_local l.kind) p.locals)
      (every-flat HasOne (λ (q : Port). type_of_port q.kind) p.ports (every-weaker _ _ (λ (q : Port) e. port_alone q.kind e) p.ports sound.ports))
      (every-flat HasOne (λ (l : Local). type_of_local l.kind) p.locals (every-weaker _ _ (λ (l : Local) e. local_alone l.kind e) p.locals sound.locals))

pub types_once : TypesHaveOneWidth
types_once d (qs, e) before p later split =
    let here = in_accepted d qs e before p later split in
    subst (λ ds. Every (λ type. (width : ℕ) × TypeHasThisAlone ds type width) (types_written p)) here.seen (all_alone d before p here)
