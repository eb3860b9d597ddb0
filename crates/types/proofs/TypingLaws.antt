-- Names and expressions of an accepted description: each name is declared once, each expression has one width.
use Rattle.std.proofs.Common.{◌≡◌, ℕ, List, [], ◌∷◌, ◌++◌, map, flat_map, Ok, Err, IfOk, refl, ap, sym, subst, ◌∙◌}
use Rattle.types.specs.Commands.{Scope, judged_command}
use Rattle.types.specs.Declarations.{demanded, port_type, local_type, scope_inside}
use Rattle.types.specs.Expressions.{judged_expression, type_width}
use Rattle.types.specs.Findings.{Findings, Verdict, every}
use Rattle.types.specs.Laws.{OnlyOne, NamesAreDeclaredOnce, ExpressionsHaveOneWidth}
use Rattle.types.specs.Names.{VisibleNames}
use Rattle.types.specs.Parts.{Name, Part, named, valued, names_of_type, names_of_part, names_of_expression, names_of_port, names_of_local, names_used, expressions_of_part, expressions_in, parts_of_command}
use Rattle.types.specs.Visible.{Declaration, of_definition, of_procedure, outside, port_widths, local_widths, valued_names, visible_in, widths_of}
use Rattle.types.specs.declared.expression.Valued.{Valued}
use Rattle.types.specs.declared.tree.Command as typed_command
use Rattle.syntax.specs.Lists.{Every}
use Rattle.syntax.specs.declared.declaration.Description.{Description}
use Rattle.syntax.specs.declared.declaration.Local as tree_local
use Rattle.syntax.specs.declared.declaration.LocalKind as tree_local_kind
use Rattle.syntax.specs.declared.declaration.LocalKind.TheVariants as local_of
use Rattle.syntax.specs.declared.declaration.Port as tree_port
use Rattle.syntax.specs.declared.declaration.PortKind as tree_port_kind
use Rattle.syntax.specs.declared.declaration.PortKind.TheVariants as port_of
use Rattle.syntax.specs.declared.declaration.Procedure.{Procedure}
use Rattle.syntax.specs.declared.declaration.TypeDeclaration.{TypeDeclaration}
use Rattle.syntax.specs.declared.expression.Expr.{Expr}
use Rattle.syntax.specs.declared.expression.TypeName.{TypeName}
use Rattle.types.proofs.DeclaredOnce.{InAccepted, in_accepted, Sound, sound, demanded-ok}
use Rattle.types.proofs.ExpressionWays.{type_once, expression_once, RightValue}
use Rattle.types.proofs.Lookups.{Once, IsFound, shown, lone_only, every-append, every-weaker}
use Rattle.types.proofs.PartsFound.{Gives, IsRight, AreRight, command_gives}

pub every-flat : {X Y : Type 0} (P : Y → Type 0) (f : X → List Y) (xs : List X) → Every (λ x. Every P (f x)) xs → Every P (flat_map f xs)
every-flat P f [] h = tt
every-flat P f (x ∷ xs) h = every-append P (f x) (flat_map f xs) h.0 (every-flat P f xs h.1)

given_by : {A G : Type 0} (r : Findings every A) (a : A) → r ≡ Ok a → Gives r G → G
given_by (Ok b) a e g = g
given_by (Err fs) a e g = absurd cc

pub right_by : (es : VisibleNames) (r : Findings every Valued) (widths : List ℕ) (names : List Name) (v : Valued) → r ≡ Ok v → RightValue es r widths names
    → (widths ≡ v.width ∷ []) × Every (IsFound es) names
right_by es r widths names v e right = subst (λ x. RightValue es x widths names) e right

-- ---- the names that are found, and the expressions that are right

module _ (es : VisibleNames) (once : Once es) where
  type_names : (type : TypeName) → demanded (type_width es [] type) ≡ Ok tt → Every (IsFound es) (names_of_type type)
  type_names type e = let right = demanded-ok (type_width es [] type) e in (type_once es once [] type right.0 right.1).1

  port_names : (kind : tree_port_kind.PortKind) → port_type es kind ≡ Ok tt → Every (IsFound es) (names_of_port kind)
  port_names (port_of.Input type) e = type_names type e
  port_names (port_of.Output type) e = type_names type e
  port_names port_of.Sync e = tt

  local_names : (kind : tree_local_kind.LocalKind) → local_type es kind ≡ Ok tt → Every (IsFound es) (names_of_local kind)
  local_names (local_of.Variable type) e = type_names type e
  local_names (local_of.SharedVariable type) e = type_names type e
  local_names (local_of.Channel type) e = type_names type e
  local_names local_of.Sync e = tt

  part_names : (p : Part) → IsRight es p → Every (IsFound es) (names_of_part p)
  part_names (named n) found = (found, tt)
  part_names (valued e) (opened, v, is) =
      (right_by es (judged_expression every e es opened) (widths_of (map shown es) e) (names_of_expression e) v is (expression_once e es opened once)).1

  -- the expression has one width
  abbrev HasOneWidth : Expr → Type 0
  HasOneWidth e = (width : ℕ) × (widths_of (map shown es) e ≡ width ∷ [])

  part_widths : (p : Part) → IsRight es p → Every HasOneWidth (expressions_of_part p)
  part_widths (named n) found = tt
  part_widths (valued e) (opened, v, is) =
      ((v.width, (right_by es (judged_expression every e es opened) (widths_of (map shown es) e) (names_of_expression e) v is (expression_once e es opened once)).0), tt)

-- ---- a procedure of an accepted description

module _ (d : Description) (before : List Procedure) (p : Procedure) (here : InAccepted d before p) where
  pub is_sound : Sound here.scope p
  is_sound = sound here.scope p here.once here.judged.declarations

  pub all_visible : map shown (scope_inside every here.scope p).names ≡ visible_in d.types before p
  all_visible =
      is_sound.seen
      ∙ ap (λ (ds : List Declaration).
      ds ++ (flat_map (λ (d : tree_port.Port). valued_names (port_widths ds d.kind) d.names) p.ports
      ++ flat_map (λ (d : tree_local.Local). valued_names (local_widths ds d.kind) d.names) p.locals)) here.seen

  pub parts : AreRight (scope_inside every here.scope p).names (parts_of_command p.body)
  parts = given_by (judged_command every p.body (scope_inside every here.scope p) []) here.judged.body here.judged.command
      (command_gives p.body (scope_inside every here.scope p) [])

  names_found : Every (IsFound (scope_inside every here.scope p).names) (names_used p)
  names_found =
      let es = (scope_inside every here.scope p).names in
      every-append (IsFound es) (flat_map (λ (d : tree_port.Port). names_of_port d.kind) p.ports) _
      (every-flat (IsFound es) (λ (d : tree_port.Port). names_of_port d.kind) p.ports
      (every-weaker _ _ (λ (d : tree_port.Port) e. port_names es is_sound.once d.kind e) p.ports is_sound.ports))
      (every-append (IsFound es) (flat_map (λ (d : tree_local.Local). names_of_local d.kind) p.locals) (flat_map names_of_part (parts_of_command p.body))
      (every-flat (IsFound es) (λ (d : tree_local.Local). names_of_local d.kind) p.locals
      (every-weaker _ _ (λ (d : tree_local.Local) e. local_names es is_sound.once d.kind e) p.locals is_sound.locals))
      (every-flat (IsFound es) names_of_part (parts_of_command p.body)
      (every-weaker _ _ (part_names es is_sound.once) (parts_of_command p.body) parts)))

  pub declared_once : Every (λ name. OnlyOne (λ (declaration : Declaration). declaration.name ≡ name) (visible_in d.types before p)) (names_used p)
  declared_once =
      let es = (scope_inside every here.scope p).names in
      every-weaker (IsFound es) _
      (λ name (m, is). subst (λ ds. OnlyOne (λ (declaration : Declaration). declaration.name ≡ name) ds) all_visible (lone_only name m es (is_sound.once name m is)))
      (names_used p) names_found

  widths_once : Every (λ e. (width : ℕ) × (widths_of (visible_in d.types before p) e ≡ width ∷ [])) (expressions_in p)
  widths_once =
      let es = (scope_inside every here.scope p).names in
      subst (λ ds. Every (λ e. (width : ℕ) × (widths_of ds e ≡ width ∷ [])) (expressions_in p)) all_visible
      (every-flat (HasOneWidth es is_sound.once) expressions_of_part (parts_of_command p.body)
      (every-weaker _ _ (part_widths es is_sound.once) (parts_of_command p.body) parts))

pub names_once : NamesAreDeclaredOnce
names_once d (qs, e) before p later split = declared_once d before p (in_accepted d qs e before p later split)

pub one_width : ExpressionsHaveOneWidth
one_width d (qs, e) before p later split = widths_once d before p (in_accepted d qs e before p later split)
