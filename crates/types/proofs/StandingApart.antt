-- What is declared by one declaration may be declared by two: the procedure becomes the same.
use Rattle.std.proofs.Common.{◌≡◌, List, [], ◌∷◌, ◌++◌, length, map, Ok, refl, ap, sym, ◌∙◌}
use Rattle.types.specs.Commands.{Scope, judged_command}
use Rattle.types.specs.Declarations.{local_kind, port_kind, one_local, one_port, local_type, port_type, SoFar, with_types, Declared, with_one, with_ports, with_locals, all_ports, all_locals, behind, port_types, local_types, ports_of, locals_of, scope_inside, judged_procedure, after_procedure, with_procedures, judged_description, found_description}
use Rattle.types.specs.Findings.{Verdict, Findings, and, with_next, and_all, demands, one_fault, every}
use Rattle.types.specs.Names.{VisibleNames, port_meaning, local_meaning}
use Rattle.types.specs.declared.scope.Meaning.TheVariants as meaning
use Rattle.types.specs.declared.tree.Command as typed_command
use Rattle.types.specs.declared.tree.Local.{Local}
use Rattle.types.specs.declared.tree.LocalKind.{LocalKind}
use Rattle.types.specs.declared.tree.Port.{Port}
use Rattle.types.specs.declared.tree.PortKind.{PortKind}
use Rattle.types.specs.declared.tree.Procedure.{Procedure}
use Rattle.syntax.specs.Lists.{Every}
use Rattle.syntax.specs.declared.declaration.Local as tree_local
use Rattle.syntax.specs.declared.declaration.Port as tree_port
use Rattle.syntax.specs.declared.declaration.Procedure as tree_procedure
use Rattle.syntax.specs.declared.declaration.TypeDeclaration.{TypeDeclaration}
use Rattle.syntax.specs.declared.name.Identifier.{Identifier}
use Rattle.types.proofs.DeclaredOnce.{both-ok, Inner, inner-twice, all_ports_inner, all_locals_inner, locals_inner, ports_inner, types_tie, sound, Judged, next_judged, ties-name}
use Rattle.types.proofs.Lookups.{Once, once-none, every-append, every-front, every-back}
use Rattle.types.proofs.Behind.{local_alike, port_alike, all_locals-append, all_ports-append}
use Rattle.types.proofs.LeavingOut.{right_by, judged_by, described_by}
use Rattle.types.specs.LeavingOut.{LocalsMayStandApart, PortsMayStandApart, with_local_names, with_port_names}

-- ---- one procedure in the place of another

demands_right : (vs : List (Verdict (Unit {0}))) → Every (λ v. v ≡ Ok tt) vs → demands every vs ≡ Ok tt
demands_right [] are = refl
demands_right (v ∷ vs) are = ap (λ z. and_all every (and every (Ok tt) (one_fault z)) vs) are.0 ∙ demands_right vs are.1

every-map : {X Y : Type 0} (P : Y → Type 0) (f : X → Y) (xs : List X) → Every (λ x. P (f x)) xs → Every P (map f xs)
every-map P f [] are = tt
every-map P f (x ∷ xs) are = (are.0, every-map P f xs are.1)

abbrev RightPorts : VisibleNames → List tree_port.Port → Type 0
RightPorts es ds = Every (λ (d : tree_port.Port). port_type es d.kind ≡ Ok tt) ds

abbrev RightLocals : VisibleNames → List tree_local.Local → Type 0
RightLocals es ds = Every (λ (d : tree_local.Local). local_type es d.kind ≡ Ok tt) ds

abbrev made_of : tree_procedure.Procedure → List Port → List Local → typed_command.Command → Procedure
made_of p ports locals body = record { name = p.name.name; ports = ports; locals = locals; body = body }

-- the same ports and locals by other declarations, whose types are right where those of the first are
module _ (scope : Scope) (once : Once scope.names) (a : tree_procedure.Procedure) (ports : List tree_port.Port) (locals : List tree_local.Local) where
  abbrev other : tree_procedure.Procedure
  other = record a { ports = ports; locals = locals }

  module _ (same_ports : ports_of every scope.names other ≡ ports_of every scope.names a) (same_locals : locals_of every scope.names other ≡ locals_of every scope.names a)
      (right_ports : RightPorts (scope_inside every scope a).names ports) (right_locals : RightLocals (scope_inside every scope a).names locals) (j : Judged scope a) where
    names_same : (scope_inside every scope other).names ≡ (scope_inside every scope a).names
    names_same = ap (λ (s : Declared every Local). s.names) same_locals

    judged_alike : judged_procedure every scope other ≡ judged_procedure every scope a
    judged_alike =
        let s = sound scope a once j.declarations in
        let inner = (scope_inside every scope a).names in
        let ports_ok = demands_right (map (λ (d : tree_port.Port). port_type inner d.kind) ports)
        (every-map (λ v. v ≡ Ok tt) (λ (d : tree_port.Port). port_type inner d.kind) ports right_ports) in
        let locals_ok = demands_right (map (λ (d : tree_local.Local). local_type inner d.kind) locals)
        (every-map (λ v. v ≡ Ok tt) (λ (d : tree_local.Local). local_type inner d.kind) locals right_locals) in
        let declarations = right_by scope other s.fresh (ap (λ (d : Declared every Port). d.right) same_ports ∙ s.ports_right)
        (ap (λ (d : Declared every Local). d.right) same_locals ∙ s.locals_right)
        (ap (λ (z : VisibleNames). port_types every z ports) names_same ∙ ports_ok) (ap (λ (z : VisibleNames). local_types every z locals) names_same ∙ locals_ok) in
        judged_by scope other j.body declarations
        (ap (λ (z : VisibleNames). judged_command every a.body (record { names = z; procedures = scope.procedures }) []) names_same ∙ j.command)
        ∙ ap (λ (z : List Port). Ok (made_of a z (locals_of every scope.names other).made j.body)) (ap (λ (d : Declared every Port). d.made) same_ports)
        ∙ ap (λ (z : List Local). Ok (made_of a (ports_of every scope.names a).made z j.body)) (ap (λ (d : Declared every Local). d.made) same_locals)
        ∙ sym (judged_by scope a j.body j.declarations j.command)

    after_alike : after_procedure every scope other ≡ after_procedure every scope a
    after_alike =
        ap (λ (d : Declared every Port). record {
          names = (after_procedure every scope a).names;
          procedures = scope.procedures ++ map (λ (q : Port). q.kind) d.made ∷ [];
        }) same_ports

-- the second is judged as the first, where the first is right
abbrev IsAlike : tree_procedure.Procedure → tree_procedure.Procedure → Type 0
IsAlike a b =
    (s : Scope) → Once s.names → Judged s a
    → (judged_procedure every s b ≡ judged_procedure every s a) × (after_procedure every s b ≡ after_procedure every s a)

alike_at : (a b : tree_procedure.Procedure) → IsAlike a b → (scope : Scope) → Once scope.names → (done : Findings every (List Procedure)) (before : List tree_procedure.Procedure)
    (later : List tree_procedure.Procedure) (qs : List Procedure) → with_procedures every scope done (before ++ a ∷ later) ≡ Ok qs
    → with_procedures every scope done (before ++ b ∷ later) ≡ Ok qs
alike_at a b alike scope once done [] later qs e =
    let h = alike scope once (next_judged scope done a later qs e) in
    ap (λ z. with_procedures every (after_procedure every scope b) (with_next every done z) later) h.0
    ∙ ap (λ z. with_procedures every z (with_next every done (judged_procedure every scope a)) later) h.1 ∙ e
alike_at a b alike scope once done (x ∷ xs) later qs e =
    let fresh = (sound scope x once (next_judged scope done x (xs ++ a ∷ later) qs e).declarations).fresh in
    alike_at a b alike (after_procedure every scope x) ((ties-name scope.names x.name.name (meaning.Procedure (length scope.procedures)) fresh).once once)
    (with_next every done (judged_procedure every scope x)) xs later qs e

described_alike : (a b : tree_procedure.Procedure) → IsAlike a b → (types : List TypeDeclaration) (before later : List tree_procedure.Procedure) (qs : List Procedure)
    → found_description (record { types = types; procedures = before ++ a ∷ later }) ≡ Ok qs
    → found_description (record { types = types; procedures = before ++ b ∷ later }) ≡ Ok qs
unfolding found_description judged_description
described_alike a b alike types before later qs e =
    let s0 : SoFar every = record { names = []; right = Ok tt } in
    let s = with_types every s0 types in
    let scope : Scope = record { names = s.names; procedures = [] } in
    let h = both-ok (λ p. p.1) s.right (with_procedures every scope (Ok []) (before ++ a ∷ later)) qs e in
    let once : Once s.names = (types_tie s0 types h.2).1.once once-none in
    described_by s.right (with_procedures every scope (Ok []) (before ++ b ∷ later)) qs h.2
    (alike_at a b alike scope once (Ok []) before later qs (h.3 ∙ ap (λ z. Ok z) h.4))

-- ---- locals

with_locals-append : (kind : LocalKind) (s : Declared every Local) (xs ys : List Identifier) → with_locals every kind s (xs ++ ys) ≡ with_locals every kind (with_locals every kind s xs) ys
with_locals-append kind s [] ys = refl
with_locals-append kind s (x ∷ xs) ys = with_locals-append kind (with_one every s x (local_meaning (length s.made) kind) (one_local kind x)) xs ys

module _ (p : tree_procedure.Procedure) (front : List tree_local.Local) (l : tree_local.Local) (back : List tree_local.Local) (some others : List Identifier) where
  abbrev one_local_declaration : tree_procedure.Procedure
  one_local_declaration = with_local_names p front l (some ++ others) back

  abbrev two_local_declarations : tree_procedure.Procedure
  two_local_declarations = with_local_names p front l some (record l { names = others } ∷ back)

  -- where the type is right, both declare the same
  locals_same : (scope : Scope) (inner : VisibleNames) → Inner scope.names inner → local_type inner l.kind ≡ Ok tt
      → locals_of every scope.names two_local_declarations ≡ locals_of every scope.names one_local_declaration
  locals_same scope inner between right =
      let ports = ports_of every scope.names p in
      let s = all_locals every (behind every ports.names) front in
      let kind = local_kind s.names l.kind in
      let t = with_locals every kind s some in
      let kind' = local_kind t.names l.kind in
      let to_front = inner-twice scope.names ports.names s.names (all_ports_inner (behind every scope.names) p.ports) (all_locals_inner (behind every ports.names) front) in
      let to_some = inner-twice scope.names s.names t.names to_front (locals_inner kind s some) in
      let same : kind' ≡ kind = local_alike scope.names inner between s.names t.names to_front to_some l.kind right in
      all_locals-append (behind every ports.names) front (record l { names = some } ∷ record l { names = others } ∷ back)
      ∙ ap (λ (z : LocalKind). all_locals every (with_locals every z t others) back) same
      ∙ ap (λ (z : Declared every Local). all_locals every z back) (sym (with_locals-append kind s some others))
      ∙ sym (all_locals-append (behind every ports.names) front (record l { names = some ++ others } ∷ back))

  locals_between : (scope : Scope) (q : tree_procedure.Procedure) → Inner scope.names (scope_inside every scope q).names
  locals_between scope q =
      let ports = ports_of every scope.names q in
      inner-twice scope.names ports.names (scope_inside every scope q).names (all_ports_inner (behind every scope.names) q.ports) (all_locals_inner (behind every ports.names) q.locals)

  locals_split : IsAlike one_local_declaration two_local_declarations
  locals_split s once j =
      let sound_one = sound s one_local_declaration once j.declarations in
      let inner = (scope_inside every s one_local_declaration).names in
      let Right = λ (d : tree_local.Local). local_type inner d.kind ≡ Ok tt in
      let at_front = every-front Right front (record l { names = some ++ others } ∷ back) sound_one.locals in
      let at_back = every-back Right front (record l { names = some ++ others } ∷ back) sound_one.locals in
      let same = locals_same s inner (locals_between s one_local_declaration) at_back.0 in
      let right : RightLocals inner (front ++ record l { names = some } ∷ record l { names = others } ∷ back) =
      every-append Right front (record l { names = some } ∷ record l { names = others } ∷ back) at_front (at_back.0, (at_back.0, at_back.1)) in
      let ls = front ++ record l { names = some } ∷ record l { names = others } ∷ back in (
        judged_alike s once one_local_declaration p.ports ls refl same sound_one.ports right j,
        after_alike s once one_local_declaration p.ports ls refl same sound_one.ports right j,
      )

  locals_merged : IsAlike two_local_declarations one_local_declaration
  locals_merged s once j =
      let sound_two = sound s two_local_declarations once j.declarations in
      let inner = (scope_inside every s two_local_declarations).names in
      let Right = λ (d : tree_local.Local). local_type inner d.kind ≡ Ok tt in
      let at_front = every-front Right front (record l { names = some } ∷ record l { names = others } ∷ back) sound_two.locals in
      let at_back = every-back Right front (record l { names = some } ∷ record l { names = others } ∷ back) sound_two.locals in
      let same = sym (locals_same s inner (locals_between s two_local_declarations) at_back.0) in
      let ls = front ++ record l { names = some ++ others } ∷ back in
      let right : RightLocals inner ls = every-append Right front (record l { names = some ++ others } ∷ back) at_front (at_back.0, at_back.1.1) in (
        judged_alike s once two_local_declarations p.ports ls refl same sound_two.ports right j,
        after_alike s once two_local_declarations p.ports ls refl same sound_two.ports right j,
      )

pub locals_apart : LocalsMayStandApart
locals_apart types before p later front l back some others qs = (
  described_alike (one_local_declaration p front l back some others) (two_local_declarations p front l back some others) (locals_split p front l back some others) types before later qs,
  described_alike (two_local_declarations p front l back some others) (one_local_declaration p front l back some others) (locals_merged p front l back some others) types before later qs,
)

-- ---- ports

with_ports-append : (kind : PortKind) (s : Declared every Port) (xs ys : List Identifier) → with_ports every kind s (xs ++ ys) ≡ with_ports every kind (with_ports every kind s xs) ys
with_ports-append kind s [] ys = refl
with_ports-append kind s (x ∷ xs) ys = with_ports-append kind (with_one every s x (port_meaning (length s.made) kind) (one_port kind x)) xs ys

module _ (p : tree_procedure.Procedure) (front : List tree_port.Port) (l : tree_port.Port) (back : List tree_port.Port) (some others : List Identifier) where
  abbrev one_port_declaration : tree_procedure.Procedure
  one_port_declaration = with_port_names p front l (some ++ others) back

  abbrev two_port_declarations : tree_procedure.Procedure
  two_port_declarations = with_port_names p front l some (record l { names = others } ∷ back)

  ports_same : (scope : Scope) (inner : VisibleNames) → Inner scope.names inner → port_type inner l.kind ≡ Ok tt
      → ports_of every scope.names two_port_declarations ≡ ports_of every scope.names one_port_declaration
  ports_same scope inner between right =
      let s = all_ports every (behind every scope.names) front in
      let kind = port_kind s.names l.kind in
      let t = with_ports every kind s some in
      let kind' = port_kind t.names l.kind in
      let to_front = all_ports_inner (behind every scope.names) front in
      let to_some = inner-twice scope.names s.names t.names to_front (ports_inner kind s some) in
      let same : kind' ≡ kind = port_alike scope.names inner between s.names t.names to_front to_some l.kind right in
      all_ports-append (behind every scope.names) front (record l { names = some } ∷ record l { names = others } ∷ back)
      ∙ ap (λ (z : PortKind). all_ports every (with_ports every z t others) back) same
      ∙ ap (λ (z : Declared every Port). all_ports every z back) (sym (with_ports-append kind s some others))
      ∙ sym (all_ports-append (behind every scope.names) front (record l { names = some ++ others } ∷ back))

  ports_between : (scope : Scope) (q : tree_procedure.Procedure) → Inner scope.names (scope_inside every scope q).names
  ports_between scope q =
      let ports = ports_of every scope.names q in
      inner-twice scope.names ports.names (scope_inside every scope q).names (all_ports_inner (behind every scope.names) q.ports) (all_locals_inner (behind every ports.names) q.locals)

  -- so do the locals behind them
  behind_same : (scope : Scope) (a b : List tree_port.Port) → ports_of every scope.names (record p { ports = a }) ≡ ports_of every scope.names (record p { ports = b })
      → locals_of every scope.names (record p { ports = a }) ≡ locals_of every scope.names (record p { ports = b })
  behind_same scope a b same = ap (λ (s : Declared every Port). all_locals every (behind every s.names) p.locals) same

  ports_split : IsAlike one_port_declaration two_port_declarations
  ports_split s once j =
      let sound_one = sound s one_port_declaration once j.declarations in
      let inner = (scope_inside every s one_port_declaration).names in
      let Right = λ (d : tree_port.Port). port_type inner d.kind ≡ Ok tt in
      let ls = front ++ record l { names = some ++ others } ∷ back in
      let ls' = front ++ record l { names = some } ∷ record l { names = others } ∷ back in
      let at_front = every-front Right front (record l { names = some ++ others } ∷ back) sound_one.ports in
      let at_back = every-back Right front (record l { names = some ++ others } ∷ back) sound_one.ports in
      let same = ports_same s inner (ports_between s one_port_declaration) at_back.0 in
      let right : RightPorts inner ls' =
      every-append Right front (record l { names = some } ∷ record l { names = others } ∷ back) at_front (at_back.0, (at_back.0, at_back.1)) in (
        judged_alike s once one_port_declaration ls' p.locals same (behind_same s ls' ls same) right sound_one.locals j,
        after_alike s once one_port_declaration ls' p.locals same (behind_same s ls' ls same) right sound_one.locals j,
      )

  ports_merged : IsAlike two_port_declarations one_port_declaration
  ports_merged s once j =
      let sound_two = sound s two_port_declarations once j.declarations in
      let inner = (scope_inside every s two_port_declarations).names in
      let Right = λ (d : tree_port.Port). port_type inner d.kind ≡ Ok tt in
      let ls = front ++ record l { names = some ++ others } ∷ back in
      let ls' = front ++ record l { names = some } ∷ record l { names = others } ∷ back in
      let at_front = every-front Right front (record l { names = some } ∷ record l { names = others } ∷ back) sound_two.ports in
      let at_back = every-back Right front (record l { names = some } ∷ record l { names = others } ∷ back) sound_two.ports in
      let same = sym (ports_same s inner (ports_between s two_port_declarations) at_back.0) in
      let right : RightPorts inner ls = every-append Right front (record l { names = some ++ others } ∷ back) at_front (at_back.0, at_back.1.1) in (
        judged_alike s once two_port_declarations ls p.locals same (behind_same s ls ls' same) right sound_two.locals j,
        after_alike s once two_port_declarations ls p.locals same (behind_same s ls ls' same) right sound_two.locals j,
      )

pub ports_apart : PortsMayStandApart
ports_apart types before p later front l back some others qs = (
  described_alike (one_port_declaration p front l back some others) (two_port_declarations p front l back some others) (ports_split p front l back some others) types before later qs,
  described_alike (two_port_declarations p front l back some others) (one_port_declaration p front l back some others) (ports_merged p front l back some others) types before later qs,
)
