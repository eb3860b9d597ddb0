-- What an accepted description becomes is the same, procedure by procedure.
use Rattle.std.proofs.Common.{◌≡◌, List, [], ◌∷◌, ◌++◌, length, map, flat_map, slice_get, Ok, refl, ap, sym, subst, ◌∙◌, append_assoc, append-nil}
use Rattle.std.proofs.lemmas.List.{map-append, length-map}
use Rattle.types.specs.Commands.{Scope, judged_command}
use Rattle.types.specs.Declarations.{SoFar, behind, ports_of, locals_of, scope_inside, declarations_right, judged_procedure, after_procedure, with_procedures, types_of, judged_description, found_description}
use Rattle.types.specs.Findings.{with_next, every}
use Rattle.types.specs.SameTree.{Standing, SameCommand, SamePort, SameLocal, SameProcedure, SameProcedures, OneByOne, ports_declared, locals_declared, TreeStaysTheSame}
use Rattle.types.specs.Visible.{Declaration, of_definition, of_procedure, outside, visible_in, valued_names, port_widths, local_widths}
use Rattle.types.specs.declared.scope.Meaning.TheVariants as meaning
use Rattle.types.specs.declared.tree.Command as typed_command
use Rattle.types.specs.declared.tree.Procedure as typed
use Rattle.syntax.specs.declared.declaration.Local.{Local}
use Rattle.syntax.specs.declared.declaration.Port.{Port}
use Rattle.syntax.specs.declared.declaration.Procedure.{Procedure}
use Rattle.syntax.specs.declared.declaration.TypeDeclaration.{TypeDeclaration}
use Rattle.types.proofs.DeclaredOnce.{both-ok, Inner, inner-none, inner-twice, all_ports_inner, all_locals_inner, types_tie, Sound, sound, next_right, ties-name}
use Rattle.types.proofs.Fitting.{ok-is}
use Rattle.types.proofs.Lookups.{Once, once-none, none_found, shown}
use Rattle.types.proofs.Meanings.{AllMean, StandsFor, all_declared, newest, behind_procedure, types_stand, all_ports_stand, all_locals_stand}
use Rattle.types.proofs.SameForms.{command_same}
use Rattle.types.proofs.SameNames.{kinds_of}
use Rattle.types.proofs.SamePorts.{all_ports_same, all_locals_same}

-- what is known of the scope behind these procedures, which became those
record Behind (types : List TypeDeclaration) (before : List Procedure) (earlier : List typed.Procedure) (scope : Scope) : Type 0 where
  once : Once scope.names
  seen : map shown scope.names ≡ outside types before
  mean : AllMean (StandsFor types earlier [] []) scope.names
  kinds : scope.procedures ≡ map (λ (q : typed.Procedure). kinds_of q.ports) earlier

-- the next procedure
module _ (types : List TypeDeclaration) (before : List Procedure) (earlier : List typed.Procedure) (scope : Scope) (known : Behind types before earlier scope)
    (p : Procedure) (body : typed_command.Command) (right : declarations_right every scope p ≡ Ok tt)
    (judged : judged_command every p.body (scope_inside every scope p) [] ≡ Ok body) where
  abbrev made : typed.Procedure
  made = record { name = p.name.name; ports = (ports_of every scope.names p).made; locals = (locals_of every scope.names p).made; body = body }

  abbrev inside : Scope
  inside = scope_inside every scope p

  is_sound : Sound scope p
  is_sound = sound scope p known.once right

  to_ports : Inner scope.names (ports_of every scope.names p).names
  to_ports = all_ports_inner (behind every scope.names) p.ports

  between : Inner scope.names inside.names
  between = inner-twice scope.names (ports_of every scope.names p).names inside.names to_ports (all_locals_inner (behind every (ports_of every scope.names p).names) p.locals)

  all_seen : map shown inside.names ≡ visible_in types before p
  all_seen =
      is_sound.seen
      ∙ ap (λ (ds : List Declaration).
      ds ++ (flat_map (λ (d : Port). valued_names (port_widths ds d.kind) d.names) p.ports
      ++ flat_map (λ (d : Local). valued_names (local_widths ds d.kind) d.names) p.locals)) known.seen

  mean_inside : AllMean (StandsFor types earlier made.ports made.locals) inside.names
  mean_inside =
      all_locals_stand types earlier made.ports (behind every (ports_of every scope.names p).names) p.locals
      (all_ports_stand types earlier (behind every scope.names) p.ports known.mean)

  same_body : SameCommand (record { types = types; earlier = earlier; visible = visible_in types before p; ports = made.ports; locals = made.locals }) [] p.body body
  same_body =
      let at : Standing = record { types = types; earlier = earlier; visible = visible_in types before p; ports = made.ports; locals = made.locals } in
      ok-is (SameCommand at [] p.body) (judged_command every p.body inside []) body judged
      (command_same at inside is_sound.once all_seen mean_inside known.kinds p.body [])

  same_procedure : SameProcedure types before earlier p made
  same_procedure = (
    refl,
    subst (λ ds. OneByOne (SamePort ds) (ports_declared p.ports) made.ports) known.seen
        (all_ports_same scope.names inside.names known.once between (behind every scope.names) [] p.ports (inner-none scope.names) is_sound.ports tt),
    subst (λ ds. OneByOne (SameLocal ds) (locals_declared p.locals) made.locals) known.seen
        (all_locals_same scope.names inside.names known.once between (behind every (ports_of every scope.names p).names) [] p.locals to_ports is_sound.locals tt),
    same_body,
  )

  known_next : Behind types (before ++ p ∷ []) (earlier ++ made ∷ []) (after_procedure every scope p)
  known_next =
      let m = meaning.Procedure (length scope.procedures) in
      let tied = ties-name scope.names p.name.name m is_sound.fresh in
      let declared_types = flat_map (λ (t : TypeDeclaration). of_definition t.name.name t.definition) types in
      let place : length scope.procedures ≡ length earlier = ap length known.kinds ∙ length-map earlier (λ (q : typed.Procedure). kinds_of q.ports) in
      record {
        once = tied.once known.once;
        seen =
            tied.seen ∙ ap (λ z. z ++ of_procedure p ∷ []) known.seen ∙ append_assoc declared_types (map of_procedure before) (of_procedure p ∷ [])
            ∙ ap (λ z. declared_types ++ z) (sym (map-append of_procedure before (p ∷ [])));
        mean =
            all_declared (StandsFor types (earlier ++ made ∷ []) [] []) scope.names p.name.name m
            (λ n k is. behind_procedure types earlier [] [] made n k (known.mean n k is))
            (made, ap (slice_get (earlier ++ made ∷ [])) place ∙ newest earlier made, refl);
        kinds =
            ap (λ z. z ++ kinds_of made.ports ∷ []) known.kinds
            ∙ sym (map-append (λ (q : typed.Procedure). kinds_of q.ports) earlier (made ∷ []));
      }

-- one procedure after another
all_same : (types : List TypeDeclaration) (before : List Procedure) (earlier : List typed.Procedure) (scope : Scope) → Behind types before earlier scope → (ps : List Procedure)
    (qs : List typed.Procedure) → with_procedures every scope (Ok earlier) ps ≡ Ok qs
    → (rest : List typed.Procedure) × (qs ≡ earlier ++ rest) × SameProcedures types before earlier ps rest
unfolding judged_procedure
all_same types before earlier scope known [] qs e =
    let is : earlier ≡ qs = cc in
    ([], sym is ∙ sym (append-nil earlier), tt)
all_same types before earlier scope known (p ∷ ps) qs e =
    let one = next_right scope (Ok earlier) p ps qs e in
    let h = both-ok _ (declarations_right every scope p) (judged_command every p.body (scope_inside every scope p) []) one.0 one.1 in
    let q = made types before earlier scope known p h.1 h.2 h.3 in
    let is : judged_procedure every scope p ≡ Ok q = one.1 ∙ ap (λ (z : typed.Procedure). Ok z) (sym h.4) in
    let next : with_procedures every (after_procedure every scope p) (Ok (earlier ++ q ∷ [])) ps ≡ Ok qs =
    ap (λ z. with_procedures every (after_procedure every scope p) (with_next every (Ok earlier) z) ps) (sym is) ∙ e in
    let more = all_same types (before ++ p ∷ []) (earlier ++ q ∷ []) (after_procedure every scope p) (known_next types before earlier scope known p h.1 h.2 h.3) ps qs next in (
      q ∷ more.0,
      more.1 ∙ append_assoc earlier (q ∷ []) more.0,
      (same_procedure types before earlier scope known p h.1 h.2 h.3, more.2),
    )

pub tree_same : TreeStaysTheSame
unfolding found_description judged_description
tree_same d qs e =
    let s0 : SoFar every = record { names = []; right = Ok tt } in
    let types = types_of every d in
    let scope : Scope = record { names = types.names; procedures = [] } in
    let h = both-ok (λ p. p.1) types.right (with_procedures every scope (Ok []) d.procedures) qs e in
    let tied = (types_tie s0 d.types h.2).1 in
    let declared_types = flat_map (λ (t : TypeDeclaration). of_definition t.name.name t.definition) d.types in
    let known : Behind d.types [] [] scope =
    record {
      once = tied.once once-none;
      seen = tied.seen ∙ sym (append-nil declared_types);
      mean = types_stand d.types d.types (λ t among. among) s0 (λ n m is. none_found n m is);
      kinds = refl;
    } in
    let all = all_same d.types [] [] scope known d.procedures h.1 h.3 in
    subst (SameProcedures d.types [] [] d.procedures) (sym all.1 ∙ h.4) all.2
