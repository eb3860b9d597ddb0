-- An accepted description with another body, which is right in the same scope, is accepted.
use Rattle.std.proofs.Common.{◌≡◌, List, [], ◌∷◌, ◌++◌, length, map, flat_map, Ok, refl, ap, sym, subst, ◌∙◌, append_assoc, append-nil}
use Rattle.std.proofs.lemmas.List.{map-append}
use Rattle.types.specs.Commands.{Scope, judged_command}
use Rattle.types.specs.Declarations.{SoFar, ports_of, locals_of, scope_inside, declarations_right, judged_procedure, after_procedure, with_procedures, with_types, judged_description, found_description}
use Rattle.types.specs.Findings.{Findings, with_next, every}
use Rattle.types.specs.Visible.{Declaration, of_definition, of_procedure, outside, visible_in, valued_names, port_widths, local_widths}
use Rattle.types.specs.WhatFits.{with_body, IsAcceptedDoing}
use Rattle.types.specs.declared.scope.Meaning.TheVariants as meaning
use Rattle.types.specs.declared.tree.Command as typed_command
use Rattle.types.specs.declared.tree.Procedure as typed
use Rattle.syntax.specs.declared.command.Command.{Command}
use Rattle.syntax.specs.declared.declaration.Local.{Local}
use Rattle.syntax.specs.declared.declaration.Port.{Port}
use Rattle.syntax.specs.declared.declaration.Procedure.{Procedure}
use Rattle.syntax.specs.declared.declaration.TypeDeclaration.{TypeDeclaration}
use Rattle.types.proofs.DeclaredOnce.{both-ok, types_tie, sound, next_right, next_judged, ties-name}
use Rattle.types.proofs.LeavingOut.{judged_by, described_by}
use Rattle.types.proofs.Lookups.{Once, once-none, shown}

-- what is right in a scope
abbrev pub IsRight : Scope → Command → Type 0
IsRight scope c = (made : typed_command.Command) × (judged_command every c scope [] ≡ Ok made)

-- what is declared is right whatever the body
same_declarations : (scope : Scope) (p : Procedure) (one new : Command) → declarations_right every scope (with_body p one) ≡ Ok tt
    → declarations_right every scope (with_body p new) ≡ Ok tt
unfolding declarations_right
same_declarations scope p one new e = e

-- procedures behind others that are right
behind_right : (scope : Scope) (done : Findings every (List typed.Procedure)) (others : List typed.Procedure) (ps : List Procedure) (qs : List typed.Procedure)
    → with_procedures every scope done ps ≡ Ok qs → (rs : List typed.Procedure) × (with_procedures every scope (Ok others) ps ≡ Ok rs)
behind_right scope done others [] qs e = (others, refl)
behind_right scope done others (p ∷ ps) qs e =
    let right = next_right scope done p ps qs e in
    let next = after_procedure every scope p in
    let rest = behind_right next (with_next every done (judged_procedure every scope p)) (others ++ right.0 ∷ []) ps qs e in
    (rest.0, ap (λ z. with_procedures every next (with_next every (Ok others) z) ps) right.1 ∙ rest.1)

-- a body that is right wherever these two are
module _ (types : List TypeDeclaration) (p : Procedure) (one other new : Command) where
  abbrev pub Follows : List Procedure → Type 0
  Follows before = (scope : Scope) → Once scope.names → map shown scope.names ≡ visible_in types before p → IsRight scope one → IsRight scope other → IsRight scope new

  exchanged : (first before behind : List Procedure) → Follows (first ++ before) → (scope : Scope) → Once scope.names → map shown scope.names ≡ outside types first
      → (done done2 : Findings every (List typed.Procedure)) (done' : List typed.Procedure) (qs qs2 : List typed.Procedure)
      → with_procedures every scope done (before ++ with_body p one ∷ behind) ≡ Ok qs → with_procedures every scope done2 (before ++ with_body p other ∷ behind) ≡ Ok qs2
      → (rs : List typed.Procedure) × (with_procedures every scope (Ok done') (before ++ with_body p new ∷ behind) ≡ Ok rs)
  exchanged first [] behind follows scope once seen done done2 done' qs qs2 e e2 =
      let j = next_judged scope done (with_body p one) behind qs e in
      let k = next_judged scope done2 (with_body p other) behind qs2 e2 in
      let s = sound scope (with_body p one) once j.declarations in
      let inside = scope_inside every scope p in
      let all_seen : map shown inside.names ≡ visible_in types first p =
      s.seen
      ∙ ap (λ (ds : List Declaration).
      ds ++ (flat_map (λ (d : Port). valued_names (port_widths ds d.kind) d.names) p.ports
      ++ flat_map (λ (d : Local). valued_names (local_widths ds d.kind) d.names) p.locals)) seen in
      let right = subst Follows (append-nil first) follows inside s.once all_seen (j.body, j.command) (k.body, k.command) in
      let is = judged_by scope (with_body p new) right.0 (same_declarations scope p one new j.declarations) right.1 in
      let next = after_procedure every scope p in
      let made : typed.Procedure = record { name = p.name.name; ports = (ports_of every scope.names p).made; locals = (locals_of every scope.names p).made; body = right.0 } in
      let rest = behind_right next (with_next every done (judged_procedure every scope (with_body p one))) (done' ++ made ∷ []) behind qs e in
      (rest.0, ap (λ z. with_procedures every next (with_next every (Ok done') z) behind) is ∙ rest.1)
  exchanged first (b ∷ before) behind follows scope once seen done done2 done' qs qs2 e e2 =
      let right = next_right scope done b (before ++ with_body p one ∷ behind) qs e in
      let j = next_judged scope done b (before ++ with_body p one ∷ behind) qs e in
      let next = after_procedure every scope b in
      let tied = ties-name scope.names b.name.name (meaning.Procedure (length scope.procedures)) (sound scope b once j.declarations).fresh in
      let declared_types = flat_map (λ (t : TypeDeclaration). of_definition t.name.name t.definition) types in
      let seen_next : map shown next.names ≡ outside types (first ++ b ∷ []) =
      tied.seen ∙ ap (λ z. z ++ of_procedure b ∷ []) seen ∙ append_assoc declared_types (map of_procedure first) (of_procedure b ∷ [])
      ∙ ap (λ z. declared_types ++ z) (sym (map-append of_procedure first (b ∷ []))) in
      let rest =
      exchanged (first ++ b ∷ []) before behind (subst Follows (sym (append_assoc first (b ∷ []) before)) follows) next (tied.once once) seen_next
      (with_next every done (judged_procedure every scope b)) (with_next every done2 (judged_procedure every scope b)) (done' ++ right.0 ∷ []) qs qs2 e e2 in
      (rest.0, ap (λ z. with_procedures every next (with_next every (Ok done') z) (before ++ with_body p new ∷ behind)) right.1 ∙ rest.1)

  pub other_body : (before behind : List Procedure) → Follows before → IsAcceptedDoing types before p behind one → IsAcceptedDoing types before p behind other
      → IsAcceptedDoing types before p behind new
  unfolding found_description judged_description
  other_body before behind follows (qs, e) (qs2, e2) =
      let s0 : SoFar every = record { names = []; right = Ok tt } in
      let s = with_types every s0 types in
      let scope : Scope = record { names = s.names; procedures = [] } in
      let declared_types = flat_map (λ (t : TypeDeclaration). of_definition t.name.name t.definition) types in
      let h = both-ok (λ p. p.1) s.right (with_procedures every scope (Ok []) (before ++ with_body p one ∷ behind)) qs e in
      let k = both-ok (λ p. p.1) s.right (with_procedures every scope (Ok []) (before ++ with_body p other ∷ behind)) qs2 e2 in
      let tied = (types_tie s0 types h.2).1 in
      let rest = exchanged [] before behind follows scope (tied.once once-none) (tied.seen ∙ sym (append-nil declared_types)) (Ok []) (Ok []) [] h.1 k.1 h.3 k.3 in
      (rest.0, described_by s.right (with_procedures every scope (Ok []) (before ++ with_body p new ∷ behind)) rest.0 h.2 rest.1)
