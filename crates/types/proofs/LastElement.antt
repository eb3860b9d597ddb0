-- An accepted description without the last element of an enumeration is accepted, where the others keep their width.
use Rattle.std.proofs.Common.{◌≡◌, inl, ℕ, suc, List, [], ◌∷◌, ◌++◌, length, flat_map, Ok, refl, ap, sym, subst, ◌∙◌}
use Rattle.types.specs.Declarations.{enumeration_width, SoFar, with_name, with_elements, with_definition, with_types, with_procedures, types_of, judged_description, found_description}
use Rattle.types.specs.Findings.{every}
use Rattle.types.specs.LeavingOut.{enumeration, LastElementMayBeLeftOut}
use Rattle.types.specs.Parts.{Name, names_used}
use Rattle.types.specs.declared.scope.Meaning.{Meaning}
use Rattle.types.specs.declared.scope.Meaning.TheVariants as meaning
use Rattle.syntax.specs.Lists.{In}
use Rattle.syntax.specs.declared.declaration.TypeDeclaration.{TypeDeclaration}
use Rattle.syntax.specs.declared.declaration.TypeDefinition.TheVariants.{Enumeration}
use Rattle.syntax.specs.declared.name.Identifier.{Identifier}
use Rattle.types.proofs.DeclaredOnce.{both-ok, elements_tie, definition_ties, types_tie}
use Rattle.types.proofs.LeavingOut.{TypesFollow, name_follows, name_left, types_follow, procedures_stay, with_types-append, unused, described_by}
use Rattle.types.proofs.Lookups.{Once, once-none, none_found}

module _ (left : List Name) where
  abbrev number : ℕ → ℕ
  number p = p

  -- the last one is declared in the first alone
  elements_last : (width n : ℕ) (s t : SoFar every) (elements : List Identifier) (last : Identifier) → In last.name left
      → (with_elements every width n s (elements ++ last ∷ [])).right ≡ Ok tt → TypesFollow number left s t
      → TypesFollow number left (with_elements every width n s (elements ++ last ∷ [])) (with_elements every width n t elements)
  elements_last width n s t [] last out e f = name_left number left s t last (meaning.Element (record { bits = n; width = width })) out e f
  elements_last width n s t (x ∷ rest) last out e f =
      let m = meaning.Element (record { bits = n; width = width }) in
      elements_last width (suc n) (with_name every s x m) (with_name every t x m) rest last out e
      (name_follows number left s t x m refl tt (elements_tie width (suc n) (with_name every s x m) (rest ++ last ∷ []) e).0 f)

pub last_left_out : LastElementMayBeLeftOut
unfolding found_description judged_description
last_left_out before name elements last later procedures same (qs, e) apart =
    let left = last.name ∷ [] in
    let number : ℕ → ℕ = λ p. p in
    let old = enumeration name (elements ++ last ∷ []) in
    let new = enumeration name elements in
    let w = enumeration_width (length (elements ++ last ∷ [])) in
    let s0 : SoFar every = record { names = []; right = Ok tt } in
    let s1 = with_types every s0 before in
    let named = with_name every s1 name (meaning.TypeName w) in
    let s2 = with_definition every s1 name (Enumeration (elements ++ last ∷ [])) in
    let t2 = with_definition every s1 name (Enumeration elements) in
    let s3 = with_types every s2 later in
    let t3 = with_types every t2 later in
    let whole = with_types-append s0 before (old ∷ later) in
    let less = with_types-append s0 before (new ∷ later) in
    let h = both-ok (λ p. p.1) (with_types every s0 (before ++ old ∷ later)).right
    (with_procedures every (record { names = (with_types every s0 (before ++ old ∷ later)).names; procedures = [] }) (Ok []) procedures) qs e in
    let right3 : s3.right ≡ Ok tt = ap (λ (s : SoFar every). s.right) (sym whole) ∙ h.2 in
    let right2 : s2.right ≡ Ok tt = (types_tie s2 later right3).0 in
    let right1 = (definition_ties s1 name (Enumeration (elements ++ last ∷ [])) right2).0 in
    let f1 = types_follow number left s0 s0 before right1 (record { kept = λ n m out is. none_found n m is; free = λ n is. is }, refl) in
    let f_name : TypesFollow number left named named =
    name_follows number left s1 s1 name (meaning.TypeName w) refl tt (elements_tie w 0 named (elements ++ last ∷ []) right2).0 f1 in
    let f2 : TypesFollow number left s2 t2 =
    subst (λ z. TypesFollow number left s2 (with_elements every z 0 (with_name every s1 name (meaning.TypeName z)) elements)) same
    (elements_last left w 0 named named elements last (inl refl) right2 f_name) in
    let f3 = types_follow number left s2 t2 later right3 f2 in
    let once3 : Once s3.names =
    (types_tie s2 later right3).1.once ((definition_ties s1 name (Enumeration (elements ++ last ∷ [])) right2).1.once ((types_tie s0 before right1).1.once once-none)) in
    let judged : with_procedures every (record { names = s3.names; procedures = [] }) (Ok []) procedures ≡ Ok h.1 =
    ap (λ (s : SoFar every). with_procedures every (record { names = s.names; procedures = [] }) (Ok []) procedures) (sym whole) ∙ h.3 in
    let stays = procedures_stay number left (record { names = s3.names; procedures = [] }) (record { names = t3.names; procedures = [] }) f3.0 (λ j. refl) once3 (Ok []) [] procedures h.1
    (unused left (flat_map names_used procedures) apart) judged in (
      stays.0,
      described_by (with_types every s0 (before ++ new ∷ later)).right
          (with_procedures every (record { names = (with_types every s0 (before ++ new ∷ later)).names; procedures = [] }) (Ok []) procedures) stays.0
          (ap (λ (s : SoFar every). s.right) less ∙ f3.1)
          (ap (λ (s : SoFar every). with_procedures every (record { names = s.names; procedures = [] }) (Ok []) procedures) less ∙ stays.1),
    )
