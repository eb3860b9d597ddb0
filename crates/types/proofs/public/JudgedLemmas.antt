-- Procedures that are judged behind others are judged as if all had been given at once.
use Rattle.std.proofs.Common.{◌≡◌, List, [], ◌∷◌, ◌++◌, Ok, Err, refl, ap, sym, subst, ◌∙◌}
use Rattle.types.specs.Commands.{Scope}
use Rattle.types.specs.Declarations.{SoFar, after_procedure, judged_procedure, with_procedures, with_types, types_of, judged_description}
use Rattle.types.specs.Findings.{Verdict, becomes, both, with_next}
use Rattle.types.specs.Names.{VisibleNames}
use Rattle.types.specs.internal.Judged.{Judgement, scope_behind, last_scope, Judges, IsSpent}
use Rattle.types.specs.internal.Least.{least}
use Rattle.refusals.specs.declared.types.Fault.TheVariants.{Memory}
use Rattle.types.specs.declared.tree.PortKind.{PortKind}
use Rattle.types.specs.declared.tree.Procedure.{Procedure}
use Rattle.syntax.specs.declared.declaration.Description.{Description}
use Rattle.syntax.specs.declared.declaration.Procedure as tree_procedure
use Rattle.syntax.specs.declared.declaration.TypeDeclaration.{TypeDeclaration}
use Rattle.types.proofs.Order.{lesser-lesser, lesser-memory}

-- ---- further procedures

scope-append : (scope : Scope) (ps qs : List tree_procedure.Procedure) → scope_behind scope (ps ++ qs) ≡ scope_behind (scope_behind scope ps) qs
scope-append scope [] qs = refl
scope-append scope (p ∷ ps) qs = scope-append (after_procedure least scope p) ps qs

procedures-append : (scope : Scope) (done : Verdict (List Procedure)) (ps qs : List tree_procedure.Procedure)
    → with_procedures least scope done (ps ++ qs) ≡ with_procedures least (scope_behind scope ps) (with_procedures least scope done ps) qs
procedures-append scope done [] qs = refl
procedures-append scope done (p ∷ ps) qs = procedures-append (after_procedure least scope p) (with_next least done (judged_procedure least scope p)) ps qs

-- ---- the types beside the procedures

-- the procedures, where the types are right too
abbrev pub beside : Verdict (Unit {0}) → Verdict (List Procedure) → Verdict (List Procedure)
beside types procedures = becomes (λ p. p.1) (both least types procedures)

-- the types may be asked before a further procedure or behind it
next-beside : (types : Verdict (Unit {0})) (done : Verdict (List Procedure)) (next : Verdict Procedure)
    → beside types (with_next least done next) ≡ with_next least (beside types done) next
next-beside (Ok t) (Ok done) (Ok next) = refl
next-beside (Ok t) (Ok done) (Err fault) = refl
next-beside (Ok t) (Err other) (Ok next) = refl
next-beside (Ok t) (Err other) (Err fault) = refl
next-beside (Err first) (Ok done) (Ok next) = refl
next-beside (Err first) (Ok done) (Err fault) = refl
next-beside (Err first) (Err other) (Ok next) = refl
next-beside (Err first) (Err other) (Err fault) = ap (λ f. Err f) (sym (lesser-lesser first other fault))

procedures-beside : (types : Verdict (Unit {0})) (scope : Scope) (done : Verdict (List Procedure)) (ps : List tree_procedure.Procedure)
    → beside types (with_procedures least scope done ps) ≡ with_procedures least scope (beside types done) ps
procedures-beside types scope done [] = refl
procedures-beside types scope done (p ∷ rest) =
    procedures-beside types (after_procedure least scope p) (with_next least done (judged_procedure least scope p)) rest
    ∙ ap (λ z. with_procedures least (after_procedure least scope p) z rest) (next-beside types done (judged_procedure least scope p))

-- ---- what is held

-- nothing but the types is judged yet
pub judges-types :
    (judged : Judgement) (types : List TypeDeclaration) (start : VisibleNames) (right : Verdict (Unit {0}))
    → start ≡ []
    → ◌≡◌ {A = SoFar least} (record { names = judged.scope.names; right = right }) (with_types least (record { names = start; right = Ok tt }) types)
    → judged.scope.procedures ≡ []
    → judged.found ≡ beside right (Ok [])
    → Judges judged (record { types = types; procedures = [] })
unfolding judged_description
judges-types judged types start right start_is types_are none found_is =
    let d : Description = record { types = types; procedures = [] } in
    let all : ◌≡◌ {A = SoFar least} (record { names = judged.scope.names; right = right }) (types_of least d) =
    types_are ∙ ap (λ x. with_types least (record { names = x; right = Ok tt }) types) start_is in
    let names_are : judged.scope.names ≡ (types_of least d).names = ap (λ (s : SoFar least). s.names) all in
    record {
      scope =
          ap (λ (x : List (List PortKind)). record { names = judged.scope.names; procedures = x }) none
          ∙ ap (λ (x : VisibleNames). record { names = x; procedures = [] }) names_are;
      found = found_is ∙ ap (λ (s : SoFar least). beside s.right (Ok [])) all;
    }

-- further procedures are judged
pub judges-more :
    (before after : Judgement) (ps : List tree_procedure.Procedure) (d : Description)
    → Judges before d
    → after.found ≡ with_procedures least before.scope before.found ps
    → after.scope ≡ scope_behind before.scope ps
    → Judges after (record { types = d.types; procedures = d.procedures ++ ps })
unfolding judged_description
judges-more before after ps d is found_is scope_is =
    let start : Scope = record { names = (types_of least d).names; procedures = [] } in
    record {
      scope =
          scope_is
          ∙ ap (λ s. scope_behind s ps) is.scope
          ∙ sym (scope-append start d.procedures ps);
      found =
          found_is
          ∙ ap (λ s. with_procedures least s before.found ps) is.scope
          ∙ ap (λ f. with_procedures least (last_scope d) f ps) is.found
          ∙ sym (procedures-beside (types_of least d).right (last_scope d) (with_procedures least start (Ok []) d.procedures) ps)
          ∙ ap (beside (types_of least d).right) (sym (procedures-append start (Ok []) d.procedures ps));
    }

-- the types and the procedures that were given are all of the description
pub judges-all :
    (judged : Judgement) (d : Description) (types : List TypeDeclaration) (procedures : List tree_procedure.Procedure)
    → types ≡ d.types
    → procedures ≡ d.procedures
    → Judges judged (record { types = types; procedures = procedures })
    → Judges judged d
judges-all judged d types procedures all_types all_procedures is =
    subst (λ ts. Judges judged (record { types = ts; procedures = d.procedures })) all_types
    (subst (λ ps. Judges judged (record { types = types; procedures = ps })) all_procedures is)

-- ---- without memory

spent-next : {A : Type 0} (next : Verdict A) → with_next least (Err Memory) next ≡ Err Memory
spent-next (Ok a) = refl
spent-next (Err fault) = ap (λ f. Err f) (lesser-memory fault)

-- where there was no memory, no further procedure changes what is answered
pub spent-more : (scope : Scope) (found : Verdict (List Procedure)) (ps : List tree_procedure.Procedure)
    → found ≡ Err Memory → with_procedures least scope found ps ≡ Err Memory
spent-more scope found [] is = is
spent-more scope found (p ∷ rest) is =
    spent-more (after_procedure least scope p) (with_next least found (judged_procedure least scope p)) rest
    (ap (λ f. with_next least f (judged_procedure least scope p)) is ∙ spent-next (judged_procedure least scope p))
