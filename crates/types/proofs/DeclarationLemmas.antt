-- A procedure's declarations stand behind the names that are visible before it.
use Rattle.std.proofs.Common.{◌≡◌, ℕ, List, [], ◌∷◌, ◌++◌, length, take, true, false, is_some, if◌then◌else◌, map, refl, ap, sym, subst, ◌∙◌, append_assoc, append-nil}
use Rattle.std.proofs.Math.Seq.{take-append_seam}
use Rattle.types.specs.Commands.{Scope, judged_command}
use Rattle.types.specs.Findings.{Verdict, becomes, both, and}
use Rattle.types.specs.Names.{VisibleNames, look_up, declared, is_fresh, port_meaning, local_meaning}
use Rattle.types.specs.Declarations.{Declared, with_one, with_ports, with_locals, all_ports, all_locals, one_port, one_local, port_kind, local_kind, behind, port_types, local_types, judged_procedure, declarations_right, after_procedure}
use Rattle.types.specs.internal.Least.{least}
use Rattle.types.specs.declared.scope.Meaning.{Meaning}
use Rattle.types.specs.declared.scope.Meaning.TheVariants as meaning
use Rattle.types.specs.declared.tree.Command.{Command}
use Rattle.types.specs.declared.tree.Procedure.{Procedure}
use Rattle.types.specs.declared.tree.Local.{Local}
use Rattle.types.specs.declared.tree.LocalKind.{LocalKind}
use Rattle.types.specs.declared.tree.Port.{Port}
use Rattle.types.specs.declared.tree.PortKind.{PortKind}
use Rattle.syntax.specs.declared.declaration.Local as tree_local
use Rattle.syntax.specs.declared.declaration.Port as tree_port
use Rattle.syntax.specs.declared.declaration.Procedure as tree_procedure
use Rattle.syntax.specs.declared.name.Identifier.{Identifier}

-- the second names are the first ones and more behind them
pub record Extends (names more : VisibleNames) : Type 0 where
  pub rest : VisibleNames
  pub is : more ≡ names ++ rest

pub extends-same : (names : VisibleNames) → Extends names names
extends-same names = record { rest = []; is = sym (append-nil names) }

pub extends-twice : {a b c : VisibleNames} → Extends a b → Extends b c → Extends a c
extends-twice {a} {b} {c} f g = record { rest = f.rest ++ g.rest; is = g.is ∙ ap (λ x. x ++ g.rest) f.is ∙ append_assoc a f.rest g.rest }

pub declared-extends : (names : VisibleNames) (name : List ℕ) (m : Meaning) → Extends names (declared names name m)
declared-extends names name m =
    elim (is_some (look_up names name)) as (λ b. Extends names (if b then names else names ++ (name, m) ∷ [])) [
      | true ↦ extends-same names
      | false ↦ record { rest = (name, m) ∷ []; is = refl }
    ]

pub with_ports-extends : (kind : PortKind) (s : Declared least Port) (names : List Identifier) → Extends s.names (with_ports least kind s names).names
with_ports-extends kind s [] = extends-same s.names
with_ports-extends kind s (n ∷ rest) =
    extends-twice (declared-extends s.names n.name (port_meaning (length s.made) kind))
    (with_ports-extends kind (with_one least s n (port_meaning (length s.made) kind) (one_port kind n)) rest)

pub with_locals-extends : (kind : LocalKind) (s : Declared least Local) (names : List Identifier) → Extends s.names (with_locals least kind s names).names
with_locals-extends kind s [] = extends-same s.names
with_locals-extends kind s (n ∷ rest) =
    extends-twice (declared-extends s.names n.name (local_meaning (length s.made) kind))
    (with_locals-extends kind (with_one least s n (local_meaning (length s.made) kind) (one_local kind n)) rest)

pub all_ports-extends : (s : Declared least Port) (ds : List tree_port.Port) → Extends s.names (all_ports least s ds).names
all_ports-extends s [] = extends-same s.names
all_ports-extends s (d ∷ rest) =
    extends-twice (with_ports-extends (port_kind s.names d.kind) s d.names)
    (all_ports-extends (with_ports least (port_kind s.names d.kind) s d.names) rest)

pub all_locals-extends : (s : Declared least Local) (ds : List tree_local.Local) → Extends s.names (all_locals least s ds).names
all_locals-extends s [] = extends-same s.names
all_locals-extends s (d ∷ rest) =
    extends-twice (with_locals-extends (local_kind s.names d.kind) s d.names)
    (all_locals-extends (with_locals least (local_kind s.names d.kind) s d.names) rest)

module _ (v : Scope) (p : tree_procedure.Procedure)
    (pn : VisibleNames) (ports : List Port) (pr : Verdict (Unit {0}))
    (ports_are : ◌≡◌ {A = Declared least Port} (record { names = pn; made = ports; right = pr }) (all_ports least (behind least v.names) p.ports))
    (ln : VisibleNames) (locals : List Local) (lr : Verdict (Unit {0}))
    (locals_are : ◌≡◌ {A = Declared least Local} (record { names = ln; made = locals; right = lr }) (all_locals least (behind least pn) p.locals))
  where
    -- the names before the procedure are the first of those in its body
    pub names_before : take (length v.names) ln ≡ v.names
    names_before =
        let pn_is : pn ≡ (all_ports least (behind least v.names) p.ports).names = ap (λ (d : Declared least Port). d.names) ports_are in
        let ln_is : ln ≡ (all_locals least (behind least pn) p.locals).names = ap (λ (d : Declared least Local). d.names) locals_are in
        let more : Extends v.names ln =
        extends-twice
        (subst (λ x. Extends v.names x) (sym pn_is) (all_ports-extends (behind least v.names) p.ports))
        (subst (λ x. Extends pn x) (sym ln_is) (all_locals-extends (behind least pn) p.locals)) in
        ap (λ x. take (length v.names) x) more.is ∙ take-append_seam v.names more.rest

    -- the scope behind the procedure
    pub visible_after :
        (names : VisibleNames) (procedures : List (List PortKind)) (kept : VisibleNames) (visible : ℕ) (signature : List PortKind)
        → visible ≡ length v.names
        → kept ≡ take visible ln
        → signature ≡ map (λ q. q.kind) ports
        → names ≡ declared kept p.name.name (meaning.Procedure (length v.procedures))
        → procedures ≡ v.procedures ++ signature ∷ []
        → ◌≡◌ {A = Scope} (record { names = names; procedures = procedures }) (after_procedure least v p)
    visible_after names procedures kept visible signature visible_is kept_is signature_is names_are procedures_are =
        let ports_is : ports ≡ (all_ports least (behind least v.names) p.ports).made = ap (λ (d : Declared least Port). d.made) ports_are in
        let kept_names : kept ≡ v.names = kept_is ∙ ap (λ n. take n ln) visible_is ∙ names_before in
        let one : names ≡ declared v.names p.name.name (meaning.Procedure (length v.procedures)) =
        names_are ∙ ap (λ x. declared x p.name.name (meaning.Procedure (length v.procedures))) kept_names in
        let two : procedures ≡ v.procedures ++ map (λ q. q.kind) (all_ports least (behind least v.names) p.ports).made ∷ [] =
        procedures_are ∙ ap (λ x. v.procedures ++ x ∷ []) (signature_is ∙ ap (λ x. map (λ q. q.kind) x) ports_is) in
        ap (λ x. record { names = x; procedures = procedures }) one
        ∙ ap (λ x. record { names = declared v.names p.name.name (meaning.Procedure (length v.procedures)); procedures = x }) two

    -- what the procedure is
    pub procedure_is :
        (types : Verdict (Unit {0})) (body : Verdict Command) (named right : Verdict (Unit {0})) (name : List ℕ) (result : Verdict Procedure) (kept : VisibleNames) (visible : ℕ)
        → visible ≡ length v.names
        → kept ≡ take visible ln
        → types ≡ and least (port_types least ln p.ports) (local_types least ln p.locals)
        → body ≡ judged_command least p.body (record { names = ln; procedures = v.procedures }) []
        → named ≡ is_fresh kept p.name.name p.name.span.start
        → right ≡ and least named (and least (and least pr lr) types)
        → name ≡ p.name.name
        → result ≡ becomes (λ q. record { name = name; ports = ports; locals = locals; body = q.1 }) (both least right body)
        → result ≡ judged_procedure least v p
    unfolding judged_procedure declarations_right
    procedure_is types body named right name result kept visible visible_is kept_is types_are body_is named_is right_is name_is result_is =
        let pn_is : pn ≡ (all_ports least (behind least v.names) p.ports).names = ap (λ (d : Declared least Port). d.names) ports_are in
        let ports_is : ports ≡ (all_ports least (behind least v.names) p.ports).made = ap (λ (d : Declared least Port). d.made) ports_are in
        let pr_is : pr ≡ (all_ports least (behind least v.names) p.ports).right = ap (λ (d : Declared least Port). d.right) ports_are in
        let ln_is : ln ≡ (all_locals least (behind least pn) p.locals).names = ap (λ (d : Declared least Local). d.names) locals_are in
        let locals_is : locals ≡ (all_locals least (behind least pn) p.locals).made = ap (λ (d : Declared least Local). d.made) locals_are in
        let lr_is : lr ≡ (all_locals least (behind least pn) p.locals).right = ap (λ (d : Declared least Local). d.right) locals_are in
        let fresh : named ≡ is_fresh v.names p.name.name p.name.span.start =
        named_is ∙ ap (λ x. is_fresh x p.name.name p.name.span.start) (kept_is ∙ ap (λ n. take n ln) visible_is ∙ names_before) in
        rw (← ports_is, ← pr_is, ← pn_is, ← locals_is, ← lr_is, ← ln_is, ← types_are, ← body_is, ← fresh, ← right_is, ← name_is) result_is
