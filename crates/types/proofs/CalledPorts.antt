-- The procedure that a call names stands before, and its ports are those that the call is held against.
use Rattle.std.proofs.Common.{◌≡◌, ℕ, List, [], ◌∷◌, ◌++◌, length, map, flat_map, true, false, Bool, Option, Some, None, is_some, nat_eq, slice_get, if◌then◌else◌, Ok, refl, ap, sym, subst, ◌∙◌, append_assoc, append-nil}
use Rattle.std.proofs.lemmas.List.{map-append}
use Rattle.std.specs.Option.{option_or}
use Rattle.std.specs.Cmp.Lexicographic.{pointwise, bytes_decides}
use Rattle.types.specs.Commands.{Scope}
use Rattle.types.specs.Declarations.{demanded, type_width_or_one, width_or_one, port_kind, local_kind, one_port, one_local, port_type, SoFar, Declared, with_one, with_ports, with_locals, all_ports, all_locals, behind, ports_of, scope_inside, judged_procedure, after_procedure, with_procedures, types_of, judged_description, found_description}
use Rattle.types.specs.Expressions.{declared_width, type_width}
use Rattle.types.specs.Findings.{Verdict, Findings, with_next, every}
use Rattle.types.specs.Fits.{ports_in_order}
use Rattle.types.specs.Names.{VisibleNames, look_up, declared, port_meaning, local_meaning}
use Rattle.types.specs.Parts.{Name}
use Rattle.types.specs.Visible.{Declaration, type_widths, of_definition, of_procedure, outside}
use Rattle.types.specs.declared.scope.Meaning.{Meaning}
use Rattle.types.specs.declared.scope.Meaning.TheVariants as meaning
use Rattle.types.specs.declared.tree.Local.{Local}
use Rattle.types.specs.declared.tree.LocalKind.{LocalKind}
use Rattle.types.specs.declared.tree.LocalKind.TheVariants as local
use Rattle.types.specs.declared.tree.Port.{Port}
use Rattle.types.specs.declared.tree.PortKind.{PortKind}
use Rattle.types.specs.declared.tree.PortKind.TheVariants as port
use Rattle.types.specs.declared.tree.Procedure.{Procedure}
use Rattle.syntax.specs.Lists.{Every}
use Rattle.syntax.specs.declared.declaration.Description.{Description}
use Rattle.syntax.specs.declared.declaration.Local as tree_local
use Rattle.syntax.specs.declared.declaration.Port as tree_port
use Rattle.syntax.specs.declared.declaration.PortKind as tree_port_kind
use Rattle.syntax.specs.declared.declaration.PortKind.TheVariants as port_of
use Rattle.syntax.specs.declared.declaration.Procedure as tree_procedure
use Rattle.syntax.specs.declared.declaration.TypeDeclaration.{TypeDeclaration}
use Rattle.syntax.specs.declared.expression.TypeName.{TypeName}
use Rattle.syntax.specs.declared.expression.TypeName.TheVariants.{Named, Bits}
use Rattle.syntax.specs.declared.name.Identifier.{Identifier}
use Rattle.types.proofs.Behind.{types_mean, type_alike}
use Rattle.types.proofs.DeclaredOnce.{both-ok, demanded-ok, InAccepted, Inner, inner-none, inner-twice, all_ports_inner, all_locals_inner, ports_inner, types_tie, sound, Judged, next_judged, ties-name, type_at}
use Rattle.types.proofs.ExpressionWays.{type_found, type_once}
use Rattle.types.proofs.LeavingOut.{slice_get-append, slice_get-last}
use Rattle.types.proofs.Lookups.{Once, once-none, none_found, look_up-append, shown}
use Rattle.types.proofs.StaysRight.{Pairs}

-- ---- the kinds of ports, as they are written and as they are settled

abbrev pub SameKind : List Declaration → PortKind → tree_port_kind.PortKind → Type 0
SameKind types (port.Input w) (port_of.Input type) = type_widths types type ≡ w ∷ []
SameKind types (port.Output w) (port_of.Output type) = type_widths types type ≡ w ∷ []
SameKind types port.Sync port_of.Sync = Unit {0}
SameKind types _ _ = ⊥

pairs-append : {A B : Type 0} (R : A → B → Type 0) (xs us : List A) (ys vs : List B) → Pairs R xs ys → Pairs R us vs → Pairs R (xs ++ us) (ys ++ vs)
pairs-append R [] us [] vs p q = q
pairs-append R [] us (y ∷ ys) vs p q = absurd p
pairs-append R (x ∷ xs) us [] vs p q = absurd p
pairs-append R (x ∷ xs) us (y ∷ ys) vs p q = (p.0, pairs-append R xs us ys vs p.1 q)

abbrev kinds_made : List Port → List PortKind
kinds_made ports = map (λ (q : Port). q.kind) ports

module _ (outer inner : VisibleNames) (once : Once outer) (between : Inner outer inner) where
  abbrev Same : PortKind → tree_port_kind.PortKind → Type 0
  Same = SameKind (map shown outer)

  pub type_settled : (so_far : VisibleNames) → Inner outer so_far → (type : TypeName) → demanded (type_width inner [] type) ≡ Ok tt
      → type_widths (map shown outer) type ≡ type_width_or_one so_far type ∷ []
  type_settled so_far front type e = own type e ∙ ap (λ w. w ∷ []) (sym (type_alike outer inner between outer so_far (inner-none outer) front type e))
    where
      own : (type : TypeName) → demanded (type_width inner [] type) ≡ Ok tt → type_widths (map shown outer) type ≡ type_width_or_one outer type ∷ []
      own (Bits width) e =
          let right = demanded-ok (declared_width width) e in
          (type_once outer once [] (Bits width) right.0 right.1).0 ∙ ap (λ (v : Verdict ℕ). width_or_one v ∷ []) (sym right.1)
      own (Named identifier) e =
          let n = identifier.name in
          let right = demanded-ok (type_width inner [] (Named identifier)) e in
          let found = between.types n right.0 (type_found inner [] n identifier.span.start right.0 right.1) in
          let is : type_width outer [] (Named identifier) ≡ Ok right.0 = type_at outer n identifier.span.start right.0 found in
          (type_once outer once [] (Named identifier) right.0 is).0 ∙ ap (λ (v : Verdict ℕ). width_or_one v ∷ []) (sym is)

  kind_settled : (so_far : VisibleNames) → Inner outer so_far → (kind : tree_port_kind.PortKind) → port_type inner kind ≡ Ok tt → Same (port_kind so_far kind) kind
  kind_settled so_far front (port_of.Input type) e = type_settled so_far front type e
  kind_settled so_far front (port_of.Output type) e = type_settled so_far front type e
  kind_settled so_far front port_of.Sync e = tt

  ports_settled : (kind : PortKind) (written : tree_port_kind.PortKind) → Same kind written → (s : Declared every Port) (ks : List tree_port_kind.PortKind) (names : List Identifier)
      → Pairs Same (kinds_made s.made) ks → Pairs Same (kinds_made (with_ports every kind s names).made) (ks ++ map (λ (n : Identifier). written) names)
  ports_settled kind written same s ks [] ps = subst (Pairs Same (kinds_made s.made)) (sym (append-nil ks)) ps
  ports_settled kind written same s ks (n ∷ rest) ps =
      let one = one_port kind n in
      let next = with_one every s n (port_meaning (length s.made) kind) one in
      let more : Pairs Same (kinds_made (s.made ++ one ∷ [])) (ks ++ written ∷ []) =
      subst (λ z. Pairs Same z (ks ++ written ∷ [])) (sym (map-append (λ (q : Port). q.kind) s.made (one ∷ [])))
      (pairs-append Same (kinds_made s.made) (kind ∷ []) ks (written ∷ []) ps (same, tt)) in
      subst (Pairs Same (kinds_made (with_ports every kind next rest).made)) (append_assoc ks (written ∷ []) (map (λ (n : Identifier). written) rest))
      (ports_settled kind written same next (ks ++ written ∷ []) rest more)

  all_settled : (s : Declared every Port) (ks : List tree_port_kind.PortKind) (ds : List tree_port.Port) → Inner outer s.names
      → Every (λ (d : tree_port.Port). port_type inner d.kind ≡ Ok tt) ds → Pairs Same (kinds_made s.made) ks
      → Pairs Same (kinds_made (all_ports every s ds).made) (ks ++ flat_map (λ (d : tree_port.Port). map (λ (n : Identifier). d.kind) d.names) ds)
  all_settled s ks [] front right ps = subst (Pairs Same (kinds_made s.made)) (sym (append-nil ks)) ps
  all_settled s ks (d ∷ rest) front right ps =
      let kind = port_kind s.names d.kind in
      let next = with_ports every kind s d.names in
      let these = map (λ (n : Identifier). d.kind) d.names in
      subst (Pairs Same (kinds_made (all_ports every next rest).made))
      (append_assoc ks these (flat_map (λ (d : tree_port.Port). map (λ (n : Identifier). d.kind) d.names) rest))
      (all_settled next (ks ++ these) rest (inner-twice outer s.names next.names front (ports_inner kind s d.names)) right.1
      (ports_settled kind d.kind (kind_settled s.names front d.kind right.0) s ks d.names ps))

-- ---- the procedures that are visible

-- the procedure of this name and number stands before, and has these ports
pub record Stands (types : List TypeDeclaration) (before : List tree_procedure.Procedure) (procedures : List (List PortKind)) (n : Name) (i : ℕ) : Type 0 where
  pub first : List tree_procedure.Procedure
  pub procedure : tree_procedure.Procedure
  pub rest : List tree_procedure.Procedure
  pub split : before ≡ first ++ procedure ∷ rest
  pub named : procedure.name.name ≡ n
  pub kinds : List PortKind
  pub at : slice_get procedures i ≡ Some kinds
  pub same : Pairs (SameKind (outside types first)) kinds (ports_in_order procedure)

abbrev pub Known : List TypeDeclaration → List tree_procedure.Procedure → Scope → Type 0
Known types before scope = (n : Name) (i : ℕ) → look_up scope.names n ≡ Some (meaning.Procedure i) → Stands types before scope.procedures n i

stands_more : (types : List TypeDeclaration) (before : List tree_procedure.Procedure) (b : tree_procedure.Procedure) (procedures : List (List PortKind)) (kinds : List PortKind)
    (n : Name) (i : ℕ) → Stands types before procedures n i → Stands types (before ++ b ∷ []) (procedures ++ kinds ∷ []) n i
stands_more types before b procedures kinds n i s = record {
  first = s.first;
  procedure = s.procedure;
  rest = s.rest ++ b ∷ [];
  split = ap (λ z. z ++ b ∷ []) s.split ∙ append_assoc s.first (s.procedure ∷ s.rest) (b ∷ []);
  named = s.named;
  kinds = s.kinds;
  at = slice_get-append (λ p. p) [] procedures (kinds ∷ []) i s.kinds s.at;
  same = s.same;
}

ports_known : (types : List TypeDeclaration) (before : List tree_procedure.Procedure) (scope : Scope) (b : tree_procedure.Procedure) → Once scope.names
    → map shown scope.names ≡ outside types before → Judged scope b
    → Pairs (SameKind (outside types before)) (kinds_made (ports_of every scope.names b).made) (ports_in_order b)
ports_known types before scope b once seen j =
    let ports = ports_of every scope.names b in
    let inner = (scope_inside every scope b).names in
    let between = inner-twice scope.names ports.names inner (all_ports_inner (behind every scope.names) b.ports) (all_locals_inner (behind every ports.names) b.locals) in
    subst (λ ds. Pairs (SameKind ds) (kinds_made ports.made) (ports_in_order b)) seen
    (all_settled scope.names inner once between (behind every scope.names) [] b.ports (inner-none scope.names) (sound scope b once j.declarations).ports tt)

module _ (types : List TypeDeclaration) (before : List tree_procedure.Procedure) (scope : Scope) (b : tree_procedure.Procedure) (once : Once scope.names)
    (seen : map shown scope.names ≡ outside types before) (j : Judged scope b) (known : Known types before scope) where
  abbrev new_one : Meaning
  new_one = meaning.Procedure (length scope.procedures)

  abbrev new_kinds : List PortKind
  new_kinds = kinds_made (ports_of every scope.names b).made

  abbrev StandsNow : Name → ℕ → Type 0
  StandsNow n i = Stands types (before ++ b ∷ []) (scope.procedures ++ new_kinds ∷ []) n i

  own_stands : (n : Name) (i : ℕ) (t : Bool) → pointwise nat_eq n b.name.name ≡ t → (if t then Some new_one else None) ≡ Some (meaning.Procedure i) → StandsNow n i
  own_stands n i true same e =
      let number : length scope.procedures ≡ i = cc in
      record {
        first = before;
        procedure = b;
        rest = [];
        split = refl;
        named = sym ((bytes_decides n b.name.name).0 same);
        kinds = new_kinds;
        at = ap (slice_get (scope.procedures ++ new_kinds ∷ [])) (sym number) ∙ slice_get-last (λ p. p) [] scope.procedures new_kinds;
        same = ports_known types before scope b once seen j;
      }
  own_stands n i false other e = absurd cc

  known_after : Known types (before ++ b ∷ []) (after_procedure every scope b)
  known_after n i is = by (look_up scope.names n) refl
    where
      fresh : look_up scope.names b.name.name ≡ None
      fresh = (sound scope b once j.declarations).fresh

      grown : declared scope.names b.name.name new_one ≡ scope.names ++ (b.name.name, new_one) ∷ []
      grown = rw fresh refl

      found : option_or (look_up scope.names n) (look_up ((b.name.name, new_one) ∷ []) n) ≡ Some (meaning.Procedure i)
      found = sym (look_up-append scope.names ((b.name.name, new_one) ∷ []) n) ∙ sym (ap (λ z. look_up z n) grown) ∙ is

      by : (o : Option Meaning) → look_up scope.names n ≡ o → StandsNow n i
      by (Some k) e =
          let same : Some k ≡ Some (meaning.Procedure i) = rw e at found in
          stands_more types before b scope.procedures new_kinds n i (known n i (e ∙ same))
      by None e = own_stands n i (pointwise nat_eq n b.name.name) refl (rw e at found)

-- ---- a procedure of an accepted description

pub record Knows (d : Description) (before : List tree_procedure.Procedure) (p : tree_procedure.Procedure) : Type 0 where
  pub here : InAccepted d before p
  pub known : Known d.types before here.scope

known_at : (d : Description) (scope : Scope) (first : List tree_procedure.Procedure) → Once scope.names → map shown scope.names ≡ outside d.types first
    → Known d.types first scope → (done : Findings every (List Procedure)) (before : List tree_procedure.Procedure) (p : tree_procedure.Procedure)
    (later : List tree_procedure.Procedure) (qs : List Procedure) → with_procedures every scope done (before ++ p ∷ later) ≡ Ok qs → Knows d (first ++ before) p
known_at d scope first once seen known done [] p later qs e =
    subst (λ z. Knows d z p) (sym (append-nil first))
    (record { here = record { scope = scope; judged = next_judged scope done p later qs e; once = once; seen = seen }; known = known })
known_at d scope first once seen known done (b ∷ bs) p later qs e =
    let j = next_judged scope done b (bs ++ p ∷ later) qs e in
    let tied = ties-name scope.names b.name.name (meaning.Procedure (length scope.procedures)) (sound scope b once j.declarations).fresh in
    let declared_types = flat_map (λ (t : TypeDeclaration). of_definition t.name.name t.definition) d.types in
    let seen_next : map shown (after_procedure every scope b).names ≡ outside d.types (first ++ b ∷ []) =
    tied.seen ∙ ap (λ z. z ++ of_procedure b ∷ []) seen ∙ append_assoc declared_types (map of_procedure first) (of_procedure b ∷ [])
    ∙ ap (λ z. declared_types ++ z) (sym (map-append of_procedure first (b ∷ []))) in
    subst (λ z. Knows d z p) (append_assoc first (b ∷ []) bs)
    (known_at d (after_procedure every scope b) (first ++ b ∷ []) (tied.once once) seen_next (known_after d.types first scope b once seen j known)
    (with_next every done (judged_procedure every scope b)) bs p later qs e)

-- what is no procedure
abbrev IsNone : Meaning → Type 0
IsNone (meaning.Procedure i) = ⊥
IsNone _ = Unit {0}

pub knows : (d : Description) (qs : List Procedure) → found_description d ≡ Ok qs → (before : List tree_procedure.Procedure) (p : tree_procedure.Procedure)
    (later : List tree_procedure.Procedure) → d.procedures ≡ before ++ p ∷ later → Knows d before p
unfolding found_description judged_description
knows d qs e before p later split =
    let s0 : SoFar every = record { names = []; right = Ok tt } in
    let types = types_of every d in
    let scope : Scope = record { names = types.names; procedures = [] } in
    let h = both-ok (λ p. p.1) types.right (with_procedures every scope (Ok []) d.procedures) qs e in
    let tied = (types_tie s0 d.types h.2).1 in
    let declared_types = flat_map (λ (t : TypeDeclaration). of_definition t.name.name t.definition) d.types in
    let none = types_mean IsNone (λ w. tt) (λ v. tt) s0 d.types (λ n m is. none_found n m is) in
    known_at d scope [] (tied.once once-none) (tied.seen ∙ sym (append-nil declared_types)) (λ n i is. absurd (none n (meaning.Procedure i) is)) (Ok []) before p later h.1
    (sym (ap (with_procedures every scope (Ok [])) split) ∙ h.3)

-- ---- inside of a procedure

not_new : (es : VisibleNames) (x : Name) (m : Meaning) → IsNone m → (n : Name) (i : ℕ) → look_up (declared es x m) n ≡ Some (meaning.Procedure i)
    → look_up es n ≡ Some (meaning.Procedure i)
not_new es x m other n i =
    elim (is_some (look_up es x)) as (λ b. look_up (if b then es else es ++ (x, m) ∷ []) n ≡ Some (meaning.Procedure i) → look_up es n ≡ Some (meaning.Procedure i)) [
      | true ↦ λ is. is
      | false ↦ λ is. by (look_up es n) refl (sym (look_up-append es ((x, m) ∷ []) n) ∙ is)
    ]
  where
    new : (b : Bool) → (if b then Some m else None) ≡ Some (meaning.Procedure i) → ⊥
    new true e = let same : m ≡ meaning.Procedure i = cc in subst IsNone same other
    new false e = cc

    by : (o : Option Meaning) → look_up es n ≡ o → option_or (look_up es n) (look_up ((x, m) ∷ []) n) ≡ Some (meaning.Procedure i) → look_up es n ≡ Some (meaning.Procedure i)
    by (Some k) e found = e ∙ (rw e at found)
    by None e found = absurd (new (pointwise nat_eq n x) (rw e at found))

port_none : (p : ℕ) (kind : PortKind) → IsNone (port_meaning p kind)
port_none p (port.Input w) = tt
port_none p (port.Output w) = tt
port_none p port.Sync = tt

local_none : (l : ℕ) (kind : LocalKind) → IsNone (local_meaning l kind)
local_none l (local.Variable w) = tt
local_none l (local.SharedVariable w) = tt
local_none l (local.Channel w) = tt
local_none l local.Sync = tt

module _ (n : Name) (i : ℕ) where
  abbrev IsIt : VisibleNames → Type 0
  IsIt es = look_up es n ≡ Some (meaning.Procedure i)

  before_ports : (kind : PortKind) (s : Declared every Port) (names : List Identifier) → IsIt (with_ports every kind s names).names → IsIt s.names
  before_ports kind s [] is = is
  before_ports kind s (x ∷ rest) is =
      let m = port_meaning (length s.made) kind in
      not_new s.names x.name m (port_none (length s.made) kind) n i (before_ports kind (with_one every s x m (one_port kind x)) rest is)

  before_locals : (kind : LocalKind) (s : Declared every Local) (names : List Identifier) → IsIt (with_locals every kind s names).names → IsIt s.names
  before_locals kind s [] is = is
  before_locals kind s (x ∷ rest) is =
      let m = local_meaning (length s.made) kind in
      not_new s.names x.name m (local_none (length s.made) kind) n i (before_locals kind (with_one every s x m (one_local kind x)) rest is)

  before_all_ports : (s : Declared every Port) (ds : List tree_port.Port) → IsIt (all_ports every s ds).names → IsIt s.names
  before_all_ports s [] is = is
  before_all_ports s (d ∷ rest) is =
      before_ports (port_kind s.names d.kind) s d.names (before_all_ports (with_ports every (port_kind s.names d.kind) s d.names) rest is)

  before_all_locals : (s : Declared every Local) (ds : List tree_local.Local) → IsIt (all_locals every s ds).names → IsIt s.names
  before_all_locals s [] is = is
  before_all_locals s (d ∷ rest) is =
      before_locals (local_kind s.names d.kind) s d.names (before_all_locals (with_locals every (local_kind s.names d.kind) s d.names) rest is)

pub known_inside : (types : List TypeDeclaration) (before : List tree_procedure.Procedure) (scope : Scope) (p : tree_procedure.Procedure) → Known types before scope
    → Known types before (scope_inside every scope p)
known_inside types before scope p known n i is =
    let ports = ports_of every scope.names p in
    known n i (before_all_ports n i (behind every scope.names) p.ports (before_all_locals n i (behind every ports.names) p.locals is))
