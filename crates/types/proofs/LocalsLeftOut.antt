-- An accepted description without a declaration of locals that are not used is accepted.
use Rattle.std.proofs.Common.{◌≡◌, ℕ, ◌+◌, ◌<◌, ◌≤◌, inl, inr, List, [], ◌∷◌, ◌++◌, length, map, flat_map, Some, None, slice_get, Ok, refl, ap, sym, subst, ◌∙◌, length-append, arith}
use Rattle.std.proofs.lemmas.List.Concat.{flat_map-append}
use Rattle.types.specs.Commands.{Scope, judged_command}
use Rattle.types.specs.Declarations.{local_kind, port_kind, one_port, one_local, local_type, port_type, SoFar, with_types, Declared, with_one, with_ports, with_locals, all_ports, all_locals, behind, port_types, local_types, ports_of, locals_of, scope_inside, judged_procedure, after_procedure, with_procedures, judged_description, found_description}
use Rattle.types.specs.Findings.{Findings, with_next, one_fault, every}
use Rattle.types.specs.Laws.{LocalsMayBeLeftOut}
use Rattle.types.specs.Names.{VisibleNames, look_up, declared, is_fresh, port_meaning, local_meaning}
use Rattle.types.specs.Parts.{Name, Part, named, valued, names_of_part, names_of_expression, names_of_port, names_of_local, names_used, parts_of_command}
use Rattle.types.specs.declared.scope.Meaning.{Meaning}
use Rattle.types.specs.declared.scope.Meaning.TheVariants as meaning
use Rattle.types.specs.declared.tree.Local.{Local}
use Rattle.types.specs.declared.tree.LocalKind.{LocalKind}
use Rattle.types.specs.declared.tree.LocalKind.TheVariants as local
use Rattle.types.specs.declared.tree.Port.{Port}
use Rattle.types.specs.declared.tree.PortKind.{PortKind}
use Rattle.types.specs.declared.tree.PortKind.TheVariants as port
use Rattle.types.specs.declared.tree.Procedure.{Procedure}
use Rattle.syntax.specs.Lists.{In, Every}
use Rattle.syntax.specs.declared.declaration.Local as tree_local
use Rattle.syntax.specs.declared.declaration.Port as tree_port
use Rattle.syntax.specs.declared.declaration.Procedure as tree_procedure
use Rattle.syntax.specs.declared.name.Identifier.{Identifier}
use Rattle.types.proofs.DeclaredOnce.{both-ok, and-ok, fresh-ok, Inner, inner-twice, all_ports_inner, all_locals_inner, locals_inner, types_tie, locals_tie, sound, Judged, next_right, next_judged, ties-name}
use Rattle.types.proofs.Behind.{lower, lower_low, lower_high, Remote, lower_apart, Mean, mean_declared, types_mean, local_alike, all_locals-append, again}
use Rattle.types.proofs.LeavingOut.{Follows, follows-declared, follows-left, unused, within, all_locals_right, ports_right, locals_right, ok_stays, right_by, judged_by, described_by}
use Rattle.types.proofs.Lookups.{Once, once-none, none_found, every-append, every-front, every-back, every-weaker}
use Rattle.types.proofs.Staying.{Renumbering, renamed, Remains, Kept, KeptPart, command_stays}

-- ---- numbers of locals

-- locals have other numbers where these are left out; ports and procedures keep theirs
abbrev locals_anew : ℕ → ℕ → Renumbering
locals_anew r k = record {
  port = λ p. p;
  local = lower r k;
  procedure = λ p. p;
  KeepsPort = λ _. Unit {0};
  KeepsLocal = Remote r k;
  ports_apart = λ a b x y. refl;
  locals_apart = lower_apart r k;
}

-- ---- what all names mean

-- what is no local
abbrev IsOuter : Meaning → Type 0
IsOuter (meaning.Variable l w) = ⊥
IsOuter (meaning.Channel l w) = ⊥
IsOuter (meaning.Sync l) = ⊥
IsOuter _ = Unit {0}

port_outer : (p : ℕ) (kind : PortKind) → IsOuter (port_meaning p kind)
port_outer p (port.Input w) = tt
port_outer p (port.Output w) = tt
port_outer p port.Sync = tt

ports_outer : (kind : PortKind) (s : Declared every Port) (names : List Identifier) → Mean IsOuter s.names → Mean IsOuter (with_ports every kind s names).names
ports_outer kind s [] all = all
ports_outer kind s (n ∷ rest) all =
    ports_outer kind (with_one every s n (port_meaning (length s.made) kind) (one_port kind n)) rest
    (mean_declared IsOuter s.names n.name (port_meaning (length s.made) kind) all (port_outer (length s.made) kind))

all_ports_outer : (s : Declared every Port) (ds : List tree_port.Port) → Mean IsOuter s.names → Mean IsOuter (all_ports every s ds).names
all_ports_outer s [] all = all
all_ports_outer s (d ∷ rest) all =
    all_ports_outer (with_ports every (port_kind s.names d.kind) s d.names) rest (ports_outer (port_kind s.names d.kind) s d.names all)

-- what is no local, or a local below this number
abbrev IsBelow : ℕ → Meaning → Type 0
IsBelow r (meaning.Variable l w) = l < r
IsBelow r (meaning.Channel l w) = l < r
IsBelow r (meaning.Sync l) = l < r
IsBelow r _ = Unit {0}

below_more : (r : ℕ) (m : Meaning) → IsBelow r m → IsBelow (r + 1) m
below_more r (meaning.Variable l w) h = omega (arith, h)
below_more r (meaning.Channel l w) h = omega (arith, h)
below_more r (meaning.Sync l) h = omega (arith, h)
below_more r (meaning.TypeName w) h = tt
below_more r (meaning.Element v) h = tt
below_more r (meaning.Procedure p) h = tt
below_more r (meaning.Input p w) h = tt
below_more r (meaning.Output p w) h = tt
below_more r (meaning.SyncPort p) h = tt

outer_below : (r : ℕ) (m : Meaning) → IsOuter m → IsBelow r m
outer_below r (meaning.Variable l w) h = absurd h
outer_below r (meaning.Channel l w) h = absurd h
outer_below r (meaning.Sync l) h = absurd h
outer_below r (meaning.TypeName w) h = tt
outer_below r (meaning.Element v) h = tt
outer_below r (meaning.Procedure p) h = tt
outer_below r (meaning.Input p w) h = tt
outer_below r (meaning.Output p w) h = tt
outer_below r (meaning.SyncPort p) h = tt

local_below : (l : ℕ) (kind : LocalKind) → IsBelow (l + 1) (local_meaning l kind)
local_below l (local.Variable w) = omega arith
local_below l (local.SharedVariable w) = omega arith
local_below l (local.Channel w) = omega arith
local_below l local.Sync = omega arith

locals_below : (kind : LocalKind) (s : Declared every Local) (names : List Identifier) → Mean (IsBelow (length s.made)) s.names
    → Mean (IsBelow (length (with_locals every kind s names).made)) (with_locals every kind s names).names
locals_below kind s [] all = all
locals_below kind s (n ∷ rest) all =
    let m = local_meaning (length s.made) kind in
    let one = one_local kind n in
    let grown : length s.made + 1 ≡ length (s.made ++ one ∷ []) = sym (length-append s.made (one ∷ [])) in
    locals_below kind (with_one every s n m one) rest
    (subst (λ z. Mean (IsBelow z) (declared s.names n.name m)) grown
    (mean_declared (IsBelow (length s.made + 1)) s.names n.name m (λ x k is. below_more (length s.made) k (all x k is)) (local_below (length s.made) kind)))

all_locals_below : (s : Declared every Local) (ds : List tree_local.Local) → Mean (IsBelow (length s.made)) s.names
    → Mean (IsBelow (length (all_locals every s ds).made)) (all_locals every s ds).names
all_locals_below s [] all = all
all_locals_below s (d ∷ rest) all =
    all_locals_below (with_locals every (local_kind s.names d.kind) s d.names) rest (locals_below (local_kind s.names d.kind) s d.names all)

-- ---- locals behind fewer locals

module _ (r k : ℕ) (left : List Name) where
  abbrev New : Meaning → Meaning
  New = renamed (locals_anew r k)

  abbrev Fine : Meaning → Type 0
  Fine (meaning.Channel l w) = Remote r k l
  Fine (meaning.Sync l) = Remote r k l
  Fine _ = Unit {0}

  abbrev Fewer : VisibleNames → VisibleNames → Type 0
  Fewer old new = Follows New Fine left old new

  below_same : (m : Meaning) → IsBelow r m → (New m ≡ m) × Fine m
  below_same (meaning.Variable l w) h = (ap (λ x. meaning.Variable x w) (lower_low r k l h), tt)
  below_same (meaning.Channel l w) h = (ap (λ x. meaning.Channel x w) (lower_low r k l h), inl h)
  below_same (meaning.Sync l) h = (ap (λ x. meaning.Sync x) (lower_low r k l h), inl h)
  below_same (meaning.TypeName w) h = (refl, tt)
  below_same (meaning.Element v) h = (refl, tt)
  below_same (meaning.Procedure p) h = (refl, tt)
  below_same (meaning.Input p w) h = (refl, tt)
  below_same (meaning.Output p w) h = (refl, tt)
  below_same (meaning.SyncPort p) h = (refl, tt)

  fewer_same : (es : VisibleNames) → Mean (IsBelow r) es → Fewer es es
  fewer_same es all = record {
    kept = λ n m out is. let h = below_same m (all n m is) in (is ∙ ap (λ z. Some z) (sym h.0), h.1);
    free = λ n is. is;
  }

  -- the locals that are left out
  locals_gone : (kind : LocalKind) (s : Declared every Local) (new : VisibleNames) (names : List Identifier) → Every (λ (x : Identifier). In x.name left) names
      → (with_locals every kind s names).right ≡ Ok tt → Fewer s.names new
      → Fewer (with_locals every kind s names).names new × (length (with_locals every kind s names).made ≡ length s.made + length names)
  locals_gone kind s new [] out e f = (f, omega arith)
  locals_gone kind s new (n ∷ rest) out e f =
      let m = local_meaning (length s.made) kind in
      let next = with_one every s n m (one_local kind n) in
      let next_ok = (locals_tie kind next rest e).0 in
      let h = and-ok s.right (one_fault (is_fresh s.names n.name n.span.start)) next_ok in
      let gone = locals_gone kind next new rest out.1 e (follows-left New Fine left s.names new n.name m f out.0 (fresh-ok s.names n.name n.span.start h.1)) in
      (gone.0, gone.1 ∙ omega (arith, length-append s.made (one_local kind n ∷ [])))

  -- those behind them
  record Behind (s t : Declared every Local) : Type 0 where
    names : Fewer s.names t.names
    right : t.right ≡ Ok tt
    count : length s.made ≡ length t.made + k
    enough : r ≤ length t.made

  number_new : (a b : ℕ) → a ≡ b + k → r ≤ b → lower r k a ≡ b
  number_new a b count enough = lower_high r k a (omega (arith, count, enough)) ∙ omega (arith, count)

  local_new : (a b : ℕ) (kind : LocalKind) → a ≡ b + k → r ≤ b → (New (local_meaning a kind) ≡ local_meaning b kind) × Fine (local_meaning a kind)
  local_new a b (local.Variable w) count enough = (ap (λ x. meaning.Variable x w) (number_new a b count enough), tt)
  local_new a b (local.SharedVariable w) count enough = (ap (λ x. meaning.Variable x w) (number_new a b count enough), tt)
  local_new a b (local.Channel w) count enough = (ap (λ x. meaning.Channel x w) (number_new a b count enough), inr (omega (arith, count, enough)))
  local_new a b local.Sync count enough = (ap (λ x. meaning.Sync x) (number_new a b count enough), inr (omega (arith, count, enough)))

  locals_behind : (kind : LocalKind) (s t : Declared every Local) (names : List Identifier) → (with_locals every kind s names).right ≡ Ok tt → Behind s t
      → Behind (with_locals every kind s names) (with_locals every kind t names)
  locals_behind kind s t [] e b = b
  locals_behind kind s t (n ∷ rest) e b =
      let m = local_meaning (length s.made) kind in
      let m' = local_meaning (length t.made) kind in
      let one = one_local kind n in
      let next = with_one every s n m one in
      let h = and-ok s.right (one_fault (is_fresh s.names n.name n.span.start)) (locals_tie kind next rest e).0 in
      let fresh = fresh-ok s.names n.name n.span.start h.1 in
      let absent : look_up t.names n.name ≡ None = b.names.free n.name fresh in
      let new = local_new (length s.made) (length t.made) kind b.count b.enough in
      locals_behind kind next (with_one every t n m' one) rest e (record {
        names = subst (λ z. Fewer (declared s.names n.name m) (declared t.names n.name z)) new.0
            (follows-declared New Fine left s.names t.names n.name m b.names new.1 fresh);
        right = rw (b.right, absent) refl;
        count = omega (arith, length-append s.made (one ∷ []), length-append t.made (one ∷ []), b.count);
        enough = omega (arith, length-append t.made (one ∷ []), b.enough);
      })

  -- a type of a local is the same behind fewer locals
  module _ (outer inner : VisibleNames) (between : Inner outer inner) where
    all_locals_behind : (s t : Declared every Local) (ds : List tree_local.Local) → Inner outer s.names → Inner outer t.names
        → Every (λ (d : tree_local.Local). local_type inner d.kind ≡ Ok tt) ds → (all_locals every s ds).right ≡ Ok tt → Behind s t
        → Behind (all_locals every s ds) (all_locals every t ds)
    all_locals_behind s t [] front front' right e b = b
    all_locals_behind s t (d ∷ rest) front front' right e b =
        let kind = local_kind s.names d.kind in
        let kind' = local_kind t.names d.kind in
        let next = with_locals every kind s d.names in
        let one : Behind next (with_locals every kind' t d.names) =
        subst (λ z. Behind next (with_locals every z t d.names)) (sym (local_alike outer inner between s.names t.names front front' d.kind right.0))
        (locals_behind kind s t d.names (all_locals_right next rest e) b) in
        all_locals_behind next (with_locals every kind' t d.names) rest
        (inner-twice outer s.names next.names front (locals_inner kind s d.names))
        (inner-twice outer t.names (with_locals every kind' t d.names).names front' (locals_inner kind' t d.names)) right.1 e one

-- ---- the procedure

remains_fine : (r k : ℕ) (left : List Name) (old new : Scope) → new.procedures ≡ old.procedures → (m : Meaning) → Fine r k left m
    → Remains (locals_anew r k) old new m
remains_fine r k left old new same (meaning.Procedure p) fine = ap (λ ps. slice_get ps p) same
remains_fine r k left old new same (meaning.Channel l w) fine = fine
remains_fine r k left old new same (meaning.Sync l) fine = fine
remains_fine r k left old new same (meaning.TypeName w) fine = tt
remains_fine r k left old new same (meaning.Element v) fine = tt
remains_fine r k left old new same (meaning.Input p w) fine = tt
remains_fine r k left old new same (meaning.Output p w) fine = tt
remains_fine r k left old new same (meaning.SyncPort p) fine = tt
remains_fine r k left old new same (meaning.Variable l w) fine = tt

module _ (scope : Scope) (once : Once scope.names) (outer : Mean IsOuter scope.names) (p : tree_procedure.Procedure)
    (front : List tree_local.Local) (l : tree_local.Local) (back : List tree_local.Local) where
  abbrev whole : tree_procedure.Procedure
  whole = record p { locals = front ++ l ∷ back }

  abbrev less : tree_procedure.Procedure
  less = record p { locals = front ++ back }

  abbrev gone : List Name
  gone = map (λ (z : Identifier). z.name) l.names

  module _ (j : Judged scope whole) (out : Every (λ n. In n gone → ⊥) (names_used whole)) where
    abbrev ports : Declared every Port
    ports = ports_of every scope.names p

    abbrev s1 : Declared every Local
    s1 = all_locals every (behind every ports.names) front

    abbrev kind : LocalKind
    kind = local_kind s1.names l.kind

    abbrev s2 : Declared every Local
    s2 = with_locals every kind s1 l.names

    abbrev s3 : Declared every Local
    s3 = all_locals every s2 back

    abbrev t3 : Declared every Local
    t3 = all_locals every s1 back

    is_whole : locals_of every scope.names whole ≡ s3
    is_whole = all_locals-append (behind every ports.names) front (l ∷ back)

    is_less : locals_of every scope.names less ≡ t3
    is_less = all_locals-append (behind every ports.names) front back

    right3 : s3.right ≡ Ok tt
    right3 = ap (λ (s : Declared every Local). s.right) (sym is_whole) ∙ (sound scope whole once j.declarations).locals_right

    right2 : s2.right ≡ Ok tt
    right2 = all_locals_right s2 back right3

    right1 : s1.right ≡ Ok tt
    right1 = (locals_tie kind s1 l.names right2).0

    inner_is : (scope_inside every scope whole).names ≡ s3.names
    inner_is = ap (λ (s : Declared every Local). s.names) is_whole

    to_ports : Inner scope.names ports.names
    to_ports = all_ports_inner (behind every scope.names) p.ports

    to_front : Inner scope.names s1.names
    to_front = inner-twice scope.names ports.names s1.names to_ports (all_locals_inner (behind every ports.names) front)

    to_gone : Inner scope.names s2.names
    to_gone = inner-twice scope.names s1.names s2.names to_front (locals_inner kind s1 l.names)

    between : Inner scope.names s3.names
    between = inner-twice scope.names s2.names s3.names to_gone (all_locals_inner s2 back)

    -- what the types of the locals are in the whole
    kinds : Every (λ (d : tree_local.Local). local_type s3.names d.kind ≡ Ok tt) (front ++ l ∷ back)
    kinds = subst (λ (z : VisibleNames). Every (λ (d : tree_local.Local). local_type z d.kind ≡ Ok tt) (front ++ l ∷ back)) inner_is
        (sound scope whole once j.declarations).locals

    abbrev IsRightKind : tree_local.Local → Type 0
    IsRightKind d = local_type s3.names d.kind ≡ Ok tt

    kinds_front : Every IsRightKind front
    kinds_front = every-front IsRightKind front (l ∷ back) kinds

    kinds_back : Every IsRightKind back
    kinds_back = (every-back IsRightKind front (l ∷ back) kinds).1

    fewer : Behind (length s1.made) (length l.names) gone s3 t3
    fewer =
        let r = length s1.made in
        let k = length l.names in
        let below = all_locals_below (behind every ports.names) front
        (λ n m is. outer_below 0 m (all_ports_outer (behind every scope.names) p.ports outer n m is)) in
        let without = locals_gone r k gone kind s1 s1.names l.names (within l.names) right2 (fewer_same r k gone s1.names below) in
        all_locals_behind r k gone scope.names s3.names between s2 s1 back to_gone to_front kinds_back right3
        (record { names = without.0; right = right1; count = without.1; enough = omega arith })

    names_kept : (n : List ℕ) (w : ℕ) → (In n gone → ⊥) → look_up s3.names n ≡ Some (meaning.TypeName w) → look_up t3.names n ≡ Some (meaning.TypeName w)
    names_kept n w stays is = (fewer.names.kept n (meaning.TypeName w) stays is).0

    abbrev Out : Name → Type 0
    Out n = In n gone → ⊥

    abbrev port_names : List Name
    port_names = flat_map (λ (d : tree_port.Port). names_of_port d.kind) p.ports

    abbrev names_of : List tree_local.Local → List Name
    names_of ds = flat_map (λ (d : tree_local.Local). names_of_local d.kind) ds

    abbrev body_names : List Name
    body_names = flat_map names_of_part (parts_of_command p.body)

    ports_out : Every Out port_names
    ports_out = every-front Out port_names (names_of (front ++ l ∷ back) ++ body_names) out

    rest_out : Every Out (names_of (front ++ l ∷ back) ++ body_names)
    rest_out = every-back Out port_names (names_of (front ++ l ∷ back) ++ body_names) out

    locals_out : Every Out (names_of (front ++ back))
    locals_out =
        let split = flat_map-append (λ (d : tree_local.Local). names_of_local d.kind) front (l ∷ back) in
        let all = subst (Every Out) split (every-front Out (names_of (front ++ l ∷ back)) body_names rest_out) in
        let behind_front = every-back Out (names_of front) (names_of (l ∷ back)) all in
        subst (Every Out) (sym (flat_map-append (λ (d : tree_local.Local). names_of_local d.kind) front back))
        (every-append Out (names_of front) (names_of back) (every-front Out (names_of front) (names_of (l ∷ back)) all)
        (every-back Out (names_of_local l.kind) (names_of back) behind_front))

    body_out : Every Out body_names
    body_out = every-back Out (names_of (front ++ l ∷ back)) body_names rest_out

    abbrev inside : Scope
    inside = record { names = s3.names; procedures = scope.procedures }

    abbrev inside' : Scope
    inside' = record { names = t3.names; procedures = scope.procedures }

    abbrev KeptHere : Name → Type 0
    KeptHere = Kept (locals_anew (length s1.made) (length l.names)) inside inside'

    abbrev KeptPartHere : Part → Type 0
    KeptPartHere = KeptPart (locals_anew (length s1.made) (length l.names)) inside inside'

    name_stays : (n : Name) → Out n → KeptHere n
    name_stays n stays m is =
        let h = fewer.names.kept n m stays is in
        (h.0, remains_fine (length s1.made) (length l.names) gone inside inside' refl m h.1)

    part_stays : (q : Part) → Every Out (names_of_part q) → KeptPartHere q
    part_stays (named n) stays = name_stays n stays.0
    part_stays (valued e) stays = every-weaker Out KeptHere name_stays (names_of_expression e) stays

    parts_stay : (ps : List Part) → Every Out (flat_map names_of_part ps) → Every KeptPartHere ps
    parts_stay [] stays = tt
    parts_stay (q ∷ ps) stays = (
      part_stays q (every-front Out (names_of_part q) (flat_map names_of_part ps) stays),
      parts_stay ps (every-back Out (names_of_part q) (flat_map names_of_part ps) stays),
    )

    names_less : (scope_inside every scope less).names ≡ t3.names
    names_less = ap (λ (s : Declared every Local). s.names) is_less

    less_right : (q : Procedure) × (judged_procedure every scope less ≡ Ok q)
    less_right =
        let s = sound scope whole once j.declarations in
        let command : judged_command every p.body inside [] ≡ Ok j.body =
        ap (λ (z : VisibleNames). judged_command every p.body (record { names = z; procedures = scope.procedures }) []) (sym inner_is) ∙ j.command in
        let body = ok_stays (judged_command every p.body inside []) (judged_command every p.body inside' []) j.body command
        (command_stays (locals_anew (length s1.made) (length l.names))
        inside inside' p.body [] tt (parts_stay (parts_of_command p.body) body_out)) in
        let port_kinds = subst (λ (z : VisibleNames). Every (λ (d : tree_port.Port). port_type z d.kind ≡ Ok tt) p.ports) inner_is s.ports in
        let ports_ok = ports_right gone s3.names t3.names names_kept p.ports ports_out port_kinds in
        let locals_ok = locals_right gone s3.names t3.names names_kept (front ++ back) locals_out (every-append IsRightKind front back kinds_front kinds_back) in
        let declarations = right_by scope less s.fresh s.ports_right (ap (λ (d : Declared every Local). d.right) is_less ∙ fewer.right)
        (ap (λ (z : VisibleNames). port_types every z p.ports) names_less ∙ ports_ok)
        (ap (λ (z : VisibleNames). local_types every z (front ++ back)) names_less ∙ locals_ok) in (
          record { name = p.name.name; ports = (ports_of every scope.names less).made; locals = (locals_of every scope.names less).made; body = body.0 },
          judged_by scope less body.0 declarations
              (ap (λ (z : VisibleNames). judged_command every p.body (record { names = z; procedures = scope.procedures }) []) names_less ∙ body.1),
        )

-- ---- the whole

locals_left_out_at : (scope : Scope) (done : Findings every (List Procedure)) (done' : List Procedure) (before : List tree_procedure.Procedure) (p : tree_procedure.Procedure)
    (later : List tree_procedure.Procedure) (front : List tree_local.Local) (l : tree_local.Local) (back : List tree_local.Local) (qs : List Procedure)
    → Once scope.names → Mean IsOuter scope.names
    → Every (λ n. In n (map (λ (z : Identifier). z.name) l.names) → ⊥) (names_used (record p { locals = front ++ l ∷ back }))
    → with_procedures every scope done (before ++ record p { locals = front ++ l ∷ back } ∷ later) ≡ Ok qs
    → (rs : List Procedure) × (with_procedures every scope (Ok done') (before ++ record p { locals = front ++ back } ∷ later) ≡ Ok rs)
locals_left_out_at scope done done' [] p later front l back qs once outer out e =
    let q : tree_procedure.Procedure = record p { locals = front ++ l ∷ back } in
    let q' : tree_procedure.Procedure = record p { locals = front ++ back } in
    let h = less_right scope once outer p front l back (next_judged scope done q later qs e) out in
    let rest = again (after_procedure every scope q) (with_next every done (judged_procedure every scope q)) (done' ++ h.0 ∷ []) later qs e in
    (rest.0, ap (λ z. with_procedures every (after_procedure every scope q') (with_next every (Ok done') z) later) h.1 ∙ rest.1)
locals_left_out_at scope done done' (b ∷ bs) p later front l back qs once outer out e =
    let q : tree_procedure.Procedure = record p { locals = front ++ l ∷ back } in
    let right = next_right scope done b (bs ++ q ∷ later) qs e in
    let fresh = (sound scope b once (next_judged scope done b (bs ++ q ∷ later) qs e).declarations).fresh in
    let m = meaning.Procedure (length scope.procedures) in
    let rest = locals_left_out_at (after_procedure every scope b) (with_next every done (judged_procedure every scope b)) (done' ++ right.0 ∷ []) bs p later front l back qs
    ((ties-name scope.names b.name.name m fresh).once once) (mean_declared IsOuter scope.names b.name.name m outer tt) out e in
    (rest.0, ap (λ z. with_procedures every (after_procedure every scope b) (with_next every (Ok done') z) (bs ++ record p { locals = front ++ back } ∷ later)) right.1 ∙ rest.1)

pub locals_left_out : LocalsMayBeLeftOut
unfolding found_description judged_description
locals_left_out types before p later front l back (qs, e) apart =
    let s0 : SoFar every = record { names = []; right = Ok tt } in
    let s = with_types every s0 types in
    let q : tree_procedure.Procedure = record p { locals = front ++ l ∷ back } in
    let h = both-ok (λ p. p.1) s.right (with_procedures every (record { names = s.names; procedures = [] }) (Ok []) (before ++ q ∷ later)) qs e in
    let once : Once s.names = (types_tie s0 types h.2).1.once once-none in
    let stays = locals_left_out_at (record { names = s.names; procedures = [] }) (Ok []) [] before p later front l back h.1 once (types_mean IsOuter (λ w. tt) (λ v. tt) s0 types (λ n m is. none_found n m is))
    (unused (map (λ (z : Identifier). z.name) l.names) (names_used q) apart) h.3 in (
      stays.0,
      described_by s.right
          (with_procedures every (record { names = s.names; procedures = [] }) (Ok []) (before ++ record p { locals = front ++ back } ∷ later)) stays.0 h.2 stays.1,
    )
