-- An accepted description without a declaration of ports that are not used is accepted.
use Rattle.std.proofs.Common.{◌≡◌, ℕ, ◌+◌, ◌<◌, ◌≤◌, inl, inr, List, [], ◌∷◌, ◌++◌, length, map, flat_map, true, false, Bool, Some, None, is_some, nat_eq, slice_get, if◌then◌else◌, Ok, refl, ap, sym, subst, ◌∙◌, length-append, arith}
use Rattle.std.proofs.lemmas.List.Concat.{flat_map-append}
use Rattle.std.specs.Option.{option_or}
use Rattle.std.specs.Cmp.Lexicographic.{pointwise, bytes_decides}
use Rattle.types.specs.Commands.{Scope, judged_command}
use Rattle.types.specs.Declarations.{local_kind, port_kind, one_port, one_local, local_type, port_type, SoFar, with_types, Declared, with_one, with_ports, with_locals, all_ports, all_locals, behind, port_types, local_types, ports_of, locals_of, scope_inside, judged_procedure, after_procedure, with_procedures, judged_description, found_description}
use Rattle.types.specs.Findings.{Findings, with_next, one_fault, every}
use Rattle.types.specs.LeavingOut.{PortsMayBeLeftOut}
use Rattle.types.specs.Names.{VisibleNames, look_up, declared, is_fresh, port_meaning, local_meaning}
use Rattle.types.specs.Parts.{Name, Part, named, valued, names_of_part, names_of_expression, names_of_port, names_of_local, names_used, parts_of_command}
use Rattle.types.specs.declared.scope.Meaning.{Meaning}
use Rattle.types.specs.declared.scope.Meaning.TheVariants as meaning
use Rattle.types.specs.declared.tree.Local.{Local}
use Rattle.types.specs.declared.tree.LocalKind.{LocalKind}
use Rattle.types.specs.declared.tree.LocalKind.TheVariants as local
use Rattle.types.specs.declared.tree.Port.{Port}
use Rattle.types.specs.declared.tree.PortKind.{PortKind}
use Rattle.types.specs.declared.tree.PortKind.TheVariants as port
use Rattle.types.specs.declared.tree.Procedure.{Procedure}
use Rattle.syntax.specs.Lists.{In, Every}
use Rattle.syntax.specs.declared.declaration.Local as tree_local
use Rattle.syntax.specs.declared.declaration.Port as tree_port
use Rattle.syntax.specs.declared.declaration.Procedure as tree_procedure
use Rattle.syntax.specs.declared.name.Identifier.{Identifier}
use Rattle.types.proofs.DeclaredOnce.{both-ok, and-ok, fresh-ok, Inner, inner-twice, all_ports_inner, all_locals_inner, locals_inner, types_tie, locals_tie, ports_tie, ports_inner, sound, Judged, next_right, next_judged, ties-name}
use Rattle.types.proofs.Behind.{lower, lower_low, lower_high, Remote, lower_apart, Mean, mean_declared, types_mean, port_alike, local_alike, all_ports-append}
use Rattle.types.proofs.LeavingOut.{Follows, follows-declared, follows-left, Renumbered, Good, good_more, after_follows, procedures_stay, types_follow, unused, within, all_ports_right, all_locals_right, ports_right, locals_right, ok_stays, right_by, judged_by, described_by}
use Rattle.types.proofs.Lookups.{Once, once-none, none_found, look_up-append, every-append, every-front, every-back, every-weaker}
use Rattle.types.proofs.Staying.{Renumbering, renamed, Remains, Kept, KeptPart, command_stays}

-- ports have other numbers where these are left out; locals and procedures keep theirs
abbrev ports_anew : ℕ → ℕ → Renumbering
ports_anew r k = record {
  port = lower r k;
  local = λ l. l;
  procedure = λ p. p;
  KeepsPort = Remote r k;
  KeepsLocal = λ _. Unit {0};
  ports_apart = lower_apart r k;
  locals_apart = λ a b x y. refl;
}

-- ---- what all names mean

-- what is declared outside of procedures
abbrev IsOuter : Meaning → Type 0
IsOuter (meaning.TypeName w) = Unit {0}
IsOuter (meaning.Element v) = Unit {0}
IsOuter (meaning.Procedure p) = Unit {0}
IsOuter _ = ⊥

-- that, or a port below this number
abbrev IsBelow : ℕ → Meaning → Type 0
IsBelow r (meaning.TypeName w) = Unit {0}
IsBelow r (meaning.Element v) = Unit {0}
IsBelow r (meaning.Procedure p) = Unit {0}
IsBelow r (meaning.Input p w) = p < r
IsBelow r (meaning.Output p w) = p < r
IsBelow r (meaning.SyncPort p) = p < r
IsBelow r _ = ⊥

below_more : (r : ℕ) (m : Meaning) → IsBelow r m → IsBelow (r + 1) m
below_more r (meaning.Input p w) h = omega (arith, h)
below_more r (meaning.Output p w) h = omega (arith, h)
below_more r (meaning.SyncPort p) h = omega (arith, h)
below_more r (meaning.TypeName w) h = tt
below_more r (meaning.Element v) h = tt
below_more r (meaning.Procedure p) h = tt
below_more r (meaning.Variable l w) h = absurd h
below_more r (meaning.Channel l w) h = absurd h
below_more r (meaning.Sync l) h = absurd h

outer_below : (r : ℕ) (m : Meaning) → IsOuter m → IsBelow r m
outer_below r (meaning.TypeName w) h = tt
outer_below r (meaning.Element v) h = tt
outer_below r (meaning.Procedure p) h = tt
outer_below r (meaning.Input p w) h = absurd h
outer_below r (meaning.Output p w) h = absurd h
outer_below r (meaning.SyncPort p) h = absurd h
outer_below r (meaning.Variable l w) h = absurd h
outer_below r (meaning.Channel l w) h = absurd h
outer_below r (meaning.Sync l) h = absurd h

port_below : (p : ℕ) (kind : PortKind) → IsBelow (p + 1) (port_meaning p kind)
port_below p (port.Input w) = omega arith
port_below p (port.Output w) = omega arith
port_below p port.Sync = omega arith

ports_below : (kind : PortKind) (s : Declared every Port) (names : List Identifier) → Mean (IsBelow (length s.made)) s.names
    → Mean (IsBelow (length (with_ports every kind s names).made)) (with_ports every kind s names).names
ports_below kind s [] all = all
ports_below kind s (n ∷ rest) all =
    let m = port_meaning (length s.made) kind in
    let one = one_port kind n in
    let grown : length s.made + 1 ≡ length (s.made ++ one ∷ []) = sym (length-append s.made (one ∷ [])) in
    ports_below kind (with_one every s n m one) rest
    (subst (λ z. Mean (IsBelow z) (declared s.names n.name m)) grown
    (mean_declared (IsBelow (length s.made + 1)) s.names n.name m (λ x k is. below_more (length s.made) k (all x k is)) (port_below (length s.made) kind)))

all_ports_below : (s : Declared every Port) (ds : List tree_port.Port) → Mean (IsBelow (length s.made)) s.names
    → Mean (IsBelow (length (all_ports every s ds).made)) (all_ports every s ds).names
all_ports_below s [] all = all
all_ports_below s (d ∷ rest) all =
    all_ports_below (with_ports every (port_kind s.names d.kind) s d.names) rest (ports_below (port_kind s.names d.kind) s d.names all)

-- ---- ports and locals behind fewer ports

module _ (r k : ℕ) (left : List Name) where
  abbrev New : Meaning → Meaning
  New = renamed (ports_anew r k)

  abbrev Fine : Meaning → Type 0
  Fine (meaning.Input p w) = Remote r k p
  Fine (meaning.Output p w) = Remote r k p
  Fine (meaning.SyncPort p) = Remote r k p
  Fine _ = Unit {0}

  abbrev Fewer : VisibleNames → VisibleNames → Type 0
  Fewer old new = Follows New Fine left old new

  below_same : (m : Meaning) → IsBelow r m → (New m ≡ m) × Fine m
  below_same (meaning.Input p w) h = (ap (λ x. meaning.Input x w) (lower_low r k p h), inl h)
  below_same (meaning.Output p w) h = (ap (λ x. meaning.Output x w) (lower_low r k p h), inl h)
  below_same (meaning.SyncPort p) h = (ap (λ x. meaning.SyncPort x) (lower_low r k p h), inl h)
  below_same (meaning.TypeName w) h = (refl, tt)
  below_same (meaning.Element v) h = (refl, tt)
  below_same (meaning.Procedure p) h = (refl, tt)
  below_same (meaning.Variable l w) h = absurd h
  below_same (meaning.Channel l w) h = absurd h
  below_same (meaning.Sync l) h = absurd h

  fewer_same : (es : VisibleNames) → Mean (IsBelow r) es → Fewer es es
  fewer_same es all = record {
    kept = λ n m out is. let h = below_same m (all n m is) in (is ∙ ap (λ z. Some z) (sym h.0), h.1);
    free = λ n is. is;
  }

  -- the ports that are left out
  ports_gone : (kind : PortKind) (s : Declared every Port) (new : VisibleNames) (names : List Identifier) → Every (λ (x : Identifier). In x.name left) names
      → (with_ports every kind s names).right ≡ Ok tt → Fewer s.names new
      → Fewer (with_ports every kind s names).names new × (length (with_ports every kind s names).made ≡ length s.made + length names)
  ports_gone kind s new [] out e f = (f, omega arith)
  ports_gone kind s new (n ∷ rest) out e f =
      let m = port_meaning (length s.made) kind in
      let next = with_one every s n m (one_port kind n) in
      let next_ok = (ports_tie kind next rest e).0 in
      let h = and-ok s.right (one_fault (is_fresh s.names n.name n.span.start)) next_ok in
      let gone = ports_gone kind next new rest out.1 e (follows-left New Fine left s.names new n.name m f out.0 (fresh-ok s.names n.name n.span.start h.1)) in
      (gone.0, gone.1 ∙ omega (arith, length-append s.made (one_port kind n ∷ [])))

  -- those behind them
  record Behind (s t : Declared every Port) : Type 0 where
    names : Fewer s.names t.names
    right : t.right ≡ Ok tt
    count : length s.made ≡ length t.made + k
    enough : r ≤ length t.made

  number_new : (a b : ℕ) → a ≡ b + k → r ≤ b → lower r k a ≡ b
  number_new a b count enough = lower_high r k a (omega (arith, count, enough)) ∙ omega (arith, count)

  port_new : (a b : ℕ) (kind : PortKind) → a ≡ b + k → r ≤ b → (New (port_meaning a kind) ≡ port_meaning b kind) × Fine (port_meaning a kind)
  port_new a b (port.Input w) count enough = (ap (λ x. meaning.Input x w) (number_new a b count enough), inr (omega (arith, count, enough)))
  port_new a b (port.Output w) count enough = (ap (λ x. meaning.Output x w) (number_new a b count enough), inr (omega (arith, count, enough)))
  port_new a b port.Sync count enough = (ap (λ x. meaning.SyncPort x) (number_new a b count enough), inr (omega (arith, count, enough)))

  ports_behind : (kind : PortKind) (s t : Declared every Port) (names : List Identifier) → (with_ports every kind s names).right ≡ Ok tt → Behind s t
      → Behind (with_ports every kind s names) (with_ports every kind t names)
  ports_behind kind s t [] e b = b
  ports_behind kind s t (n ∷ rest) e b =
      let m = port_meaning (length s.made) kind in
      let m' = port_meaning (length t.made) kind in
      let one = one_port kind n in
      let next = with_one every s n m one in
      let h = and-ok s.right (one_fault (is_fresh s.names n.name n.span.start)) (ports_tie kind next rest e).0 in
      let fresh = fresh-ok s.names n.name n.span.start h.1 in
      let absent : look_up t.names n.name ≡ None = b.names.free n.name fresh in
      let new = port_new (length s.made) (length t.made) kind b.count b.enough in
      ports_behind kind next (with_one every t n m' one) rest e (record {
        names = subst (λ z. Fewer (declared s.names n.name m) (declared t.names n.name z)) new.0
            (follows-declared New Fine left s.names t.names n.name m b.names new.1 fresh);
        right = rw (b.right, absent) refl;
        count = omega (arith, length-append s.made (one ∷ []), length-append t.made (one ∷ []), b.count);
        enough = omega (arith, length-append t.made (one ∷ []), b.enough);
      })

  -- what is declared by locals, which keep their numbers
  record Beside (s t : Declared every Local) : Type 0 where
    names : Fewer s.names t.names
    right : t.right ≡ Ok tt
    made : length t.made ≡ length s.made

  local_same : (l : ℕ) (kind : LocalKind) → (New (local_meaning l kind) ≡ local_meaning l kind) × Fine (local_meaning l kind)
  local_same l (local.Variable w) = (refl, tt)
  local_same l (local.SharedVariable w) = (refl, tt)
  local_same l (local.Channel w) = (refl, tt)
  local_same l local.Sync = (refl, tt)

  locals_beside : (kind : LocalKind) (s t : Declared every Local) (names : List Identifier) → (with_locals every kind s names).right ≡ Ok tt → Beside s t
      → Beside (with_locals every kind s names) (with_locals every kind t names)
  locals_beside kind s t [] e b = b
  locals_beside kind s t (n ∷ rest) e b =
      let m = local_meaning (length s.made) kind in
      let m' = local_meaning (length t.made) kind in
      let one = one_local kind n in
      let next = with_one every s n m one in
      let h = and-ok s.right (one_fault (is_fresh s.names n.name n.span.start)) (locals_tie kind next rest e).0 in
      let fresh = fresh-ok s.names n.name n.span.start h.1 in
      let absent : look_up t.names n.name ≡ None = b.names.free n.name fresh in
      let same = local_same (length s.made) kind in
      locals_beside kind next (with_one every t n m' one) rest e (record {
        names = subst (λ z. Fewer (declared s.names n.name m) (declared t.names n.name z)) (same.0 ∙ ap (λ l. local_meaning l kind) (sym b.made))
            (follows-declared New Fine left s.names t.names n.name m b.names same.1 fresh);
        right = rw (b.right, absent) refl;
        made = length-append t.made (one ∷ []) ∙ ap (λ l. l + 1) b.made ∙ sym (length-append s.made (one ∷ []));
      })

  module _ (outer inner : VisibleNames) (between : Inner outer inner) where
    all_ports_behind : (s t : Declared every Port) (ds : List tree_port.Port) → Inner outer s.names → Inner outer t.names
        → Every (λ (d : tree_port.Port). port_type inner d.kind ≡ Ok tt) ds → (all_ports every s ds).right ≡ Ok tt → Behind s t
        → Behind (all_ports every s ds) (all_ports every t ds)
    all_ports_behind s t [] front front' right e b = b
    all_ports_behind s t (d ∷ rest) front front' right e b =
        let kind = port_kind s.names d.kind in
        let kind' = port_kind t.names d.kind in
        let next = with_ports every kind s d.names in
        let one : Behind next (with_ports every kind' t d.names) =
        subst (λ z. Behind next (with_ports every z t d.names)) (sym (port_alike outer inner between s.names t.names front front' d.kind right.0))
        (ports_behind kind s t d.names (all_ports_right next rest e) b) in
        all_ports_behind next (with_ports every kind' t d.names) rest
        (inner-twice outer s.names next.names front (ports_inner kind s d.names))
        (inner-twice outer t.names (with_ports every kind' t d.names).names front' (ports_inner kind' t d.names)) right.1 e one

    all_locals_beside : (s t : Declared every Local) (ds : List tree_local.Local) → Inner outer s.names → Inner outer t.names
        → Every (λ (d : tree_local.Local). local_type inner d.kind ≡ Ok tt) ds → (all_locals every s ds).right ≡ Ok tt → Beside s t
        → Beside (all_locals every s ds) (all_locals every t ds)
    all_locals_beside s t [] front front' right e b = b
    all_locals_beside s t (d ∷ rest) front front' right e b =
        let kind = local_kind s.names d.kind in
        let kind' = local_kind t.names d.kind in
        let next = with_locals every kind s d.names in
        let one : Beside next (with_locals every kind' t d.names) =
        subst (λ z. Beside next (with_locals every z t d.names)) (sym (local_alike outer inner between s.names t.names front front' d.kind right.0))
        (locals_beside kind s t d.names (all_locals_right next rest e) b) in
        all_locals_beside next (with_locals every kind' t d.names) rest
        (inner-twice outer s.names next.names front (locals_inner kind s d.names))
        (inner-twice outer t.names (with_locals every kind' t d.names).names front' (locals_inner kind' t d.names)) right.1 e one

-- ---- the procedure

remains_fine : (r k : ℕ) (left : List Name) (old new : Scope) → new.procedures ≡ old.procedures → (m : Meaning) → Fine r k left m → Remains (ports_anew r k) old new m
remains_fine r k left old new same (meaning.Procedure p) fine = ap (λ ps. slice_get ps p) same
remains_fine r k left old new same (meaning.Input p w) fine = fine
remains_fine r k left old new same (meaning.Output p w) fine = fine
remains_fine r k left old new same (meaning.SyncPort p) fine = fine
remains_fine r k left old new same (meaning.Channel l w) fine = tt
remains_fine r k left old new same (meaning.Sync l) fine = tt
remains_fine r k left old new same (meaning.TypeName w) fine = tt
remains_fine r k left old new same (meaning.Element v) fine = tt
remains_fine r k left old new same (meaning.Variable l w) fine = tt

module _ (scope : Scope) (once : Once scope.names) (outer : Mean IsOuter scope.names) (p : tree_procedure.Procedure)
    (front : List tree_port.Port) (l : tree_port.Port) (back : List tree_port.Port) where
  abbrev whole : tree_procedure.Procedure
  whole = record p { ports = front ++ l ∷ back }

  abbrev less : tree_procedure.Procedure
  less = record p { ports = front ++ back }

  abbrev gone : List Name
  gone = map (λ (z : Identifier). z.name) l.names

  module _ (j : Judged scope whole) (out : Every (λ n. In n gone → ⊥) (names_used whole)) where
    abbrev s1 : Declared every Port
    s1 = all_ports every (behind every scope.names) front

    abbrev kind : PortKind
    kind = port_kind s1.names l.kind

    abbrev s2 : Declared every Port
    s2 = with_ports every kind s1 l.names

    abbrev s3 : Declared every Port
    s3 = all_ports every s2 back

    abbrev t3 : Declared every Port
    t3 = all_ports every s1 back

    -- the locals behind them
    abbrev s4 : Declared every Local
    s4 = all_locals every (behind every s3.names) p.locals

    abbrev t4 : Declared every Local
    t4 = all_locals every (behind every t3.names) p.locals

    is_whole : ports_of every scope.names whole ≡ s3
    is_whole = all_ports-append (behind every scope.names) front (l ∷ back)

    is_less : ports_of every scope.names less ≡ t3
    is_less = all_ports-append (behind every scope.names) front back

    locals_whole : locals_of every scope.names whole ≡ s4
    locals_whole = ap (λ (s : Declared every Port). all_locals every (behind every s.names) p.locals) is_whole

    locals_less : locals_of every scope.names less ≡ t4
    locals_less = ap (λ (s : Declared every Port). all_locals every (behind every s.names) p.locals) is_less

    right3 : s3.right ≡ Ok tt
    right3 = ap (λ (s : Declared every Port). s.right) (sym is_whole) ∙ (sound scope whole once j.declarations).ports_right

    right4 : s4.right ≡ Ok tt
    right4 = ap (λ (s : Declared every Local). s.right) (sym locals_whole) ∙ (sound scope whole once j.declarations).locals_right

    right2 : s2.right ≡ Ok tt
    right2 = all_ports_right s2 back right3

    right1 : s1.right ≡ Ok tt
    right1 = (ports_tie kind s1 l.names right2).0

    inner_is : (scope_inside every scope whole).names ≡ s4.names
    inner_is = ap (λ (s : Declared every Local). s.names) locals_whole

    to_front : Inner scope.names s1.names
    to_front = all_ports_inner (behind every scope.names) front

    to_gone : Inner scope.names s2.names
    to_gone = inner-twice scope.names s1.names s2.names to_front (ports_inner kind s1 l.names)

    to_ports : Inner scope.names s3.names
    to_ports = inner-twice scope.names s2.names s3.names to_gone (all_ports_inner s2 back)

    to_ports' : Inner scope.names t3.names
    to_ports' = inner-twice scope.names s1.names t3.names to_front (all_ports_inner s1 back)

    between : Inner scope.names s4.names
    between = inner-twice scope.names s3.names s4.names to_ports (all_locals_inner (behind every s3.names) p.locals)

    abbrev IsRightPort : tree_port.Port → Type 0
    IsRightPort d = port_type s4.names d.kind ≡ Ok tt

    abbrev IsRightLocal : tree_local.Local → Type 0
    IsRightLocal d = local_type s4.names d.kind ≡ Ok tt

    -- what the types of the ports and of the locals are in the whole
    kinds : Every IsRightPort (front ++ l ∷ back)
    kinds = subst (λ (z : VisibleNames). Every (λ (d : tree_port.Port). port_type z d.kind ≡ Ok tt) (front ++ l ∷ back)) inner_is
        (sound scope whole once j.declarations).ports

    local_kinds : Every IsRightLocal p.locals
    local_kinds = subst (λ (z : VisibleNames). Every (λ (d : tree_local.Local). local_type z d.kind ≡ Ok tt) p.locals) inner_is
        (sound scope whole once j.declarations).locals

    kinds_front : Every IsRightPort front
    kinds_front = every-front IsRightPort front (l ∷ back) kinds

    kinds_back : Every IsRightPort back
    kinds_back = (every-back IsRightPort front (l ∷ back) kinds).1

    fewer_ports : Behind (length s1.made) (length l.names) gone s3 t3
    fewer_ports =
        let r = length s1.made in
        let k = length l.names in
        let below = all_ports_below (behind every scope.names) front (λ n m is. outer_below 0 m (outer n m is)) in
        let without = ports_gone r k gone kind s1 s1.names l.names (within l.names) right2 (fewer_same r k gone s1.names below) in
        all_ports_behind r k gone scope.names s4.names between s2 s1 back to_gone to_front kinds_back right3
        (record { names = without.0; right = right1; count = without.1; enough = omega arith })

    fewer : Beside (length s1.made) (length l.names) gone s4 t4
    fewer =
        all_locals_beside (length s1.made) (length l.names) gone scope.names s4.names between (behind every s3.names) (behind every t3.names) p.locals to_ports to_ports'
        local_kinds right4 (record { names = fewer_ports.names; right = refl; made = refl })

    names_kept : (n : List ℕ) (w : ℕ) → (In n gone → ⊥) → look_up s4.names n ≡ Some (meaning.TypeName w) → look_up t4.names n ≡ Some (meaning.TypeName w)
    names_kept n w stays is = (fewer.names.kept n (meaning.TypeName w) stays is).0

    abbrev Out : Name → Type 0
    Out n = In n gone → ⊥

    abbrev names_of : List tree_port.Port → List Name
    names_of ds = flat_map (λ (d : tree_port.Port). names_of_port d.kind) ds

    abbrev local_names : List Name
    local_names = flat_map (λ (d : tree_local.Local). names_of_local d.kind) p.locals

    abbrev body_names : List Name
    body_names = flat_map names_of_part (parts_of_command p.body)

    ports_out : Every Out (names_of (front ++ back))
    ports_out =
        let split = flat_map-append (λ (d : tree_port.Port). names_of_port d.kind) front (l ∷ back) in
        let all = subst (Every Out) split (every-front Out (names_of (front ++ l ∷ back)) (local_names ++ body_names) out) in
        let behind_front = every-back Out (names_of front) (names_of (l ∷ back)) all in
        subst (Every Out) (sym (flat_map-append (λ (d : tree_port.Port). names_of_port d.kind) front back))
        (every-append Out (names_of front) (names_of back) (every-front Out (names_of front) (names_of (l ∷ back)) all)
        (every-back Out (names_of_port l.kind) (names_of back) behind_front))

    rest_out : Every Out (local_names ++ body_names)
    rest_out = every-back Out (names_of (front ++ l ∷ back)) (local_names ++ body_names) out

    locals_out : Every Out local_names
    locals_out = every-front Out local_names body_names rest_out

    body_out : Every Out body_names
    body_out = every-back Out local_names body_names rest_out

    abbrev inside : Scope
    inside = record { names = s4.names; procedures = scope.procedures }

    abbrev inside' : Scope
    inside' = record { names = t4.names; procedures = scope.procedures }

    abbrev KeptHere : Name → Type 0
    KeptHere = Kept (ports_anew (length s1.made) (length l.names)) inside inside'

    abbrev KeptPartHere : Part → Type 0
    KeptPartHere = KeptPart (ports_anew (length s1.made) (length l.names)) inside inside'

    name_stays : (n : Name) → Out n → KeptHere n
    name_stays n stays m is =
        let h = fewer.names.kept n m stays is in
        (h.0, remains_fine (length s1.made) (length l.names) gone inside inside' refl m h.1)

    part_stays : (q : Part) → Every Out (names_of_part q) → KeptPartHere q
    part_stays (named n) stays = name_stays n stays.0
    part_stays (valued e) stays = every-weaker Out KeptHere name_stays (names_of_expression e) stays

    parts_stay : (ps : List Part) → Every Out (flat_map names_of_part ps) → Every KeptPartHere ps
    parts_stay [] stays = tt
    parts_stay (q ∷ ps) stays = (
      part_stays q (every-front Out (names_of_part q) (flat_map names_of_part ps) stays),
      parts_stay ps (every-back Out (names_of_part q) (flat_map names_of_part ps) stays),
    )

    names_less : (scope_inside every scope less).names ≡ t4.names
    names_less = ap (λ (s : Declared every Local). s.names) locals_less

    less_right : (q : Procedure) × (judged_procedure every scope less ≡ Ok q)
    less_right =
        let s = sound scope whole once j.declarations in
        let command : judged_command every p.body inside [] ≡ Ok j.body =
        ap (λ (z : VisibleNames). judged_command every p.body (record { names = z; procedures = scope.procedures }) []) (sym inner_is) ∙ j.command in
        let body = ok_stays (judged_command every p.body inside []) (judged_command every p.body inside' []) j.body command
        (command_stays (ports_anew (length s1.made) (length l.names)) inside inside' p.body [] tt (parts_stay (parts_of_command p.body) body_out)) in
        let ports_ok = ports_right gone s4.names t4.names names_kept (front ++ back) ports_out (every-append IsRightPort front back kinds_front kinds_back) in
        let locals_ok = locals_right gone s4.names t4.names names_kept p.locals locals_out local_kinds in
        let declarations = right_by scope less s.fresh (ap (λ (d : Declared every Port). d.right) is_less ∙ fewer_ports.right)
        (ap (λ (d : Declared every Local). d.right) locals_less ∙ fewer.right)
        (ap (λ (z : VisibleNames). port_types every z (front ++ back)) names_less ∙ ports_ok)
        (ap (λ (z : VisibleNames). local_types every z p.locals) names_less ∙ locals_ok) in (
          record { name = p.name.name; ports = (ports_of every scope.names less).made; locals = (locals_of every scope.names less).made; body = body.0 },
          judged_by scope less body.0 declarations
              (ap (λ (z : VisibleNames). judged_command every p.body (record { names = z; procedures = scope.procedures }) []) names_less ∙ body.1),
        )

-- ---- the procedures behind it

-- one more name, in the second alone, which the first has
follows-extra : (rename : Meaning → Meaning) (Good : Meaning → Type 0) (left : List Name) (old new : VisibleNames) (x : Name) (m k : Meaning)
    → Follows rename Good left old new → look_up old x ≡ Some k → Follows rename Good left old (declared new x m)
follows-extra rename Good left old new x m k f has =
    elim (is_some (look_up new x)) as (λ b. Follows rename Good left old (if b then new else new ++ (x, m) ∷ [])) [
      | true ↦ f
      | false ↦ record { kept = kept; free = free }
    ]
  where
    kept : (n : Name) (j : Meaning) → (In n left → ⊥) → look_up old n ≡ Some j → (look_up (new ++ (x, m) ∷ []) n ≡ Some (rename j)) × Good j
    kept n j out is =
        let h = f.kept n j out is in
        (look_up-append new ((x, m) ∷ []) n ∙ ap (λ o. option_or o (look_up ((x, m) ∷ []) n)) h.0, h.1)

    other : (n : Name) → look_up old n ≡ None → (b : Bool) → pointwise nat_eq n x ≡ b → (if b then Some m else None) ≡ None
    other n is true same = let h : Some k ≡ None = sym has ∙ ap (look_up old) (sym ((bytes_decides n x).0 same)) ∙ is in absurd cc
    other n is false differs = refl

    free : (n : Name) → look_up old n ≡ None → look_up (new ++ (x, m) ∷ []) n ≡ None
    free n is =
        look_up-append new ((x, m) ∷ []) n ∙ ap (λ o. option_or o (look_up ((x, m) ∷ []) n)) (f.free n is)
        ∙ other n is (pointwise nat_eq n x) refl

-- a name that is declared last is found
last_found : (es : VisibleNames) (x : Name) (m : Meaning) → look_up es x ≡ None → look_up (declared es x m) x ≡ Some m
last_found es x m fresh =
    let is : declared es x m ≡ es ++ (x, m) ∷ [] = rw fresh refl in
    let same : pointwise nat_eq x x ≡ true = (bytes_decides x x).1 refl in
    let own : look_up ((x, m) ∷ []) x ≡ Some m = rw same refl in
    ap (λ z. look_up z x) is ∙ look_up-append es ((x, m) ∷ []) x ∙ ap (λ o. option_or o (look_up ((x, m) ∷ []) x)) fresh ∙ own

module _ (left : List Name) where
  abbrev number : ℕ → ℕ
  number p = p

  -- each visible procedure has the same ports in both lists, but for those of these names
  abbrev Alike : List (List PortKind) → List (List PortKind) → VisibleNames → VisibleNames → Type 0
  Alike os ns old new = Follows (Renumbered number left) (Good number left os ns) left old new

  -- behind a procedure of this name with other ports
  behind_it : (s : Scope) → Alike s.procedures s.procedures s.names s.names → (x : Name) → In x left → look_up s.names x ≡ None → (a b : List PortKind)
      → Alike (s.procedures ++ a ∷ []) (s.procedures ++ b ∷ []) (declared s.names x (meaning.Procedure (length s.procedures)))
      (declared s.names x (meaning.Procedure (length s.procedures)))
  behind_it s f x out fresh a b =
      let m = meaning.Procedure (length s.procedures) in
      let os = s.procedures ++ a ∷ [] in
      let ns = s.procedures ++ b ∷ [] in
      let g : Alike os ns s.names s.names = record {
        kept = λ n k stays is. let h = f.kept n k stays is in (h.0, good_more number left s.procedures s.procedures (a ∷ []) (b ∷ []) k h.1);
        free = f.free;
      } in
      follows-extra (Renumbered number left) (Good number left os ns) left (declared s.names x m) s.names x m m
      (follows-left (Renumbered number left) (Good number left os ns) left s.names s.names x m g out fresh) (last_found s.names x m fresh)

ports_left_out_at : (scope : Scope) (done : Findings every (List Procedure)) (done' : List Procedure) (before : List tree_procedure.Procedure) (p : tree_procedure.Procedure)
    (later : List tree_procedure.Procedure) (front : List tree_port.Port) (l : tree_port.Port) (back : List tree_port.Port) (qs : List Procedure)
    → Once scope.names → Mean IsOuter scope.names → Alike (p.name.name ∷ []) scope.procedures scope.procedures scope.names scope.names
    → Every (λ n. In n (map (λ (z : Identifier). z.name) l.names) → ⊥) (names_used (record p { ports = front ++ l ∷ back }))
    → Every (λ n. In n (p.name.name ∷ []) → ⊥) (flat_map names_used later)
    → with_procedures every scope done (before ++ record p { ports = front ++ l ∷ back } ∷ later) ≡ Ok qs
    → (rs : List Procedure) × (with_procedures every scope (Ok done') (before ++ record p { ports = front ++ back } ∷ later) ≡ Ok rs)
ports_left_out_at scope done done' [] p later front l back qs once outer f out uncalled e =
    let left = p.name.name ∷ [] in
    let q : tree_procedure.Procedure = record p { ports = front ++ l ∷ back } in
    let q' : tree_procedure.Procedure = record p { ports = front ++ back } in
    let j = next_judged scope done q later qs e in
    let h = less_right scope once outer p front l back j out in
    let fresh = (sound scope q once j.declarations).fresh in
    let m = meaning.Procedure (length scope.procedures) in
    let a = map (λ (z : Port). z.kind) (ports_of every scope.names q).made in
    let b = map (λ (z : Port). z.kind) (ports_of every scope.names q').made in
    let rest = procedures_stay (λ n. n) left (after_procedure every scope q) (after_procedure every scope q') (behind_it left scope f p.name.name (inl refl) fresh a b)
    (λ i. omega (arith, length-append scope.procedures (a ∷ []), length-append scope.procedures (b ∷ [])))
    ((ties-name scope.names p.name.name m fresh).once once) (with_next every done (judged_procedure every scope q)) (done' ++ h.0 ∷ []) later qs uncalled e in
    (rest.0, ap (λ z. with_procedures every (after_procedure every scope q') (with_next every (Ok done') z) later) h.1 ∙ rest.1)
ports_left_out_at scope done done' (b ∷ bs) p later front l back qs once outer f out uncalled e =
    let left = p.name.name ∷ [] in
    let q : tree_procedure.Procedure = record p { ports = front ++ l ∷ back } in
    let right = next_right scope done b (bs ++ q ∷ later) qs e in
    let fresh = (sound scope b once (next_judged scope done b (bs ++ q ∷ later) qs e).declarations).fresh in
    let m = meaning.Procedure (length scope.procedures) in
    let rest = ports_left_out_at (after_procedure every scope b) (with_next every done (judged_procedure every scope b)) (done' ++ right.0 ∷ []) bs p later front l back qs
    ((ties-name scope.names b.name.name m fresh).once once) (mean_declared IsOuter scope.names b.name.name m outer tt)
    (after_follows (λ n. n) left scope scope f refl b fresh refl) out uncalled e in
    (rest.0, ap (λ z. with_procedures every (after_procedure every scope b) (with_next every (Ok done') z) (bs ++ record p { ports = front ++ back } ∷ later)) right.1 ∙ rest.1)

pub ports_left_out : PortsMayBeLeftOut
unfolding found_description judged_description
ports_left_out types before p later front l back (qs, e) apart uncalled =
    let left = p.name.name ∷ [] in
    let s0 : SoFar every = record { names = []; right = Ok tt } in
    let s = with_types every s0 types in
    let q : tree_procedure.Procedure = record p { ports = front ++ l ∷ back } in
    let h = both-ok (λ p. p.1) s.right (with_procedures every (record { names = s.names; procedures = [] }) (Ok []) (before ++ q ∷ later)) qs e in
    let once : Once s.names = (types_tie s0 types h.2).1.once once-none in
    let f = types_follow (λ n. n) left s0 s0 types h.2 (record { kept = λ n m out is. none_found n m is; free = λ n is. is }, refl) in
    let stays = ports_left_out_at (record { names = s.names; procedures = [] }) (Ok []) [] before p later front l back h.1 once
    (types_mean IsOuter (λ w. tt) (λ v. tt) s0 types (λ n m is. none_found n m is)) f.0
    (unused (map (λ (z : Identifier). z.name) l.names) (names_used q) apart) (unused left (flat_map names_used later) uncalled) h.3 in (
      stays.0,
      described_by s.right
          (with_procedures every (record { names = s.names; procedures = [] }) (Ok []) (before ++ record p { ports = front ++ back } ∷ later)) stays.0 h.2 stays.1,
    )
