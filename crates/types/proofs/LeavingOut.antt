-- An accepted description without a type or a procedure that is not used is accepted.
use Rattle.std.proofs.Common.{◌≡◌, ℕ, suc, zero, ◌+◌, ◌-◌, ◌<◌, ◌≤◌, ◌⊎◌, inl, inr, List, [], ◌∷◌, ◌++◌, length, map, flat_map, true, false, Bool, Option, Some, None, is_some, nat_eq, nat_lt, slice_get, if◌then◌else◌, Result, Ok, Err, refl, ap, ap₂, sym, subst, ◌∙◌, append_assoc, append-nil, length-append, le-ltb, lt-ltb, arith}
use Rattle.std.specs.Option.{option_or}
use Rattle.std.specs.Cmp.Lexicographic.{pointwise, bytes_decides}
use Rattle.types.specs.Commands.{Scope, judged_command}
use Rattle.types.specs.Declarations.{demanded, width_or_one, enumeration_width, type_width_or_one, port_kind, local_kind, one_port, one_local, port_type, local_type, SoFar, with_name, with_elements, with_definition, with_types, Declared, with_one, with_ports, with_locals, all_ports, all_locals, behind, port_types, local_types, ports_of, locals_of, scope_inside, types_right, declarations_right, judged_procedure, after_procedure, with_procedures, types_of, judged_description, found_description}
use Rattle.types.specs.Expressions.{declared_width, type_width}
use Rattle.types.specs.Findings.{Verdict, Findings, becomes, both, and, with_next, and_all, demands, one_fault, every}
use Rattle.types.specs.Laws.{IsAccepted, Apart, elements_of, declared_by, TypesMayBeLeftOut, ProceduresMayBeLeftOut}
use Rattle.types.specs.Names.{VisibleNames, look_up, find, declared, is_fresh, port_meaning, local_meaning}
use Rattle.types.specs.Parts.{Name, Part, named, valued, names_of_type, names_of_part, names_of_expression, names_of_port, names_of_local, names_used, parts_of_command}
use Rattle.types.specs.declared.scope.Meaning.{Meaning}
use Rattle.types.specs.declared.scope.Meaning.TheVariants as meaning
use Rattle.types.specs.declared.tree.Binding.{Binding}
use Rattle.types.specs.declared.tree.Command as typed_command
use Rattle.types.specs.declared.tree.Local.{Local}
use Rattle.types.specs.declared.tree.LocalKind.{LocalKind}
use Rattle.types.specs.declared.tree.LocalKind.TheVariants as local
use Rattle.types.specs.declared.tree.Port.{Port}
use Rattle.types.specs.declared.tree.PortKind.{PortKind}
use Rattle.types.specs.declared.tree.PortKind.TheVariants as port
use Rattle.types.specs.declared.tree.Procedure.{Procedure}
use Rattle.syntax.specs.Lists.{In, Every}
use Rattle.syntax.specs.declared.declaration.Description.{Description}
use Rattle.syntax.specs.declared.declaration.Local as tree_local
use Rattle.syntax.specs.declared.declaration.LocalKind as tree_local_kind
use Rattle.syntax.specs.declared.declaration.LocalKind.TheVariants as local_of
use Rattle.syntax.specs.declared.declaration.Port as tree_port
use Rattle.syntax.specs.declared.declaration.PortKind as tree_port_kind
use Rattle.syntax.specs.declared.declaration.PortKind.TheVariants as port_of
use Rattle.syntax.specs.declared.declaration.Procedure as tree_procedure
use Rattle.syntax.specs.declared.declaration.TypeDeclaration.{TypeDeclaration}
use Rattle.syntax.specs.declared.declaration.TypeDefinition.{TypeDefinition}
use Rattle.syntax.specs.declared.declaration.TypeDefinition.TheVariants.{Bits, Enumeration}
use Rattle.syntax.specs.declared.expression.TypeName.{TypeName}
use Rattle.syntax.specs.declared.expression.TypeName.TheVariants as type_name
use Rattle.syntax.specs.declared.name.Identifier.{Identifier}
use Rattle.types.proofs.DeclaredOnce.{alone-ok, both-ok, and-ok, demanded-ok, fresh-ok, Inner, inner-none, inner-twice, elements_tie, definition_ties, types_tie, all_ports_inner, all_locals_inner, ports_inner, locals_inner, Sound, sound, Judged, next_right, next_judged, ties-name, type_at, ports_tie, locals_tie}
use Rattle.types.proofs.ExpressionWays.{type_found}
use Rattle.types.proofs.Lookups.{Once, once-none, none_found, look_up-append, every-front, every-back, every-weaker}
use Rattle.types.proofs.Staying.{Renumbering, renamed, Remains, Kept, KeptPart, command_stays}
use Rattle.types.proofs.StaysRight.{Stays, Always}

-- ---- names that follow others

module _ (rename : Meaning → Meaning) (Good : Meaning → Type 0) (left : List Name) where
  -- the second names are the first ones, renamed, but for some that are left out
  pub record Follows (old new : VisibleNames) : Type 0 where
    pub kept : (n : Name) (m : Meaning) → (In n left → ⊥) → look_up old n ≡ Some m → (look_up new n ≡ Some (rename m)) × Good m
    pub free : (n : Name) → look_up old n ≡ None → look_up new n ≡ None

  -- one more name, in both
  pub follows-declared : (old new : VisibleNames) (x : Name) (m : Meaning) → Follows old new → Good m → look_up old x ≡ None
      → Follows (declared old x m) (declared new x (rename m))
  follows-declared old new x m f good fresh =
      let old_is : declared old x m ≡ old ++ (x, m) ∷ [] = rw fresh refl in
      let new_is : declared new x (rename m) ≡ new ++ (x, rename m) ∷ [] = rw (f.free x fresh) refl in
      subst (λ z. Follows z (declared new x (rename m))) (sym old_is) (subst (λ z. Follows (old ++ (x, m) ∷ []) z) (sym new_is)
      (record { kept = kept; free = free }))
    where
      last : (n : Name) (k : Meaning) (b : Bool) → (if b then Some m else None) ≡ Some k → ((if b then Some (rename m) else None) ≡ Some (rename k)) × Good k
      last n k true e = let same : m ≡ k = cc in (ap (λ z. Some (rename z)) same, subst Good same good)
      last n k false e = absurd cc

      kept : (n : Name) (k : Meaning) → (In n left → ⊥) → look_up (old ++ (x, m) ∷ []) n ≡ Some k → (look_up (new ++ (x, rename m) ∷ []) n ≡ Some (rename k)) × Good k
      kept n k out is = by (look_up old n) refl
        where
          found : option_or (look_up old n) (look_up ((x, m) ∷ []) n) ≡ Some k
          found = sym (look_up-append old ((x, m) ∷ []) n) ∙ is

          by : (o : Option Meaning) → look_up old n ≡ o → (look_up (new ++ (x, rename m) ∷ []) n ≡ Some (rename k)) × Good k
          by (Some j) e =
              let same : Some j ≡ Some k = rw e at found in
              let h = f.kept n k out (e ∙ same) in
              (look_up-append new ((x, rename m) ∷ []) n ∙ ap (λ o. option_or o (look_up ((x, rename m) ∷ []) n)) h.0, h.1)
          by None e =
              let h = last n k (pointwise nat_eq n x) (rw e at found) in
              (look_up-append new ((x, rename m) ∷ []) n ∙ ap (λ o. option_or o (look_up ((x, rename m) ∷ []) n)) (f.free n e) ∙ h.0, h.1)

      unfound : (b : Bool) → (if b then Some m else None) ≡ None → (if b then Some (rename m) else None) ≡ None
      unfound true e = absurd cc
      unfound false e = refl

      free : (n : Name) → look_up (old ++ (x, m) ∷ []) n ≡ None → look_up (new ++ (x, rename m) ∷ []) n ≡ None
      free n is = by (look_up old n) refl
        where
          found : option_or (look_up old n) (look_up ((x, m) ∷ []) n) ≡ None
          found = sym (look_up-append old ((x, m) ∷ []) n) ∙ is

          by : (o : Option Meaning) → look_up old n ≡ o → look_up (new ++ (x, rename m) ∷ []) n ≡ None
          by (Some j) e = let same : Some j ≡ None = rw e at found in absurd cc
          by None e =
              look_up-append new ((x, rename m) ∷ []) n ∙ ap (λ o. option_or o (look_up ((x, rename m) ∷ []) n)) (f.free n e)
              ∙ unfound (pointwise nat_eq n x) (rw e at found)

  -- one more name, in the first alone
  pub follows-left : (old new : VisibleNames) (x : Name) (m : Meaning) → Follows old new → In x left → look_up old x ≡ None → Follows (declared old x m) new
  follows-left old new x m f out fresh =
      let old_is : declared old x m ≡ old ++ (x, m) ∷ [] = rw fresh refl in
      subst (λ z. Follows z new) (sym old_is) (record { kept = kept; free = free })
    where
      kept : (n : Name) (k : Meaning) → (In n left → ⊥) → look_up (old ++ (x, m) ∷ []) n ≡ Some k → (look_up new n ≡ Some (rename k)) × Good k
      kept n k stays is = by (look_up old n) refl
        where
          found : option_or (look_up old n) (look_up ((x, m) ∷ []) n) ≡ Some k
          found = sym (look_up-append old ((x, m) ∷ []) n) ∙ is

          last : (b : Bool) → pointwise nat_eq n x ≡ b → (if b then Some m else None) ≡ Some k → ⊥
          last true same e = stays (subst (λ z. In z left) (sym ((bytes_decides n x).0 same)) out)
          last false other e = cc

          by : (o : Option Meaning) → look_up old n ≡ o → (look_up new n ≡ Some (rename k)) × Good k
          by (Some j) e = let same : Some j ≡ Some k = rw e at found in f.kept n k stays (e ∙ same)
          by None e = absurd (last (pointwise nat_eq n x) refl (rw e at found))

      free : (n : Name) → look_up (old ++ (x, m) ∷ []) n ≡ None → look_up new n ≡ None
      free n is = by (look_up old n) refl
        where
          found : option_or (look_up old n) (look_up ((x, m) ∷ []) n) ≡ None
          found = sym (look_up-append old ((x, m) ∷ []) n) ∙ is

          by : (o : Option Meaning) → look_up old n ≡ o → look_up new n ≡ None
          by (Some j) e = let same : Some j ≡ None = rw e at found in absurd cc
          by None e = f.free n e

-- ---- lists of names

pub unused : (left used : List Name) → Apart left used → Every (λ n. In n left → ⊥) used
unused left [] apart = tt
unused left (n ∷ used) apart = (λ out. apart n out (inl refl), unused left used (λ name out is. apart name out (inr is)))

-- each is among the names
pub within : (elements : List Identifier) → Every (λ (x : Identifier). In x.name (map (λ (z : Identifier). z.name) elements)) elements
within [] = tt
within (x ∷ rest) = (inl refl, every-weaker _ _ (λ (y : Identifier) is. inr is) rest (within rest))

-- ---- declarations that are right behind right ones

pub all_ports_right : (s : Declared every Port) (ds : List tree_port.Port) → (all_ports every s ds).right ≡ Ok tt → s.right ≡ Ok tt
all_ports_right s [] e = e
all_ports_right s (d ∷ rest) e =
    (ports_tie (port_kind s.names d.kind) s d.names (all_ports_right (with_ports every (port_kind s.names d.kind) s d.names) rest e)).0

pub all_locals_right : (s : Declared every Local) (ds : List tree_local.Local) → (all_locals every s ds).right ≡ Ok tt → s.right ≡ Ok tt
all_locals_right s [] e = e
all_locals_right s (d ∷ rest) e =
    (locals_tie (local_kind s.names d.kind) s d.names (all_locals_right (with_locals every (local_kind s.names d.kind) s d.names) rest e)).0

pub ok_stays : {A B E : Type 0} (x : Result A E) (y : Result B E) (a : A) → x ≡ Ok a → Stays Always x y → (b : B) × (y ≡ Ok b)
ok_stays (Ok c) (Ok b) a e s = (b, refl)
ok_stays (Ok c) (Err f) a e s = absurd s
ok_stays (Err f) y a e s = absurd cc

-- a procedure is right where its declarations and its body are
pub right_by : (scope : Scope) (p : tree_procedure.Procedure) → look_up scope.names p.name.name ≡ None → (ports_of every scope.names p).right ≡ Ok tt
    → (locals_of every scope.names p).right ≡ Ok tt → port_types every (scope_inside every scope p).names p.ports ≡ Ok tt
    → local_types every (scope_inside every scope p).names p.locals ≡ Ok tt → declarations_right every scope p ≡ Ok tt
unfolding declarations_right
right_by scope p fresh a b c d = rw (fresh, a, b, c, d) refl

pub judged_by : (scope : Scope) (p : tree_procedure.Procedure) (body : typed_command.Command) → declarations_right every scope p ≡ Ok tt
    → judged_command every p.body (scope_inside every scope p) [] ≡ Ok body
    → judged_procedure every scope p
    ≡ Ok (record { name = p.name.name; ports = (ports_of every scope.names p).made; locals = (locals_of every scope.names p).made; body = body })
unfolding judged_procedure
judged_by scope p body d c = rw (d, c) refl

-- ---- types that are right behind fewer names

module _ (left : List Name) (old new : VisibleNames)
    (kept : (n : Name) (w : ℕ) → (In n left → ⊥) → look_up old n ≡ Some (meaning.TypeName w) → look_up new n ≡ Some (meaning.TypeName w)) where
  type_right : (type : TypeName) → Every (λ n. In n left → ⊥) (names_of_type type) → demanded (type_width old [] type) ≡ Ok tt
      → demanded (type_width new [] type) ≡ Ok tt
  type_right (type_name.Bits width) out e = e
  type_right (type_name.Named identifier) out e =
      let right = demanded-ok (type_width old [] (type_name.Named identifier)) e in
      let found = type_found old [] identifier.name identifier.span.start right.0 right.1 in
      ap demanded (type_at new identifier.name identifier.span.start right.0 (kept identifier.name right.0 out.0 found))

  port_right : (kind : tree_port_kind.PortKind) → Every (λ n. In n left → ⊥) (names_of_port kind) → port_type old kind ≡ Ok tt → port_type new kind ≡ Ok tt
  port_right (port_of.Input type) out e = type_right type out e
  port_right (port_of.Output type) out e = type_right type out e
  port_right port_of.Sync out e = refl

  local_right : (kind : tree_local_kind.LocalKind) → Every (λ n. In n left → ⊥) (names_of_local kind) → local_type old kind ≡ Ok tt → local_type new kind ≡ Ok tt
  local_right (local_of.Variable type) out e = type_right type out e
  local_right (local_of.SharedVariable type) out e = type_right type out e
  local_right (local_of.Channel type) out e = type_right type out e
  local_right local_of.Sync out e = refl

  pub ports_right : (ds : List tree_port.Port) → Every (λ n. In n left → ⊥) (flat_map (λ (d : tree_port.Port). names_of_port d.kind) ds)
      → Every (λ (d : tree_port.Port). port_type old d.kind ≡ Ok tt) ds → port_types every new ds ≡ Ok tt
  ports_right [] out are = refl
  ports_right (d ∷ rest) out are =
      ap (λ v. and_all every (and every (Ok tt) (one_fault v)) (map (λ (d : tree_port.Port). port_type new d.kind) rest))
      (port_right d.kind (every-front (λ n. In n left → ⊥) (names_of_port d.kind) (flat_map (λ (d : tree_port.Port). names_of_port d.kind) rest) out) are.0)
      ∙ ports_right rest (every-back (λ n. In n left → ⊥) (names_of_port d.kind) (flat_map (λ (d : tree_port.Port). names_of_port d.kind) rest) out) are.1

  pub locals_right : (ds : List tree_local.Local) → Every (λ n. In n left → ⊥) (flat_map (λ (d : tree_local.Local). names_of_local d.kind) ds)
      → Every (λ (d : tree_local.Local). local_type old d.kind ≡ Ok tt) ds → local_types every new ds ≡ Ok tt
  locals_right [] out are = refl
  locals_right (d ∷ rest) out are =
      ap (λ v. and_all every (and every (Ok tt) (one_fault v)) (map (λ (d : tree_local.Local). local_type new d.kind) rest))
      (local_right d.kind (every-front (λ n. In n left → ⊥) (names_of_local d.kind) (flat_map (λ (d : tree_local.Local). names_of_local d.kind) rest) out) are.0)
      ∙ locals_right rest (every-back (λ n. In n left → ⊥) (names_of_local d.kind) (flat_map (λ (d : tree_local.Local). names_of_local d.kind) rest) out) are.1

-- ---- a procedure behind fewer names

-- Procedures have other numbers; ports and locals keep theirs.
abbrev pub procedures_anew : (ℕ → ℕ) → Renumbering
procedures_anew number = record {
  port = λ p. p;
  local = λ l. l;
  procedure = number;
  KeepsPort = λ _. Unit {0};
  KeepsLocal = λ _. Unit {0};
  ports_apart = λ a b x y. refl;
  locals_apart = λ a b x y. refl;
}

module _ (number : ℕ → ℕ) (left : List Name) where
  abbrev pub Renumbered : Meaning → Meaning
  Renumbered = renamed (procedures_anew number)

  -- a visible procedure has the same ports in both
  abbrev pub Good : List (List PortKind) → List (List PortKind) → Meaning → Type 0
  Good old new (meaning.Procedure p) = (kinds : List PortKind) × (slice_get old p ≡ Some kinds) × (slice_get new (number p) ≡ Some kinds)
  Good old new _ = Unit {0}

  port_same : (p : ℕ) (kind : PortKind) → Renumbered (port_meaning p kind) ≡ port_meaning p kind
  port_same p (port.Input w) = refl
  port_same p (port.Output w) = refl
  port_same p port.Sync = refl

  local_same : (l : ℕ) (kind : LocalKind) → Renumbered (local_meaning l kind) ≡ local_meaning l kind
  local_same l (local.Variable w) = refl
  local_same l (local.SharedVariable w) = refl
  local_same l (local.Channel w) = refl
  local_same l local.Sync = refl

  module _ (os ns : List (List PortKind)) where
    port_good : (p : ℕ) (kind : PortKind) → Good os ns (port_meaning p kind)
    port_good p (port.Input w) = tt
    port_good p (port.Output w) = tt
    port_good p port.Sync = tt

    local_good : (l : ℕ) (kind : LocalKind) → Good os ns (local_meaning l kind)
    local_good l (local.Variable w) = tt
    local_good l (local.SharedVariable w) = tt
    local_good l (local.Channel w) = tt
    local_good l local.Sync = tt

    -- what is declared in both alike
    record Alike {A : Type 0} (s t : Declared every A) : Type 0 where
      names : Follows Renumbered (Good os ns) left s.names t.names
      made : t.made ≡ s.made
      right : t.right ≡ Ok tt

    -- one more port or local, of which the meaning goes by the number of those before it
    one_alike : {A : Type 0} (s t : Declared every A) (name : Identifier) (means : ℕ → Meaning) (one : A)
        → ((k : ℕ) → Renumbered (means k) ≡ means k) → ((k : ℕ) → Good os ns (means k))
        → (with_one every s name (means (length s.made)) one).right ≡ Ok tt → Alike s t
        → Alike (with_one every s name (means (length s.made)) one) (with_one every t name (means (length t.made)) one)
    one_alike {A} s t name means one same good e a =
        let m = means (length s.made) in
        let h = and-ok s.right (one_fault (is_fresh s.names name.name name.span.start)) e in
        let fresh = fresh-ok s.names name.name name.span.start h.1 in
        let absent : look_up t.names name.name ≡ None = a.names.free name.name fresh in
        let means_same : Renumbered m ≡ means (length t.made) = same (length s.made) ∙ ap (λ (z : List A). means (length z)) (sym a.made) in
        record {
          names = subst (λ z. Follows Renumbered (Good os ns) left (declared s.names name.name m) (declared t.names name.name z)) means_same
              (follows-declared Renumbered (Good os ns) left s.names t.names name.name m a.names (good (length s.made)) fresh);
          made = ap (λ z. z ++ one ∷ []) a.made;
          right = rw (a.right, absent) refl;
        }

    ports_alike : (kind : PortKind) (s t : Declared every Port) (names : List Identifier) → Alike s t → (with_ports every kind s names).right ≡ Ok tt
        → Alike (with_ports every kind s names) (with_ports every kind t names)
    ports_alike kind s t [] a e = a
    ports_alike kind s t (n ∷ rest) a e =
        let next = with_one every s n (port_meaning (length s.made) kind) (one_port kind n) in
        ports_alike kind next (with_one every t n (port_meaning (length t.made) kind) (one_port kind n)) rest
        (one_alike s t n (λ k. port_meaning k kind) (one_port kind n) (λ k. port_same k kind) (λ k. port_good k kind) (ports_tie kind next rest e).0 a) e

    locals_alike : (kind : LocalKind) (s t : Declared every Local) (names : List Identifier) → Alike s t → (with_locals every kind s names).right ≡ Ok tt
        → Alike (with_locals every kind s names) (with_locals every kind t names)
    locals_alike kind s t [] a e = a
    locals_alike kind s t (n ∷ rest) a e =
        let next = with_one every s n (local_meaning (length s.made) kind) (one_local kind n) in
        locals_alike kind next (with_one every t n (local_meaning (length t.made) kind) (one_local kind n)) rest
        (one_alike s t n (λ k. local_meaning k kind) (one_local kind n) (λ k. local_same k kind) (λ k. local_good k kind) (locals_tie kind next rest e).0 a) e

    -- a type that is used and right, outside and inside
    module _ (outer inner outer' : VisibleNames) (between : Inner outer inner) (out : Follows Renumbered (Good os ns) left outer outer') where
      type_same : (so_far so_far' : VisibleNames) → Inner outer so_far → Inner outer' so_far' → (type : TypeName) → Every (λ n. In n left → ⊥) (names_of_type type)
          → demanded (type_width inner [] type) ≡ Ok tt → type_width_or_one so_far' type ≡ type_width_or_one so_far type
      type_same so_far so_far' front front' (type_name.Bits width) stays e = refl
      type_same so_far so_far' front front' (type_name.Named identifier) stays e =
          let name = identifier.name in
          let right = demanded-ok (type_width inner [] (type_name.Named identifier)) e in
          let m = meaning.TypeName right.0 in
          let found = between.types name right.0 (type_found inner [] name identifier.span.start right.0 right.1) in
          let found' = (out.kept name m stays.0 found).0 in
          ap width_or_one (type_at so_far' name identifier.span.start right.0 (front'.stays name m found')
          ∙ sym (type_at so_far name identifier.span.start right.0 (front.stays name m found)))

      port_kind_same : (so_far so_far' : VisibleNames) → Inner outer so_far → Inner outer' so_far' → (kind : tree_port_kind.PortKind) → Every (λ n. In n left → ⊥) (names_of_port kind)
          → port_type inner kind ≡ Ok tt → port_kind so_far' kind ≡ port_kind so_far kind
      port_kind_same so_far so_far' front front' (port_of.Input type) stays e = ap (λ w. port.Input w) (type_same so_far so_far' front front' type stays e)
      port_kind_same so_far so_far' front front' (port_of.Output type) stays e = ap (λ w. port.Output w) (type_same so_far so_far' front front' type stays e)
      port_kind_same so_far so_far' front front' port_of.Sync stays e = refl

      local_kind_same : (so_far so_far' : VisibleNames) → Inner outer so_far → Inner outer' so_far' → (kind : tree_local_kind.LocalKind) → Every (λ n. In n left → ⊥) (names_of_local kind)
          → local_type inner kind ≡ Ok tt → local_kind so_far' kind ≡ local_kind so_far kind
      local_kind_same so_far so_far' front front' (local_of.Variable type) stays e = ap (λ w. local.Variable w) (type_same so_far so_far' front front' type stays e)
      local_kind_same so_far so_far' front front' (local_of.SharedVariable type) stays e = ap (λ w. local.SharedVariable w) (type_same so_far so_far' front front' type stays e)
      local_kind_same so_far so_far' front front' (local_of.Channel type) stays e = ap (λ w. local.Channel w) (type_same so_far so_far' front front' type stays e)
      local_kind_same so_far so_far' front front' local_of.Sync stays e = refl

      all_ports_alike : (s t : Declared every Port) (ds : List tree_port.Port) → Inner outer s.names → Inner outer' t.names → Alike s t
          → Every (λ (d : tree_port.Port). port_type inner d.kind ≡ Ok tt) ds
          → Every (λ n. In n left → ⊥) (flat_map (λ (d : tree_port.Port). names_of_port d.kind) ds) → (all_ports every s ds).right ≡ Ok tt
          → Alike (all_ports every s ds) (all_ports every t ds)
      all_ports_alike s t [] front front' a right stays e = a
      all_ports_alike s t (d ∷ rest) front front' a right stays e =
          let kind = port_kind s.names d.kind in
          let kind' = port_kind t.names d.kind in
          let next = with_ports every kind s d.names in
          let same : kind' ≡ kind = port_kind_same s.names t.names front front' d.kind
          (every-front (λ n. In n left → ⊥) (names_of_port d.kind) (flat_map (λ (d : tree_port.Port). names_of_port d.kind) rest) stays) right.0 in
          let one : Alike next (with_ports every kind' t d.names) =
          subst (λ k. Alike next (with_ports every k t d.names)) (sym same) (ports_alike kind s t d.names a (all_ports_right next rest e)) in
          all_ports_alike next (with_ports every kind' t d.names) rest
          (inner-twice outer s.names next.names front (ports_inner kind s d.names))
          (inner-twice outer' t.names (with_ports every kind' t d.names).names front' (ports_inner kind' t d.names)) one right.1
          (every-back (λ n. In n left → ⊥) (names_of_port d.kind) (flat_map (λ (d : tree_port.Port). names_of_port d.kind) rest) stays) e

      all_locals_alike : (s t : Declared every Local) (ds : List tree_local.Local) → Inner outer s.names → Inner outer' t.names → Alike s t
          → Every (λ (d : tree_local.Local). local_type inner d.kind ≡ Ok tt) ds
          → Every (λ n. In n left → ⊥) (flat_map (λ (d : tree_local.Local). names_of_local d.kind) ds) → (all_locals every s ds).right ≡ Ok tt
          → Alike (all_locals every s ds) (all_locals every t ds)
      all_locals_alike s t [] front front' a right stays e = a
      all_locals_alike s t (d ∷ rest) front front' a right stays e =
          let kind = local_kind s.names d.kind in
          let kind' = local_kind t.names d.kind in
          let next = with_locals every kind s d.names in
          let same : kind' ≡ kind = local_kind_same s.names t.names front front' d.kind
          (every-front (λ n. In n left → ⊥) (names_of_local d.kind) (flat_map (λ (d : tree_local.Local). names_of_local d.kind) rest) stays) right.0 in
          let one : Alike next (with_locals every kind' t d.names) =
          subst (λ k. Alike next (with_locals every k t d.names)) (sym same) (locals_alike kind s t d.names a (all_locals_right next rest e)) in
          all_locals_alike next (with_locals every kind' t d.names) rest
          (inner-twice outer s.names next.names front (locals_inner kind s d.names))
          (inner-twice outer' t.names (with_locals every kind' t d.names).names front' (locals_inner kind' t d.names)) one right.1
          (every-back (λ n. In n left → ⊥) (names_of_local d.kind) (flat_map (λ (d : tree_local.Local). names_of_local d.kind) rest) stays) e

  -- ---- a procedure

  remains_by : (old new : Scope) (m : Meaning) → Good old.procedures new.procedures m → Remains (procedures_anew number) old new m
  remains_by old new (meaning.Procedure p) (kinds, a, b) = b ∙ sym a
  remains_by old new (meaning.TypeName w) good = tt
  remains_by old new (meaning.Element v) good = tt
  remains_by old new (meaning.Input p w) good = tt
  remains_by old new (meaning.Output p w) good = tt
  remains_by old new (meaning.SyncPort p) good = tt
  remains_by old new (meaning.Variable l w) good = tt
  remains_by old new (meaning.Channel l w) good = tt
  remains_by old new (meaning.Sync l) good = tt

  module _ (old new : Scope) (f : Follows Renumbered (Good old.procedures new.procedures) left old.names new.names) where
    name_kept : (n : Name) → (In n left → ⊥) → Kept (procedures_anew number) old new n
    name_kept n out m is = let h = f.kept n m out is in (h.0, remains_by old new m h.1)

    part_kept : (p : Part) → Every (λ n. In n left → ⊥) (names_of_part p) → KeptPart (procedures_anew number) old new p
    part_kept (named n) out = name_kept n out.0
    part_kept (valued e) out = every-weaker _ _ name_kept (names_of_expression e) out

    parts_kept : (ps : List Part) → Every (λ n. In n left → ⊥) (flat_map names_of_part ps)
        → Every (KeptPart (procedures_anew number) old new) ps
    parts_kept [] out = tt
    parts_kept (p ∷ ps) out = (
      part_kept p (every-front (λ n. In n left → ⊥) (names_of_part p) (flat_map names_of_part ps) out),
      parts_kept ps (every-back (λ n. In n left → ⊥) (names_of_part p) (flat_map names_of_part ps) out),
    )

  -- what is known of a procedure that stays right
  record Restated (old new : Scope) (p : tree_procedure.Procedure) : Type 0 where
    procedure : Procedure
    judged_anew : judged_procedure every new p ≡ Ok procedure
    ports_same : (ports_of every new.names p).made ≡ (ports_of every old.names p).made

  procedure_stays : (old new : Scope) → Follows Renumbered (Good old.procedures new.procedures) left old.names new.names → Once old.names
      → (p : tree_procedure.Procedure) → Every (λ n. In n left → ⊥) (names_used p) → Judged old p → Restated old new p
  procedure_stays old new f once p out j =
      let s = sound old p once j.declarations in
      let Out = λ (n : Name). In n left → ⊥ in
      let port_names = flat_map (λ (d : tree_port.Port). names_of_port d.kind) p.ports in
      let local_names = flat_map (λ (d : tree_local.Local). names_of_local d.kind) p.locals in
      let body_names = flat_map names_of_part (parts_of_command p.body) in
      let ports_out = every-front Out port_names (local_names ++ body_names) out in
      let rest_out = every-back Out port_names (local_names ++ body_names) out in
      let locals_out = every-front Out local_names body_names rest_out in
      let body_out = every-back Out local_names body_names rest_out in
      let ports = ports_of every old.names p in
      let ports' = ports_of every new.names p in
      let inside = scope_inside every old p in
      let inside' = scope_inside every new p in
      let to_ports = all_ports_inner (behind every old.names) p.ports in
      let to_ports' = all_ports_inner (behind every new.names) p.ports in
      let between = inner-twice old.names ports.names inside.names to_ports (all_locals_inner (behind every ports.names) p.locals) in
      let os = old.procedures in
      let ns = new.procedures in
      let ports_are : Alike os ns ports ports' =
      all_ports_alike os ns old.names inside.names new.names between f (behind every old.names) (behind every new.names) p.ports (inner-none old.names) (inner-none new.names)
      (record { names = f; made = refl; right = refl }) s.ports ports_out s.ports_right in
      let locals_are : Alike os ns (locals_of every old.names p) (locals_of every new.names p) =
      all_locals_alike os ns old.names inside.names new.names between f (behind every ports.names) (behind every ports'.names) p.locals to_ports to_ports'
      (record { names = ports_are.names; made = refl; right = refl }) s.locals locals_out s.locals_right in
      let body = ok_stays (judged_command every p.body inside []) (judged_command every p.body inside' []) j.body j.command
      (command_stays (procedures_anew number) inside inside' p.body [] tt
      (parts_kept inside inside' locals_are.names (parts_of_command p.body) body_out)) in
      let fresh = f.free p.name.name s.fresh in
      let types_kept = λ (n : Name) (w : ℕ) (out : In n left → ⊥) (is : look_up inside.names n ≡ Some (meaning.TypeName w)). (locals_are.names.kept n (meaning.TypeName w) out is).0 in
      let ports_ok = ports_right left inside.names inside'.names types_kept p.ports ports_out s.ports in
      let locals_ok = locals_right left inside.names inside'.names types_kept p.locals locals_out s.locals in
      record {
        procedure = record { name = p.name.name; ports = ports'.made; locals = (locals_of every new.names p).made; body = body.0 };
        judged_anew = judged_by new p body.0 (right_by new p fresh ports_are.right locals_are.right ports_ok locals_ok) body.1;
        ports_same = ports_are.made;
      }

  -- ---- procedures one after another

  pub slice_get-append : {X : Type 0} (xs ys : List X) (i : ℕ) (x : X) → slice_get xs i ≡ Some x → slice_get (xs ++ ys) i ≡ Some x
  slice_get-append [] ys i x e = absurd cc
  slice_get-append (y ∷ xs) ys zero x e = e
  slice_get-append (y ∷ xs) ys (suc i) x e = slice_get-append xs ys i x e

  pub slice_get-last : {X : Type 0} (xs : List X) (x : X) → slice_get (xs ++ x ∷ []) (length xs) ≡ Some x
  slice_get-last [] x = refl
  slice_get-last (y ∷ xs) x = slice_get-last xs x

  pub good_more : (os ns xs ys : List (List PortKind)) (m : Meaning) → Good os ns m → Good (os ++ xs) (ns ++ ys) m
  good_more os ns xs ys (meaning.Procedure p) (kinds, a, b) = (kinds, slice_get-append os xs p kinds a, slice_get-append ns ys (number p) kinds b)
  good_more os ns xs ys (meaning.TypeName w) good = tt
  good_more os ns xs ys (meaning.Element v) good = tt
  good_more os ns xs ys (meaning.Input p w) good = tt
  good_more os ns xs ys (meaning.Output p w) good = tt
  good_more os ns xs ys (meaning.SyncPort p) good = tt
  good_more os ns xs ys (meaning.Variable l w) good = tt
  good_more os ns xs ys (meaning.Channel l w) good = tt
  good_more os ns xs ys (meaning.Sync l) good = tt

  -- the number of each further procedure
  abbrev pub Numbers : Scope → Scope → Type 0
  Numbers old new = (j : ℕ) → number (length old.procedures + j) ≡ length new.procedures + j

  pub after_follows : (old new : Scope) → Follows Renumbered (Good old.procedures new.procedures) left old.names new.names → number (length old.procedures) ≡ length new.procedures
      → (p : tree_procedure.Procedure) → look_up old.names p.name.name ≡ None → (ports_of every new.names p).made ≡ (ports_of every old.names p).made
      → Follows Renumbered (Good (after_procedure every old p).procedures (after_procedure every new p).procedures) left (after_procedure every old p).names (after_procedure every new p).names
  after_follows old new f numbered p fresh same =
      let kinds = map (λ (q : Port). q.kind) (ports_of every old.names p).made in
      let kinds' = map (λ (q : Port). q.kind) (ports_of every new.names p).made in
      let os = old.procedures ++ kinds ∷ [] in
      let ns = new.procedures ++ kinds' ∷ [] in
      let at = length old.procedures in
      let good : Good os ns (meaning.Procedure at) = (
        kinds,
        slice_get-last old.procedures kinds,
        ap (slice_get ns) numbered ∙ slice_get-last new.procedures kinds' ∙ ap (λ (z : List Port). Some (map (λ (q : Port). q.kind) z)) same,
      ) in
      let g : Follows Renumbered (Good os ns) left old.names new.names =
      record { kept = λ n m out is. let h = f.kept n m out is in (h.0, good_more old.procedures new.procedures (kinds ∷ []) (kinds' ∷ []) m h.1); free = f.free } in
      subst (λ z. Follows Renumbered (Good os ns) left (declared old.names p.name.name (meaning.Procedure at)) (declared new.names p.name.name (meaning.Procedure z))) numbered
      (follows-declared Renumbered (Good os ns) left old.names new.names p.name.name (meaning.Procedure at) g good fresh)

  numbered_now : (old new : Scope) → Numbers old new → number (length old.procedures) ≡ length new.procedures
  numbered_now old new numbers =
      let none : length old.procedures ≡ length old.procedures + 0 = omega arith in
      let all : length new.procedures + 0 ≡ length new.procedures = omega arith in
      ap number none ∙ numbers 0 ∙ all

  after_numbers : (old new : Scope) → Numbers old new → (p : tree_procedure.Procedure) → Numbers (after_procedure every old p) (after_procedure every new p)
  after_numbers old new numbers p j =
      let x = map (λ (q : Port). q.kind) (ports_of every old.names p).made in
      let y = map (λ (q : Port). q.kind) (ports_of every new.names p).made in
      let one : length (old.procedures ++ x ∷ []) + j ≡ length old.procedures + (1 + j) = omega (arith, length-append old.procedures (x ∷ [])) in
      let two : length new.procedures + (1 + j) ≡ length (new.procedures ++ y ∷ []) + j = omega (arith, length-append new.procedures (y ∷ [])) in
      ap number one ∙ numbers (1 + j) ∙ two

  pub procedures_stay : (old new : Scope) → Follows Renumbered (Good old.procedures new.procedures) left old.names new.names → Numbers old new → Once old.names
      → (done : Findings every (List Procedure)) (done' : List Procedure) (ps : List tree_procedure.Procedure) (qs : List Procedure)
      → Every (λ n. In n left → ⊥) (flat_map names_used ps) → with_procedures every old done ps ≡ Ok qs
      → (rs : List Procedure) × (with_procedures every new (Ok done') ps ≡ Ok rs)
  procedures_stay old new f numbers once done done' [] qs out e = (done', refl)
  procedures_stay old new f numbers once done done' (p ∷ ps) qs out e =
      let j = next_judged old done p ps qs e in
      let s = sound old p once j.declarations in
      let r = procedure_stays old new f once p (every-front (λ n. In n left → ⊥) (names_used p) (flat_map names_used ps) out) j in
      let rest = procedures_stay (after_procedure every old p) (after_procedure every new p) (after_follows old new f (numbered_now old new numbers) p s.fresh r.ports_same) (after_numbers old new numbers p)
      ((ties-name old.names p.name.name (meaning.Procedure (length old.procedures)) s.fresh).once once)
      (with_next every done (judged_procedure every old p)) (done' ++ r.procedure ∷ []) ps qs
      (every-back (λ n. In n left → ⊥) (names_used p) (flat_map names_used ps) out) e in
      (rest.0, ap (λ z. with_procedures every (after_procedure every new p) (with_next every (Ok done') z) ps) r.judged_anew ∙ rest.1)

  -- ---- types

  -- types that are declared in both
  abbrev pub TypesFollow : SoFar every → SoFar every → Type 0
  TypesFollow s t = Follows Renumbered (Good [] []) left s.names t.names × (t.right ≡ Ok tt)

  pub name_follows : (s t : SoFar every) (name : Identifier) (m : Meaning) → Renumbered m ≡ m → Good [] [] m → (with_name every s name m).right ≡ Ok tt → TypesFollow s t
      → TypesFollow (with_name every s name m) (with_name every t name m)
  name_follows s t name m same good e (f, right) =
      let h = and-ok s.right (one_fault (is_fresh s.names name.name name.span.start)) e in
      let fresh = fresh-ok s.names name.name name.span.start h.1 in
      let absent : look_up t.names name.name ≡ None = f.free name.name fresh in (
        subst (λ z. Follows Renumbered (Good [] []) left (declared s.names name.name m) (declared t.names name.name z)) same
            (follows-declared Renumbered (Good [] []) left s.names t.names name.name m f good fresh),
        rw (right, absent) refl,
      )

  elements_follow : (width n : ℕ) (s t : SoFar every) (elements : List Identifier) → (with_elements every width n s elements).right ≡ Ok tt → TypesFollow s t
      → TypesFollow (with_elements every width n s elements) (with_elements every width n t elements)
  elements_follow width n s t [] e f = f
  elements_follow width n s t (x ∷ rest) e f =
      let m = meaning.Element (record { bits = n; width = width }) in
      elements_follow width (suc n) (with_name every s x m) (with_name every t x m) rest e
      (name_follows s t x m refl tt (elements_tie width (suc n) (with_name every s x m) rest e).0 f)

  definition_follows : (s t : SoFar every) (name : Identifier) (d : TypeDefinition) → (with_definition every s name d).right ≡ Ok tt → TypesFollow s t
      → TypesFollow (with_definition every s name d) (with_definition every t name d)
  definition_follows s t name (Bits width) e f =
      let m = meaning.TypeName (width_or_one (declared_width width)) in
      let h = and-ok (with_name every s name m).right (one_fault (demanded (declared_width width))) e in
      let one = name_follows s t name m refl tt h.0 f in
      (one.0, rw (one.1, h.1) refl)
  definition_follows s t name (Enumeration elements) e f =
      let width = enumeration_width (length elements) in
      let m = meaning.TypeName width in
      elements_follow width 0 (with_name every s name m) (with_name every t name m) elements e
      (name_follows s t name m refl tt (elements_tie width 0 (with_name every s name m) elements e).0 f)

  pub types_follow : (s t : SoFar every) (ts : List TypeDeclaration) → (with_types every s ts).right ≡ Ok tt → TypesFollow s t
      → TypesFollow (with_types every s ts) (with_types every t ts)
  types_follow s t [] e f = f
  types_follow s t (d ∷ rest) e f =
      let next = with_definition every s d.name d.definition in
      types_follow next (with_definition every t d.name d.definition) rest e (definition_follows s t d.name d.definition (types_tie next rest e).0 f)

  -- types that are declared in the first alone
  pub name_left : (s t : SoFar every) (name : Identifier) (m : Meaning) → In name.name left → (with_name every s name m).right ≡ Ok tt → TypesFollow s t
      → TypesFollow (with_name every s name m) t
  name_left s t name m out e (f, right) =
      let h = and-ok s.right (one_fault (is_fresh s.names name.name name.span.start)) e in
      (follows-left Renumbered (Good [] []) left s.names t.names name.name m f out (fresh-ok s.names name.name name.span.start h.1), right)

  elements_left : (width n : ℕ) (s t : SoFar every) (elements : List Identifier) → Every (λ (x : Identifier). In x.name left) elements
      → (with_elements every width n s elements).right ≡ Ok tt → TypesFollow s t → TypesFollow (with_elements every width n s elements) t
  elements_left width n s t [] out e f = f
  elements_left width n s t (x ∷ rest) out e f =
      let m = meaning.Element (record { bits = n; width = width }) in
      elements_left width (suc n) (with_name every s x m) t rest out.1 e
      (name_left s t x m out.0 (elements_tie width (suc n) (with_name every s x m) rest e).0 f)

  definition_left : (s t : SoFar every) (d : TypeDeclaration) → ((n : Name) → In n (declared_by d) → In n left) → (with_definition every s d.name d.definition).right ≡ Ok tt
      → TypesFollow s t → TypesFollow (with_definition every s d.name d.definition) t
  definition_left s t d out e f = by d.definition out e
    where
      by : (definition : TypeDefinition) → ((n : Name) → In n (d.name.name ∷ elements_of definition) → In n left) → (with_definition every s d.name definition).right ≡ Ok tt
          → TypesFollow (with_definition every s d.name definition) t
      by (Bits width) out e =
          let m = meaning.TypeName (width_or_one (declared_width width)) in
          let h = and-ok (with_name every s d.name m).right (one_fault (demanded (declared_width width))) e in
          name_left s t d.name m (out d.name.name (inl refl)) h.0 f
      by (Enumeration elements) out e =
          let width = enumeration_width (length elements) in
          let m = meaning.TypeName width in
          elements_left width 0 (with_name every s d.name m) t elements
          (every-weaker _ _ (λ (x : Identifier) is. out x.name (inr is)) elements (within elements)) e
          (name_left s t d.name m (out d.name.name (inl refl)) (elements_tie width 0 (with_name every s d.name m) elements e).0 f)

  -- a procedure that is declared in the first alone
  procedure_left : (s : Scope) → Follows Renumbered (Good s.procedures s.procedures) left s.names s.names → (p : tree_procedure.Procedure) → In p.name.name left
      → look_up s.names p.name.name ≡ None
      → Follows Renumbered (Good (after_procedure every s p).procedures s.procedures) left (after_procedure every s p).names s.names
  procedure_left s f p out fresh =
      let x = map (λ (q : Port). q.kind) (ports_of every s.names p).made in
      let more = good_more s.procedures s.procedures (x ∷ []) [] in
      let g : Follows Renumbered (Good (s.procedures ++ x ∷ []) s.procedures) left s.names s.names = record {
        kept = λ n m stays is.
            let h = f.kept n m stays is in
            (h.0, subst (λ (z : List (List PortKind)). Good (s.procedures ++ x ∷ []) z m) (append-nil s.procedures) (more m h.1));
        free = f.free;
      } in
      follows-left Renumbered (Good (s.procedures ++ x ∷ []) s.procedures) left s.names s.names p.name.name (meaning.Procedure (length s.procedures)) g out fresh

pub with_types-append : (s : SoFar every) (xs ys : List TypeDeclaration) → with_types every s (xs ++ ys) ≡ with_types every (with_types every s xs) ys
with_types-append s [] ys = refl
with_types-append s (x ∷ xs) ys = with_types-append (with_definition every s x.name x.definition) xs ys

-- a description is accepted where its types and its procedures are right
pub described_by : (types : Findings every (Unit {0})) (procedures : Findings every (List Procedure)) (rs : List Procedure) → types ≡ Ok tt → procedures ≡ Ok rs
    → becomes (λ p. p.1) (both every types procedures) ≡ Ok rs
described_by types procedures rs a b = rw (a, b) refl

-- ---- a type is left out

pub types_left_out : TypesMayBeLeftOut
unfolding found_description judged_description
types_left_out before t later procedures (qs, e) apart =
    let number : ℕ → ℕ = λ p. p in
    let left = declared_by t in
    let s0 : SoFar every = record { names = []; right = Ok tt } in
    let s1 = with_types every s0 before in
    let s2 = with_definition every s1 t.name t.definition in
    let s3 = with_types every s2 later in
    let t3 = with_types every s1 later in
    let whole = with_types-append s0 before (t ∷ later) in
    let less = with_types-append s0 before later in
    let h = both-ok (λ p. p.1) (with_types every s0 (before ++ t ∷ later)).right
    (with_procedures every (record { names = (with_types every s0 (before ++ t ∷ later)).names; procedures = [] }) (Ok []) procedures) qs e in
    let right3 : s3.right ≡ Ok tt = ap (λ (s : SoFar every). s.right) (sym whole) ∙ h.2 in
    let right2 = (types_tie s2 later right3).0 in
    let right1 = (definition_ties s1 t.name t.definition right2).0 in
    let f1 = types_follow number left s0 s0 before right1 (record { kept = λ n m out is. none_found n m is; free = λ n is. is }, refl) in
    let f2 = definition_left number left s1 s1 t (λ n is. is) right2 f1 in
    let f3 = types_follow number left s2 s1 later right3 f2 in
    let once3 : Once s3.names = (types_tie s2 later right3).1.once ((definition_ties s1 t.name t.definition right2).1.once ((types_tie s0 before right1).1.once once-none)) in
    let judged : with_procedures every (record { names = s3.names; procedures = [] }) (Ok []) procedures ≡ Ok h.1 =
    ap (λ (s : SoFar every). with_procedures every (record { names = s.names; procedures = [] }) (Ok []) procedures) (sym whole) ∙ h.3 in
    let stays = procedures_stay number left (record { names = s3.names; procedures = [] }) (record { names = t3.names; procedures = [] }) f3.0 (λ j. refl) once3 (Ok []) [] procedures h.1
    (unused left (flat_map names_used procedures) apart) judged in (
      stays.0,
      described_by (with_types every s0 (before ++ later)).right
          (with_procedures every (record { names = (with_types every s0 (before ++ later)).names; procedures = [] }) (Ok []) procedures) stays.0
          (ap (λ (s : SoFar every). s.right) less ∙ f3.1)
          (ap (λ (s : SoFar every). with_procedures every (record { names = s.names; procedures = [] }) (Ok []) procedures) less ∙ stays.1),
    )

-- ---- a procedure is left out

-- those behind number r have one less
abbrev less_one : ℕ → ℕ → ℕ
less_one r k = if nat_lt r k then k - 1 else k

same_number : (r k : ℕ) → k ≤ r → less_one r k ≡ k
same_number r k few = rw (le-ltb r k few) refl

lower_number : (r k : ℕ) → r < k → less_one r k ≡ k - 1
lower_number r k more = rw (lt-ltb r k more) refl

procedure_left_out : (r : ℕ) (s : Scope) (done : Findings every (List Procedure)) (done' : List Procedure) (before : List tree_procedure.Procedure) (p : tree_procedure.Procedure)
    (later : List tree_procedure.Procedure) (qs : List Procedure) → Once s.names
    → Follows (Renumbered (less_one r) (p.name.name ∷ [])) (Good (less_one r) (p.name.name ∷ []) s.procedures s.procedures) (p.name.name ∷ []) s.names s.names
    → length s.procedures + length before ≡ r → Every (λ n. In n (p.name.name ∷ []) → ⊥) (flat_map names_used later)
    → with_procedures every s done (before ++ p ∷ later) ≡ Ok qs → (rs : List Procedure) × (with_procedures every s (Ok done') (before ++ later) ≡ Ok rs)
procedure_left_out r s done done' [] p later qs once f count out e =
    let left = p.name.name ∷ [] in
    let number = less_one r in
    let sound_p = sound s p once (next_judged s done p later qs e).declarations in
    let x = map (λ (q : Port). q.kind) (ports_of every s.names p).made in
    let numbers : Numbers number left (after_procedure every s p) s =
    λ j. let more : r < length (s.procedures ++ x ∷ []) + j = omega (arith, length-append s.procedures (x ∷ []), count) in
    lower_number r (length (s.procedures ++ x ∷ []) + j) more ∙ omega (arith, length-append s.procedures (x ∷ [])) in
    procedures_stay number left (after_procedure every s p) s (procedure_left number left s f p (inl refl) sound_p.fresh) numbers
    ((ties-name s.names p.name.name (meaning.Procedure (length s.procedures)) sound_p.fresh).once once)
    (with_next every done (judged_procedure every s p)) done' later qs out e
procedure_left_out r s done done' (b ∷ bs) p later qs once f count out e =
    let left = p.name.name ∷ [] in
    let number = less_one r in
    let right = next_right s done b (bs ++ p ∷ later) qs e in
    let sound_b = sound s b once (next_judged s done b (bs ++ p ∷ later) qs e).declarations in
    let x = map (λ (q : Port). q.kind) (ports_of every s.names b).made in
    let numbered : number (length s.procedures) ≡ length s.procedures = same_number r (length s.procedures) (omega (arith, count)) in
    let rest = procedure_left_out r (after_procedure every s b) (with_next every done (judged_procedure every s b)) (done' ++ right.0 ∷ []) bs p later qs
    ((ties-name s.names b.name.name (meaning.Procedure (length s.procedures)) sound_b.fresh).once once)
    (after_follows number left s s f numbered b sound_b.fresh refl)
    (omega (arith, length-append s.procedures (x ∷ []), count)) out e in
    (rest.0, ap (λ z. with_procedures every (after_procedure every s b) (with_next every (Ok done') z) (bs ++ later)) right.1 ∙ rest.1)

pub procedures_left_out : ProceduresMayBeLeftOut
unfolding found_description judged_description
procedures_left_out types before p later (qs, e) apart =
    let left = p.name.name ∷ [] in
    let r = length before in
    let s0 : SoFar every = record { names = []; right = Ok tt } in
    let s = with_types every s0 types in
    let h = both-ok (λ p. p.1) s.right (with_procedures every (record { names = s.names; procedures = [] }) (Ok []) (before ++ p ∷ later)) qs e in
    let f = types_follow (less_one r) left s0 s0 types h.2 (record { kept = λ n m out is. none_found n m is; free = λ n is. is }, refl) in
    let once : Once s.names = (types_tie s0 types h.2).1.once once-none in
    let stays = procedure_left_out r (record { names = s.names; procedures = [] }) (Ok []) [] before p later h.1 once f.0 (omega arith)
    (unused left (flat_map names_used later) apart) h.3 in
    (stays.0, described_by s.right (with_procedures every (record { names = s.names; procedures = [] }) (Ok []) (before ++ later)) stays.0 h.2 stays.1)
