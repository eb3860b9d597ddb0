-- What is visible in a procedure of an accepted description is declared once, in the order of the source.
use Rattle.std.proofs.Common.{◌≡◌, ℕ, suc, ◌-◌, List, [], ◌∷◌, ◌++◌, length, map, flat_map, true, false, Bool, Option, Some, None, is_some, if◌then◌else◌, nat_eq, Result, Ok, Err, refl, ap, sym, subst, ◌∙◌, append_assoc, append-nil}
use Rattle.std.proofs.lemmas.List.{map-append}
use Rattle.std.specs.Option.{option_or}
use Rattle.std.specs.Cmp.Lexicographic.{pointwise}
use Rattle.types.specs.Commands.{Scope, judged_command}
use Rattle.types.specs.Declarations.{demanded, width_or_one, enumeration_width, type_width_or_one, port_kind, local_kind, one_port, one_local, port_type, local_type, SoFar, with_name, with_elements, with_definition, with_types, Declared, with_one, with_ports, with_locals, all_ports, all_locals, behind, port_types, local_types, ports_of, locals_of, scope_inside, types_right, declarations_right, judged_procedure, after_procedure, with_procedures, types_of, judged_description, found_description}
use Rattle.types.specs.Expressions.{declared_width, type_width}
use Rattle.types.specs.Findings.{Verdict, Findings, becomes, both, and, with_next, and_all, one_fault, every}
use Rattle.types.specs.Names.{VisibleNames, look_up, find, declared, is_fresh, port_meaning, local_meaning}
use Rattle.types.specs.Uses.{type_use}
use Rattle.types.specs.Visible.{Declaration, in_range, type_widths, of_definition, of_procedure, port_widths, local_widths, valued_names}
use Rattle.types.specs.declared.scope.Meaning.{Meaning}
use Rattle.types.specs.declared.scope.Meaning.TheVariants as meaning
use Rattle.types.specs.declared.tree.Command as typed_command
use Rattle.types.specs.declared.tree.Local.{Local}
use Rattle.types.specs.declared.tree.LocalKind.{LocalKind}
use Rattle.types.specs.declared.tree.LocalKind.TheVariants as local
use Rattle.types.specs.declared.tree.Port.{Port}
use Rattle.types.specs.declared.tree.PortKind.{PortKind}
use Rattle.types.specs.declared.tree.PortKind.TheVariants as port
use Rattle.types.specs.declared.tree.Procedure.{Procedure}
use Rattle.syntax.specs.Lists.{Every}
use Rattle.syntax.specs.declared.declaration.Description.{Description}
use Rattle.syntax.specs.declared.declaration.Local as tree_local
use Rattle.syntax.specs.declared.declaration.LocalKind as tree_local_kind
use Rattle.syntax.specs.declared.declaration.LocalKind.TheVariants as local_of
use Rattle.syntax.specs.declared.declaration.Port as tree_port
use Rattle.syntax.specs.declared.declaration.PortKind as tree_port_kind
use Rattle.syntax.specs.declared.declaration.PortKind.TheVariants as port_of
use Rattle.syntax.specs.declared.declaration.Procedure as tree_procedure
use Rattle.syntax.specs.declared.declaration.TypeDeclaration.{TypeDeclaration}
use Rattle.syntax.specs.declared.declaration.TypeDefinition.{TypeDefinition}
use Rattle.syntax.specs.declared.declaration.TypeDefinition.TheVariants.{Bits, Enumeration}
use Rattle.syntax.specs.declared.expression.TypeName.{TypeName}
use Rattle.syntax.specs.declared.expression.TypeName.TheVariants as type_name
use Rattle.syntax.specs.declared.name.Identifier.{Identifier}
use Rattle.types.proofs.ExpressionWays.{declared-range, type_found}
use Rattle.types.proofs.Lookups.{Once, once-none, once-more, look_up-append, lone_answers, shown}

-- ---- what is right has right parts

pub alone-ok : {A : Type 0} (v : Verdict A) (a : A) → one_fault v ≡ Ok a → v ≡ Ok a
alone-ok (Ok b) a e = let same : b ≡ a = cc in ap (λ x. Ok x) same
alone-ok (Err f) a e = absurd cc

pub both-ok : {A B C : Type 0} (f : A × B → C) (x : Findings every A) (y : Findings every B) (c : C) → becomes f (both every x y) ≡ Ok c
    → (a : A) × (b : B) × (x ≡ Ok a) × (y ≡ Ok b) × (f (a, b) ≡ c)
both-ok f (Ok a) (Ok b) c e = (a, b, refl, refl, cc)
both-ok f (Ok a) (Err fs) c e = absurd cc
both-ok f (Err fs) (Ok b) c e = absurd cc
both-ok f (Err fs) (Err gs) c e = absurd cc

pub and-ok : (a b : Findings every (Unit {0})) → and every a b ≡ Ok tt → (a ≡ Ok tt) × (b ≡ Ok tt)
and-ok a b e = let h = both-ok (λ _. tt) a b tt e in (h.2, h.3)

pub and_all-ok : (first : Findings every (Unit {0})) (vs : List (Verdict (Unit {0}))) → and_all every first vs ≡ Ok tt
    → (first ≡ Ok tt) × Every (λ v. v ≡ Ok tt) vs
and_all-ok first [] e = (e, tt)
and_all-ok first (v ∷ vs) e =
    let rest = and_all-ok (and every first (one_fault v)) vs e in
    let here = and-ok first (one_fault v) rest.0 in
    (here.0, (alone-ok v tt here.1, rest.1))

every-map : {X Y : Type 0} (P : Y → Type 0) (f : X → Y) (xs : List X) → Every P (map f xs) → Every (λ x. P (f x)) xs
every-map P f [] h = tt
every-map P f (x ∷ xs) h = (h.0, every-map P f xs h.1)

pub demanded-ok : (v : Verdict ℕ) → demanded v ≡ Ok tt → (w : ℕ) × (v ≡ Ok w)
demanded-ok (Ok w) e = (w, refl)
demanded-ok (Err f) e = absurd cc

pub fresh-ok : (es : VisibleNames) (n : List ℕ) (offset : ℕ) → one_fault (is_fresh es n offset) ≡ Ok tt → look_up es n ≡ None
fresh-ok es n offset e = by (look_up es n) refl
  where
    by : (o : Option Meaning) → look_up es n ≡ o → look_up es n ≡ None
    by None is = is
    by (Some m) is = let h = rw is at e in absurd cc

-- ---- names behind names

-- the second names are the first ones and these declarations behind them, each name once
pub record Ties (old new : VisibleNames) (added : List Declaration) : Type 0 where
  pub once : Once old → Once new
  pub seen : map shown new ≡ map shown old ++ added

ties-none : (es : VisibleNames) → Ties es es []
ties-none es = record { once = λ once. once; seen = sym (append-nil (map shown es)) }

ties-twice : (a b c : VisibleNames) (xs ys : List Declaration) → Ties a b xs → Ties b c ys → Ties a c (xs ++ ys)
ties-twice a b c xs ys f g = record { once = λ once. g.once (f.once once); seen = g.seen ∙ ap (λ z. z ++ ys) f.seen ∙ append_assoc (map shown a) xs ys }

pub ties-name : (es : VisibleNames) (n : List ℕ) (m : Meaning) → look_up es n ≡ None → Ties es (declared es n m) (shown (n, m) ∷ [])
ties-name es n m fresh =
    let is : declared es n m ≡ es ++ (n, m) ∷ [] = rw fresh refl in
    subst (λ new. Ties es new (shown (n, m) ∷ [])) (sym is)
    (record { once = λ once. once-more es n m once fresh; seen = map-append shown es ((n, m) ∷ []) })

-- the second names mean what the first ones mean, and have no further types
pub record Inner (old new : VisibleNames) : Type 0 where
  pub types : (n : List ℕ) (w : ℕ) → look_up new n ≡ Some (meaning.TypeName w) → look_up old n ≡ Some (meaning.TypeName w)
  pub stays : (n : List ℕ) (m : Meaning) → look_up old n ≡ Some m → look_up new n ≡ Some m

pub inner-none : (es : VisibleNames) → Inner es es
inner-none es = record { types = λ n w is. is; stays = λ n m is. is }

pub inner-twice : (a b c : VisibleNames) → Inner a b → Inner b c → Inner a c
inner-twice a b c f g = record { types = λ n w is. f.types n w (g.types n w is); stays = λ n m is. g.stays n m (f.stays n m is) }

no_type_behind : (es : VisibleNames) (x : List ℕ) (m : Meaning) → ((w : ℕ) → m ≡ meaning.TypeName w → ⊥) → (n : List ℕ) (w : ℕ)
    → look_up (es ++ (x, m) ∷ []) n ≡ Some (meaning.TypeName w) → look_up es n ≡ Some (meaning.TypeName w)
no_type_behind es x m never n w is = by (look_up es n) refl
  where
    found : option_or (look_up es n) (look_up ((x, m) ∷ []) n) ≡ Some (meaning.TypeName w)
    found = sym (look_up-append es ((x, m) ∷ []) n) ∙ is

    new : (b : Bool) → (if b then Some m else None) ≡ Some (meaning.TypeName w) → ⊥
    new true e = let same : m ≡ meaning.TypeName w = cc in never w same
    new false e = cc

    by : (o : Option Meaning) → look_up es n ≡ o → look_up es n ≡ Some (meaning.TypeName w)
    by (Some k) e = e ∙ (rw e at found)
    by None e = absurd (new (pointwise nat_eq n x) (rw e at found))

pub inner-name : (es : VisibleNames) (x : List ℕ) (m : Meaning) → ((w : ℕ) → m ≡ meaning.TypeName w → ⊥) → Inner es (declared es x m)
inner-name es x m never =
    elim (is_some (look_up es x)) as (λ b. Inner es (if b then es else es ++ (x, m) ∷ [])) [
      | true ↦ inner-none es
      | false ↦ record {
        types = no_type_behind es x m never;
        stays = λ n k is. look_up-append es ((x, m) ∷ []) n ∙ ap (λ o. option_or o (look_up ((x, m) ∷ []) n)) is;
      }
    ]

-- ---- types

pub name_ties : (s : SoFar every) (name : Identifier) (m : Meaning) → (with_name every s name m).right ≡ Ok tt
    → (s.right ≡ Ok tt) × Ties s.names (with_name every s name m).names (shown (name.name, m) ∷ [])
name_ties s name m e =
    let h = and-ok s.right (one_fault (is_fresh s.names name.name name.span.start)) e in
    (h.0, ties-name s.names name.name m (fresh-ok s.names name.name name.span.start h.1))

pub elements_tie : (width n : ℕ) (s : SoFar every) (elements : List Identifier) → (with_elements every width n s elements).right ≡ Ok tt
    → (s.right ≡ Ok tt) × Ties s.names (with_elements every width n s elements).names (valued_names (width ∷ []) elements)
elements_tie width n s [] e = (e, ties-none s.names)
elements_tie width n s (x ∷ rest) e =
    let next = with_name every s x (meaning.Element (record { bits = n; width = width })) in
    let more = elements_tie width (suc n) next rest e in
    let one = name_ties s x (meaning.Element (record { bits = n; width = width })) more.0 in
    (one.0, ties-twice s.names next.names (with_elements every width (suc n) next rest).names _ _ one.1 more.1)

pub definition_ties : (s : SoFar every) (name : Identifier) (d : TypeDefinition) → (with_definition every s name d).right ≡ Ok tt
    → (s.right ≡ Ok tt) × Ties s.names (with_definition every s name d).names (of_definition name.name d)
definition_ties s name (Bits width) e =
    let m = meaning.TypeName (width_or_one (declared_width width)) in
    let h = and-ok (with_name every s name m).right (one_fault (demanded (declared_width width))) e in
    let right = demanded-ok (declared_width width) (alone-ok (demanded (declared_width width)) tt h.1) in
    let one = name_ties s name m h.0 in
    let widths : width_or_one (declared_width width) ∷ [] ≡ in_range width.bits =
    ap (λ (v : Verdict ℕ). width_or_one v ∷ []) right.1 ∙ sym (declared-range width right.0 right.1) in
    (one.0, subst (λ ws. Ties s.names (with_name every s name m).names (record { name = name.name; as_type = ws; as_value = [] } ∷ [])) widths one.1)
definition_ties s name (Enumeration elements) e =
    let width = enumeration_width (length elements) in
    let next = with_name every s name (meaning.TypeName width) in
    let more = elements_tie width 0 next elements e in
    let one = name_ties s name (meaning.TypeName width) more.0 in
    (one.0, ties-twice s.names next.names (with_elements every width 0 next elements).names _ _ one.1 more.1)

pub types_tie : (s : SoFar every) (ts : List TypeDeclaration) → (with_types every s ts).right ≡ Ok tt
    → (s.right ≡ Ok tt) × Ties s.names (with_types every s ts).names (flat_map (λ (t : TypeDeclaration). of_definition t.name.name t.definition) ts)
types_tie s [] e = (e, ties-none s.names)
types_tie s (t ∷ rest) e =
    let next = with_definition every s t.name t.definition in
    let more = types_tie next rest e in
    let one = definition_ties s t.name t.definition more.0 in
    (one.0, ties-twice s.names next.names (with_types every next rest).names _ _ one.1 more.1)

-- ---- ports and locals

one_ties : {A : Type 0} (s : Declared every A) (name : Identifier) (m : Meaning) (one : A) → (with_one every s name m one).right ≡ Ok tt
    → (s.right ≡ Ok tt) × Ties s.names (with_one every s name m one).names (shown (name.name, m) ∷ [])
one_ties s name m one e =
    let h = and-ok s.right (one_fault (is_fresh s.names name.name name.span.start)) e in
    (h.0, ties-name s.names name.name m (fresh-ok s.names name.name name.span.start h.1))

abbrev port_ways : PortKind → List ℕ
port_ways (port.Input w) = w ∷ []
port_ways (port.Output w) = w ∷ []
port_ways port.Sync = []

abbrev local_ways : LocalKind → List ℕ
local_ways (local.Variable w) = w ∷ []
local_ways (local.SharedVariable w) = w ∷ []
local_ways (local.Channel w) = w ∷ []
local_ways local.Sync = []

port_shown : (p : ℕ) (kind : PortKind) (n : List ℕ) → shown (n, port_meaning p kind) ≡ record { name = n; as_type = []; as_value = port_ways kind }
port_shown p (port.Input w) n = refl
port_shown p (port.Output w) n = refl
port_shown p port.Sync n = refl

local_shown : (l : ℕ) (kind : LocalKind) (n : List ℕ) → shown (n, local_meaning l kind) ≡ record { name = n; as_type = []; as_value = local_ways kind }
local_shown l (local.Variable w) n = refl
local_shown l (local.SharedVariable w) n = refl
local_shown l (local.Channel w) n = refl
local_shown l local.Sync n = refl

port_no_type : (p : ℕ) (kind : PortKind) (w : ℕ) → port_meaning p kind ≡ meaning.TypeName w → ⊥
port_no_type p (port.Input v) w e = cc
port_no_type p (port.Output v) w e = cc
port_no_type p port.Sync w e = cc

local_no_type : (l : ℕ) (kind : LocalKind) (w : ℕ) → local_meaning l kind ≡ meaning.TypeName w → ⊥
local_no_type l (local.Variable v) w e = cc
local_no_type l (local.SharedVariable v) w e = cc
local_no_type l (local.Channel v) w e = cc
local_no_type l local.Sync w e = cc

pub ports_tie : (kind : PortKind) (s : Declared every Port) (names : List Identifier) → (with_ports every kind s names).right ≡ Ok tt
    → (s.right ≡ Ok tt) × Ties s.names (with_ports every kind s names).names (valued_names (port_ways kind) names)
ports_tie kind s [] e = (e, ties-none s.names)
ports_tie kind s (n ∷ rest) e =
    let next = with_one every s n (port_meaning (length s.made) kind) (one_port kind n) in
    let more = ports_tie kind next rest e in
    let one = one_ties s n (port_meaning (length s.made) kind) (one_port kind n) more.0 in (
      one.0,
      ties-twice s.names next.names (with_ports every kind next rest).names _ _
          (subst (λ d. Ties s.names next.names (d ∷ [])) (port_shown (length s.made) kind n.name) one.1) more.1,
    )

pub locals_tie : (kind : LocalKind) (s : Declared every Local) (names : List Identifier) → (with_locals every kind s names).right ≡ Ok tt
    → (s.right ≡ Ok tt) × Ties s.names (with_locals every kind s names).names (valued_names (local_ways kind) names)
locals_tie kind s [] e = (e, ties-none s.names)
locals_tie kind s (n ∷ rest) e =
    let next = with_one every s n (local_meaning (length s.made) kind) (one_local kind n) in
    let more = locals_tie kind next rest e in
    let one = one_ties s n (local_meaning (length s.made) kind) (one_local kind n) more.0 in (
      one.0,
      ties-twice s.names next.names (with_locals every kind next rest).names _ _
          (subst (λ d. Ties s.names next.names (d ∷ [])) (local_shown (length s.made) kind n.name) one.1) more.1,
    )

pub ports_inner : (kind : PortKind) (s : Declared every Port) (names : List Identifier) → Inner s.names (with_ports every kind s names).names
ports_inner kind s [] = inner-none s.names
ports_inner kind s (n ∷ rest) =
    let next = with_one every s n (port_meaning (length s.made) kind) (one_port kind n) in
    inner-twice s.names next.names (with_ports every kind next rest).names
    (inner-name s.names n.name (port_meaning (length s.made) kind) (port_no_type (length s.made) kind)) (ports_inner kind next rest)

pub locals_inner : (kind : LocalKind) (s : Declared every Local) (names : List Identifier) → Inner s.names (with_locals every kind s names).names
locals_inner kind s [] = inner-none s.names
locals_inner kind s (n ∷ rest) =
    let next = with_one every s n (local_meaning (length s.made) kind) (one_local kind n) in
    inner-twice s.names next.names (with_locals every kind next rest).names
    (inner-name s.names n.name (local_meaning (length s.made) kind) (local_no_type (length s.made) kind)) (locals_inner kind next rest)

pub all_ports_inner : (s : Declared every Port) (ds : List tree_port.Port) → Inner s.names (all_ports every s ds).names
all_ports_inner s [] = inner-none s.names
all_ports_inner s (d ∷ rest) =
    let next = with_ports every (port_kind s.names d.kind) s d.names in
    inner-twice s.names next.names (all_ports every next rest).names (ports_inner (port_kind s.names d.kind) s d.names) (all_ports_inner next rest)

pub all_locals_inner : (s : Declared every Local) (ds : List tree_local.Local) → Inner s.names (all_locals every s ds).names
all_locals_inner s [] = inner-none s.names
all_locals_inner s (d ∷ rest) =
    let next = with_locals every (local_kind s.names d.kind) s d.names in
    inner-twice s.names next.names (all_locals every next rest).names (locals_inner (local_kind s.names d.kind) s d.names) (all_locals_inner next rest)

-- a type that is found
pub type_at : (es : VisibleNames) (n : List ℕ) (offset w : ℕ) → look_up es n ≡ Some (meaning.TypeName w) → type_use (find es [] n) offset ≡ Ok w
unfolding find type_use
type_at es n offset w is = rw is refl

-- A type that is right where all names of a procedure are visible has one width: the one that is taken for it where some are
-- visible.
module _ (outer inner : VisibleNames) (once : Once outer) (between : Inner outer inner) where
  type_way : (so_far : VisibleNames) → Inner outer so_far → (type : TypeName) → demanded (type_width inner [] type) ≡ Ok tt
      → type_width_or_one so_far type ∷ [] ≡ type_widths (map shown outer) type
  type_way so_far front (type_name.Named identifier) e =
      let right = demanded-ok (type_width inner [] (type_name.Named identifier)) e in
      let name = identifier.name in
      let found : look_up outer name ≡ Some (meaning.TypeName right.0) =
      between.types name right.0 (type_found inner [] name identifier.span.start right.0 right.1) in
      ap (λ (v : Verdict ℕ). width_or_one v ∷ []) (type_at so_far name identifier.span.start right.0 (front.stays name (meaning.TypeName right.0) found))
      ∙ sym (lone_answers name (meaning.TypeName right.0) outer (once name (meaning.TypeName right.0) found) (λ d. d.as_type))
  type_way so_far front (type_name.Bits width) e =
      let right = demanded-ok (declared_width width) e in
      ap (λ (v : Verdict ℕ). width_or_one v ∷ []) right.1 ∙ sym (declared-range width right.0 right.1)

  port_way : (so_far : VisibleNames) → Inner outer so_far → (kind : tree_port_kind.PortKind) → port_type inner kind ≡ Ok tt
      → port_ways (port_kind so_far kind) ≡ port_widths (map shown outer) kind
  port_way so_far front (port_of.Input type) e = type_way so_far front type e
  port_way so_far front (port_of.Output type) e = type_way so_far front type e
  port_way so_far front port_of.Sync e = refl

  local_way : (so_far : VisibleNames) → Inner outer so_far → (kind : tree_local_kind.LocalKind) → local_type inner kind ≡ Ok tt
      → local_ways (local_kind so_far kind) ≡ local_widths (map shown outer) kind
  local_way so_far front (local_of.Variable type) e = type_way so_far front type e
  local_way so_far front (local_of.SharedVariable type) e = type_way so_far front type e
  local_way so_far front (local_of.Channel type) e = type_way so_far front type e
  local_way so_far front local_of.Sync e = refl

  all_ports_tie : (s : Declared every Port) (ds : List tree_port.Port) → Inner outer s.names → Every (λ (d : tree_port.Port). port_type inner d.kind ≡ Ok tt) ds
      → (all_ports every s ds).right ≡ Ok tt
      → (s.right ≡ Ok tt) × Ties s.names (all_ports every s ds).names
      (flat_map (λ (d : tree_port.Port). valued_names (port_widths (map shown outer) d.kind) d.names) ds)
  all_ports_tie s [] front right e = (e, ties-none s.names)
  all_ports_tie s (d ∷ rest) front right e =
      let kind = port_kind s.names d.kind in
      let next = with_ports every kind s d.names in
      let more = all_ports_tie next rest (inner-twice outer s.names next.names front (ports_inner kind s d.names)) right.1 e in
      let one = ports_tie kind s d.names more.0 in (
        one.0,
        ties-twice s.names next.names (all_ports every next rest).names _ _
            (subst (λ ws. Ties s.names next.names (valued_names ws d.names)) (port_way s.names front d.kind right.0) one.1) more.1,
      )

  all_locals_tie : (s : Declared every Local) (ds : List tree_local.Local) → Inner outer s.names → Every (λ (d : tree_local.Local). local_type inner d.kind ≡ Ok tt) ds
      → (all_locals every s ds).right ≡ Ok tt
      → (s.right ≡ Ok tt) × Ties s.names (all_locals every s ds).names
      (flat_map (λ (d : tree_local.Local). valued_names (local_widths (map shown outer) d.kind) d.names) ds)
  all_locals_tie s [] front right e = (e, ties-none s.names)
  all_locals_tie s (d ∷ rest) front right e =
      let kind = local_kind s.names d.kind in
      let next = with_locals every kind s d.names in
      let more = all_locals_tie next rest (inner-twice outer s.names next.names front (locals_inner kind s d.names)) right.1 e in
      let one = locals_tie kind s d.names more.0 in (
        one.0,
        ties-twice s.names next.names (all_locals every next rest).names _ _
            (subst (λ ws. Ties s.names next.names (valued_names ws d.names)) (local_way s.names front d.kind right.0) one.1) more.1,
      )

-- ---- procedures

-- what is known of a procedure whose declarations are right
pub record Sound (scope : Scope) (p : tree_procedure.Procedure) : Type 0 where
  pub fresh : look_up scope.names p.name.name ≡ None
  pub once : Once (scope_inside every scope p).names
  pub seen :
      map shown (scope_inside every scope p).names
      ≡ map shown scope.names
      ++ (flat_map (λ (d : tree_port.Port). valued_names (port_widths (map shown scope.names) d.kind) d.names) p.ports
      ++ flat_map (λ (d : tree_local.Local). valued_names (local_widths (map shown scope.names) d.kind) d.names) p.locals)
  pub ports_right : (ports_of every scope.names p).right ≡ Ok tt
  pub locals_right : (locals_of every scope.names p).right ≡ Ok tt
  pub ports : Every (λ (d : tree_port.Port). port_type (scope_inside every scope p).names d.kind ≡ Ok tt) p.ports
  pub locals : Every (λ (d : tree_local.Local). local_type (scope_inside every scope p).names d.kind ≡ Ok tt) p.locals

pub sound : (scope : Scope) (p : tree_procedure.Procedure) → Once scope.names → declarations_right every scope p ≡ Ok tt → Sound scope p
unfolding declarations_right
sound scope p once e =
    let ports = ports_of every scope.names p in
    let locals = locals_of every scope.names p in
    let named = and-ok (one_fault (is_fresh scope.names p.name.name p.name.span.start)) _ e in
    let inside = and-ok (and every ports.right locals.right) (types_right every locals.names p) named.1 in
    let made = and-ok ports.right locals.right inside.0 in
    let types = and-ok (port_types every locals.names p.ports) (local_types every locals.names p.locals) inside.1 in
    let port_kinds = every-map (λ (v : Verdict (Unit {0})). v ≡ Ok tt) (λ (d : tree_port.Port). port_type locals.names d.kind) p.ports (and_all-ok (Ok tt) _ types.0).1 in
    let local_kinds = every-map (λ (v : Verdict (Unit {0})). v ≡ Ok tt) (λ (d : tree_local.Local). local_type locals.names d.kind) p.locals (and_all-ok (Ok tt) _ types.1).1 in
    let to_ports = all_ports_inner (behind every scope.names) p.ports in
    let between = inner-twice scope.names ports.names locals.names to_ports (all_locals_inner (behind every ports.names) p.locals) in
    let tied = ties-twice scope.names ports.names locals.names _ _
    (all_ports_tie scope.names locals.names once between (behind every scope.names) p.ports (inner-none scope.names) port_kinds made.0).1
    (all_locals_tie scope.names locals.names once between (behind every ports.names) p.locals to_ports local_kinds made.1).1 in
    record {
      fresh = fresh-ok scope.names p.name.name p.name.span.start named.0;
      once = tied.once once;
      seen = tied.seen;
      ports_right = made.0;
      locals_right = made.1;
      ports = port_kinds;
      locals = local_kinds;
    }

-- a procedure that is right
pub record Judged (scope : Scope) (p : tree_procedure.Procedure) : Type 0 where
  pub body : typed_command.Command
  pub declarations : declarations_right every scope p ≡ Ok tt
  pub command : judged_command every p.body (scope_inside every scope p) [] ≡ Ok body

judged : (scope : Scope) (p : tree_procedure.Procedure) (q : Procedure) → judged_procedure every scope p ≡ Ok q → Judged scope p
unfolding judged_procedure
judged scope p q e =
    let h = both-ok _ (declarations_right every scope p) (judged_command every p.body (scope_inside every scope p) []) q e in
    record { body = h.1; declarations = h.2; command = h.3 }

-- where all procedures are right, those before are
pub done-ok : (scope : Scope) (done : Findings every (List Procedure)) (ps : List tree_procedure.Procedure) (qs : List Procedure)
    → with_procedures every scope done ps ≡ Ok qs → (before : List Procedure) × (done ≡ Ok before)
done-ok scope done [] qs e = (qs, e)
done-ok scope done (p ∷ ps) qs e =
    let next = done-ok (after_procedure every scope p) (with_next every done (judged_procedure every scope p)) ps qs e in
    let h = both-ok _ done (judged_procedure every scope p) next.0 next.1 in
    (h.0, h.2)

-- the next one is right
pub next_right : (scope : Scope) (done : Findings every (List Procedure)) (p : tree_procedure.Procedure) (ps : List tree_procedure.Procedure) (qs : List Procedure)
    → with_procedures every scope done (p ∷ ps) ≡ Ok qs → (q : Procedure) × (judged_procedure every scope p ≡ Ok q)
next_right scope done p ps qs e =
    let next = done-ok (after_procedure every scope p) (with_next every done (judged_procedure every scope p)) ps qs e in
    let h = both-ok _ done (judged_procedure every scope p) next.0 next.1 in
    (h.1, h.3)

pub next_judged : (scope : Scope) (done : Findings every (List Procedure)) (p : tree_procedure.Procedure) (ps : List tree_procedure.Procedure) (qs : List Procedure)
    → with_procedures every scope done (p ∷ ps) ≡ Ok qs → Judged scope p
next_judged scope done p ps qs e = let h = next_right scope done p ps qs e in judged scope p h.0 h.1

-- a procedure behind others
pub record Standing (outer : VisibleNames) (before : List tree_procedure.Procedure) (p : tree_procedure.Procedure) : Type 0 where
  pub scope : Scope
  pub judged : Judged scope p
  pub once : Once scope.names
  pub seen : map shown scope.names ≡ map shown outer ++ map of_procedure before

pub standing : (scope : Scope) (done : Findings every (List Procedure)) (before : List tree_procedure.Procedure) (p : tree_procedure.Procedure)
    (later : List tree_procedure.Procedure) (qs : List Procedure) → Once scope.names → with_procedures every scope done (before ++ p ∷ later) ≡ Ok qs
    → Standing scope.names before p
standing scope done [] p later qs once e =
    record { scope = scope; judged = next_judged scope done p later qs e; once = once; seen = sym (append-nil (map shown scope.names)) }
standing scope done (b ∷ bs) p later qs once e =
    let here = next_judged scope done b (bs ++ p ∷ later) qs e in
    let next = after_procedure every scope b in
    let tied = ties-name scope.names b.name.name (meaning.Procedure (length scope.procedures)) (sound scope b once here.declarations).fresh in
    let rest = standing next (with_next every done (judged_procedure every scope b)) bs p later qs (tied.once once) e in
    record {
      scope = rest.scope;
      judged = rest.judged;
      once = rest.once;
      seen = rest.seen ∙ ap (λ z. z ++ map of_procedure bs) tied.seen ∙ append_assoc (map shown scope.names) (of_procedure b ∷ []) (map of_procedure bs);
    }

-- ---- the whole

-- a procedure of an accepted description, and what is visible outside of it
pub record InAccepted (d : Description) (before : List tree_procedure.Procedure) (p : tree_procedure.Procedure) : Type 0 where
  pub scope : Scope
  pub judged : Judged scope p
  pub once : Once scope.names
  pub seen : map shown scope.names ≡ flat_map (λ (t : TypeDeclaration). of_definition t.name.name t.definition) d.types ++ map of_procedure before

pub in_accepted : (d : Description) (qs : List Procedure) → found_description d ≡ Ok qs → (before : List tree_procedure.Procedure) (p : tree_procedure.Procedure)
    (later : List tree_procedure.Procedure) → d.procedures ≡ before ++ p ∷ later → InAccepted d before p
unfolding found_description judged_description
in_accepted d qs e before p later split =
    let types = types_of every d in
    let scope : Scope = record { names = types.names; procedures = [] } in
    let h = both-ok (λ p. p.1) types.right (with_procedures every scope (Ok []) d.procedures) qs e in
    let tied = (types_tie (record { names = []; right = Ok tt }) d.types h.2).1 in
    let rest = standing scope (Ok []) before p later h.1 (tied.once once-none) (sym (ap (with_procedures every scope (Ok [])) split) ∙ h.3) in
    record {
      scope = rest.scope;
      judged = rest.judged;
      once = rest.once;
      seen = rest.seen ∙ ap (λ z. z ++ map of_procedure before) tied.seen;
    }
