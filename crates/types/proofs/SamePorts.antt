-- The ports and locals of a procedure are those that it declares, one by one.
use Rattle.std.proofs.Common.{◌≡◌, List, [], ◌∷◌, ◌++◌, length, map, Ok, refl, sym, subst, append_assoc, append-nil}
use Rattle.types.specs.Declarations.{type_width_or_one, port_kind, local_kind, one_port, one_local, port_type, local_type, Declared, with_one, with_ports, with_locals, all_ports, all_locals}
use Rattle.types.specs.Findings.{every}
use Rattle.types.specs.Names.{VisibleNames, port_meaning, local_meaning}
use Rattle.types.specs.SameTree.{OneByOne, with_kind, SamePortKind, SameLocalKind, SamePort, SameLocal, ports_declared, locals_declared}
use Rattle.types.specs.Visible.{Declaration}
use Rattle.types.specs.declared.tree.Local.{Local}
use Rattle.types.specs.declared.tree.LocalKind.{LocalKind}
use Rattle.types.specs.declared.tree.Port.{Port}
use Rattle.types.specs.declared.tree.PortKind.{PortKind}
use Rattle.syntax.specs.Lists.{Every}
use Rattle.syntax.specs.declared.declaration.Local as tree_local
use Rattle.syntax.specs.declared.declaration.LocalKind as tree_local_kind
use Rattle.syntax.specs.declared.declaration.LocalKind.TheVariants as local_of
use Rattle.syntax.specs.declared.declaration.Port as tree_port
use Rattle.syntax.specs.declared.declaration.PortKind as tree_port_kind
use Rattle.syntax.specs.declared.declaration.PortKind.TheVariants as port_of
use Rattle.syntax.specs.declared.name.Identifier.{Identifier}
use Rattle.types.proofs.CalledPorts.{type_settled}
use Rattle.types.proofs.DeclaredOnce.{Inner, inner-twice, ports_inner, locals_inner}
use Rattle.types.proofs.Lookups.{Once, shown}
use Rattle.types.proofs.TypeWidths.{type_has}

pub one-next : {X Y : Type 0} (R : X → Y → Type 0) (xs : List X) (ys : List Y) (x : X) (y : Y) → OneByOne R xs ys → R x y → OneByOne R (xs ++ x ∷ []) (ys ++ y ∷ [])
one-next R [] [] x y h r = (r, tt)
one-next R [] (b ∷ ys) x y h r = absurd h
one-next R (a ∷ xs) [] x y h r = absurd h
one-next R (a ∷ xs) (b ∷ ys) x y h r = (h.0, one-next R xs ys x y h.1 r)

module _ (outer inner : VisibleNames) (once : Once outer) (between : Inner outer inner) where
  abbrev types : List Declaration
  types = map shown outer

  -- ---- ports

  port_same : (so_far : VisibleNames) → Inner outer so_far → (kind : tree_port_kind.PortKind) → port_type inner kind ≡ Ok tt → SamePortKind types kind (port_kind so_far kind)
  port_same so_far front (port_of.Input type) e = type_has types type (type_width_or_one so_far type) (type_settled outer inner once between so_far front type e)
  port_same so_far front (port_of.Output type) e = type_has types type (type_width_or_one so_far type) (type_settled outer inner once between so_far front type e)
  port_same so_far front port_of.Sync e = tt

  ports_same : (kind : PortKind) (written : tree_port_kind.PortKind) → SamePortKind types written kind → (s : Declared every Port)
      (xs : List (Identifier × tree_port_kind.PortKind)) (names : List Identifier) → OneByOne (SamePort types) xs s.made
      → OneByOne (SamePort types) (xs ++ with_kind written names) (with_ports every kind s names).made
  ports_same kind written same s xs [] h = subst (λ z. OneByOne (SamePort types) z s.made) (sym (append-nil xs)) h
  ports_same kind written same s xs (n ∷ rest) h =
      let next = with_one every s n (port_meaning (length s.made) kind) (one_port kind n) in
      subst (λ z. OneByOne (SamePort types) z (with_ports every kind next rest).made) (append_assoc xs ((n, written) ∷ []) (with_kind written rest))
      (ports_same kind written same next (xs ++ (n, written) ∷ []) rest
      (one-next (SamePort types) xs s.made (n, written) (one_port kind n) h (refl, refl, same)))

  pub all_ports_same : (s : Declared every Port) (xs : List (Identifier × tree_port_kind.PortKind)) (ds : List tree_port.Port) → Inner outer s.names
      → Every (λ (d : tree_port.Port). port_type inner d.kind ≡ Ok tt) ds → OneByOne (SamePort types) xs s.made
      → OneByOne (SamePort types) (xs ++ ports_declared ds) (all_ports every s ds).made
  all_ports_same s xs [] front right h = subst (λ z. OneByOne (SamePort types) z s.made) (sym (append-nil xs)) h
  all_ports_same s xs (d ∷ rest) front right h =
      let kind = port_kind s.names d.kind in
      let next = with_ports every kind s d.names in
      subst (λ z. OneByOne (SamePort types) z (all_ports every next rest).made) (append_assoc xs (with_kind d.kind d.names) (ports_declared rest))
      (all_ports_same next (xs ++ with_kind d.kind d.names) rest (inner-twice outer s.names next.names front (ports_inner kind s d.names)) right.1
      (ports_same kind d.kind (port_same s.names front d.kind right.0) s xs d.names h))

  -- ---- locals

  local_same : (so_far : VisibleNames) → Inner outer so_far → (kind : tree_local_kind.LocalKind) → local_type inner kind ≡ Ok tt → SameLocalKind types kind (local_kind so_far kind)
  local_same so_far front (local_of.Variable type) e = type_has types type (type_width_or_one so_far type) (type_settled outer inner once between so_far front type e)
  local_same so_far front (local_of.SharedVariable type) e = type_has types type (type_width_or_one so_far type) (type_settled outer inner once between so_far front type e)
  local_same so_far front (local_of.Channel type) e = type_has types type (type_width_or_one so_far type) (type_settled outer inner once between so_far front type e)
  local_same so_far front local_of.Sync e = tt

  locals_same : (kind : LocalKind) (written : tree_local_kind.LocalKind) → SameLocalKind types written kind → (s : Declared every Local)
      (xs : List (Identifier × tree_local_kind.LocalKind)) (names : List Identifier) → OneByOne (SameLocal types) xs s.made
      → OneByOne (SameLocal types) (xs ++ with_kind written names) (with_locals every kind s names).made
  locals_same kind written same s xs [] h = subst (λ z. OneByOne (SameLocal types) z s.made) (sym (append-nil xs)) h
  locals_same kind written same s xs (n ∷ rest) h =
      let next = with_one every s n (local_meaning (length s.made) kind) (one_local kind n) in
      subst (λ z. OneByOne (SameLocal types) z (with_locals every kind next rest).made) (append_assoc xs ((n, written) ∷ []) (with_kind written rest))
      (locals_same kind written same next (xs ++ (n, written) ∷ []) rest
      (one-next (SameLocal types) xs s.made (n, written) (one_local kind n) h (refl, refl, same)))

  pub all_locals_same : (s : Declared every Local) (xs : List (Identifier × tree_local_kind.LocalKind)) (ds : List tree_local.Local) → Inner outer s.names
      → Every (λ (d : tree_local.Local). local_type inner d.kind ≡ Ok tt) ds → OneByOne (SameLocal types) xs s.made
      → OneByOne (SameLocal types) (xs ++ locals_declared ds) (all_locals every s ds).made
  all_locals_same s xs [] front right h = subst (λ z. OneByOne (SameLocal types) z s.made) (sym (append-nil xs)) h
  all_locals_same s xs (d ∷ rest) front right h =
      let kind = local_kind s.names d.kind in
      let next = with_locals every kind s d.names in
      subst (λ z. OneByOne (SameLocal types) z (all_locals every next rest).made) (append_assoc xs (with_kind d.kind d.names) (locals_declared rest))
      (all_locals_same next (xs ++ with_kind d.kind d.names) rest (inner-twice outer s.names next.names front (locals_inner kind s d.names)) right.1
      (locals_same kind d.kind (local_same s.names front d.kind right.0) s xs d.names h))
