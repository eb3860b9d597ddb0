-- What the names mean that are visible in a procedure: what is declared under them, at its place.
use Rattle.std.proofs.Common.{◌≡◌, ℕ, suc, List, [], ◌∷◌, ◌++◌, length, true, false, Bool, Option, Some, None, is_some, nat_eq, slice_get, if◌then◌else◌, inl, inr, refl, ap, sym, subst, ◌∙◌, append_assoc}
use Rattle.std.specs.Option.{option_or}
use Rattle.std.specs.Cmp.Lexicographic.{pointwise, bytes_decides}
use Rattle.value.specs.Word.{Word}
use Rattle.types.specs.Declarations.{width_or_one, enumeration_width, one_port, one_local, SoFar, with_name, with_elements, with_definition, with_types, Declared, with_one, with_ports, with_locals, all_ports, all_locals, port_kind, local_kind}
use Rattle.types.specs.Expressions.{declared_width}
use Rattle.types.specs.Findings.{every}
use Rattle.types.specs.Names.{VisibleNames, look_up, declared, port_meaning, local_meaning}
use Rattle.types.specs.Parts.{Name}
use Rattle.types.specs.SameTree.{IsElement, IsVariable}
use Rattle.types.specs.declared.scope.Meaning.{Meaning}
use Rattle.types.specs.declared.scope.Meaning.TheVariants as meaning
use Rattle.types.specs.declared.tree.Local.{Local}
use Rattle.types.specs.declared.tree.LocalKind.{LocalKind}
use Rattle.types.specs.declared.tree.LocalKind.TheVariants as local
use Rattle.types.specs.declared.tree.Port.{Port}
use Rattle.types.specs.declared.tree.PortKind.{PortKind}
use Rattle.types.specs.declared.tree.PortKind.TheVariants as port
use Rattle.types.specs.declared.tree.Procedure.{Procedure}
use Rattle.syntax.specs.Lists.{In}
use Rattle.syntax.specs.declared.declaration.Local as tree_local
use Rattle.syntax.specs.declared.declaration.Port as tree_port
use Rattle.syntax.specs.declared.declaration.TypeDeclaration.{TypeDeclaration}
use Rattle.syntax.specs.declared.declaration.TypeDefinition.{TypeDefinition}
use Rattle.syntax.specs.declared.declaration.TypeDefinition.TheVariants.{Bits, Enumeration}
use Rattle.syntax.specs.declared.name.Identifier.{Identifier}
use Rattle.types.proofs.LeavingOut.{slice_get-append, slice_get-last}
use Rattle.types.proofs.Lookups.{look_up-append}

-- ---- what all names mean

abbrev pub AllMean : (Name → Meaning → Type 0) → VisibleNames → Type 0
AllMean P es = (n : Name) (m : Meaning) → look_up es n ≡ Some m → P n m

all_behind : (P : Name → Meaning → Type 0) (es : VisibleNames) (x : Name) (m : Meaning) → AllMean P es → P x m → AllMean P (es ++ (x, m) ∷ [])
all_behind P es x m all one n k is = by (look_up es n) refl
  where
    found : option_or (look_up es n) (look_up ((x, m) ∷ []) n) ≡ Some k
    found = sym (look_up-append es ((x, m) ∷ []) n) ∙ is

    last : (b : Bool) → pointwise nat_eq n x ≡ b → (if b then Some m else None) ≡ Some k → P n k
    last true same e =
        let meant : m ≡ k = cc in
        subst (λ z. P z k) (sym ((bytes_decides n x).0 same)) (subst (P x) meant one)
    last false other e = absurd cc

    by : (o : Option Meaning) → look_up es n ≡ o → P n k
    by (Some j) e = let same : Some j ≡ Some k = rw e at found in all n k (e ∙ same)
    by None e = last (pointwise nat_eq n x) refl (rw e at found)

pub all_declared : (P : Name → Meaning → Type 0) (es : VisibleNames) (x : Name) (m : Meaning) → AllMean P es → P x m → AllMean P (declared es x m)
all_declared P es x m all one =
    elim (is_some (look_up es x)) as (λ b. AllMean P (if b then es else es ++ (x, m) ∷ [])) [ true ↦ all | false ↦ all_behind P es x m all one ]

-- ---- what a name means

abbrev pub PortAt : List Port → Name → ℕ → PortKind → Type 0
PortAt ports n place kind = (q : Port) × (slice_get ports place ≡ Some q) × (q.name ≡ n) × (q.kind ≡ kind)

abbrev pub LocalAt : List Local → Name → ℕ → (LocalKind → Type 0) → Type 0
LocalAt locals n place Is = (l : Local) × (slice_get locals place ≡ Some l) × (l.name ≡ n) × Is l.kind

-- among these types, procedures, ports and locals the name stands for this
abbrev pub StandsFor : List TypeDeclaration → List Procedure → List Port → List Local → Name → Meaning → Type 0
StandsFor types earlier ports locals n (meaning.TypeName w) = Unit {0}
StandsFor types earlier ports locals n (meaning.Element v) = IsElement types n v
StandsFor types earlier ports locals n (meaning.Procedure i) = (q : Procedure) × (slice_get earlier i ≡ Some q) × (q.name ≡ n)
StandsFor types earlier ports locals n (meaning.Input p w) = PortAt ports n p (port.Input w)
StandsFor types earlier ports locals n (meaning.Output p w) = PortAt ports n p (port.Output w)
StandsFor types earlier ports locals n (meaning.SyncPort p) = PortAt ports n p port.Sync
StandsFor types earlier ports locals n (meaning.Variable l w) = LocalAt locals n l (IsVariable w)
StandsFor types earlier ports locals n (meaning.Channel l w) = LocalAt locals n l (λ k. k ≡ local.Channel w)
StandsFor types earlier ports locals n (meaning.Sync l) = LocalAt locals n l (λ k. k ≡ local.Sync)

further : {X : Type 0} (xs : List X) (x : X) (i : ℕ) (y : X) → slice_get xs i ≡ Some y → slice_get (xs ++ x ∷ []) i ≡ Some y
further xs x i y is = slice_get-append (λ p. p) [] xs (x ∷ []) i y is

pub newest : {X : Type 0} (xs : List X) (x : X) → slice_get (xs ++ x ∷ []) (length xs) ≡ Some x
newest xs x = slice_get-last (λ p. p) [] xs x

module _ (types : List TypeDeclaration) (earlier : List Procedure) (ports : List Port) (locals : List Local) where
  -- so it does behind one more procedure, port or local
  pub behind_procedure : (q : Procedure) (n : Name) (m : Meaning) → StandsFor types earlier ports locals n m → StandsFor types (earlier ++ q ∷ []) ports locals n m
  behind_procedure q n (meaning.Procedure i) (r, at, same) = (r, further earlier q i r at, same)
  behind_procedure q n (meaning.TypeName w) s = s
  behind_procedure q n (meaning.Element v) s = s
  behind_procedure q n (meaning.Input p w) s = s
  behind_procedure q n (meaning.Output p w) s = s
  behind_procedure q n (meaning.SyncPort p) s = s
  behind_procedure q n (meaning.Variable l w) s = s
  behind_procedure q n (meaning.Channel l w) s = s
  behind_procedure q n (meaning.Sync l) s = s

  behind_port : (q : Port) (n : Name) (m : Meaning) → StandsFor types earlier ports locals n m → StandsFor types earlier (ports ++ q ∷ []) locals n m
  behind_port q n (meaning.Input p w) (r, at, same, kind) = (r, further ports q p r at, same, kind)
  behind_port q n (meaning.Output p w) (r, at, same, kind) = (r, further ports q p r at, same, kind)
  behind_port q n (meaning.SyncPort p) (r, at, same, kind) = (r, further ports q p r at, same, kind)
  behind_port q n (meaning.Procedure i) s = s
  behind_port q n (meaning.TypeName w) s = s
  behind_port q n (meaning.Element v) s = s
  behind_port q n (meaning.Variable l w) s = s
  behind_port q n (meaning.Channel l w) s = s
  behind_port q n (meaning.Sync l) s = s

  behind_local : (q : Local) (n : Name) (m : Meaning) → StandsFor types earlier ports locals n m → StandsFor types earlier ports (locals ++ q ∷ []) n m
  behind_local q n (meaning.Variable l w) (r, at, same, kind) = (r, further locals q l r at, same, kind)
  behind_local q n (meaning.Channel l w) (r, at, same, kind) = (r, further locals q l r at, same, kind)
  behind_local q n (meaning.Sync l) (r, at, same, kind) = (r, further locals q l r at, same, kind)
  behind_local q n (meaning.Procedure i) s = s
  behind_local q n (meaning.TypeName w) s = s
  behind_local q n (meaning.Element v) s = s
  behind_local q n (meaning.Input p w) s = s
  behind_local q n (meaning.Output p w) s = s
  behind_local q n (meaning.SyncPort p) s = s

  new_port : (kind : PortKind) (x : Identifier) → StandsFor types earlier (ports ++ one_port kind x ∷ []) locals x.name (port_meaning (length ports) kind)
  new_port (port.Input w) x = (one_port (port.Input w) x, newest ports (one_port (port.Input w) x), refl, refl)
  new_port (port.Output w) x = (one_port (port.Output w) x, newest ports (one_port (port.Output w) x), refl, refl)
  new_port port.Sync x = (one_port port.Sync x, newest ports (one_port port.Sync x), refl, refl)

  new_local : (kind : LocalKind) (x : Identifier) → StandsFor types earlier ports (locals ++ one_local kind x ∷ []) x.name (local_meaning (length locals) kind)
  new_local (local.Variable w) x = (one_local (local.Variable w) x, newest locals (one_local (local.Variable w) x), refl, refl)
  new_local (local.SharedVariable w) x = (one_local (local.SharedVariable w) x, newest locals (one_local (local.SharedVariable w) x), refl, refl)
  new_local (local.Channel w) x = (one_local (local.Channel w) x, newest locals (one_local (local.Channel w) x), refl, refl)
  new_local local.Sync x = (one_local local.Sync x, newest locals (one_local local.Sync x), refl, refl)

-- ---- types and their elements

module _ (types : List TypeDeclaration) where
  abbrev pub Outer : VisibleNames → Type 0
  Outer = AllMean (StandsFor types [] [] [])

  elements_stand : (t : TypeDeclaration) (all : List Identifier) → In t types → t.definition ≡ Enumeration all → (front rest : List Identifier) → all ≡ front ++ rest
      → (s : SoFar every) → Outer s.names → Outer (with_elements every (enumeration_width (length all)) (length front) s rest).names
  elements_stand t all among is front [] split s outer = outer
  elements_stand t all among is front (x ∷ rest) split s outer =
      let v : Word = record { bits = length front; width = enumeration_width (length all) } in
      let next = with_name every s x (meaning.Element v) in
      let at : slice_get all (length front) ≡ Some x = ap (λ z. slice_get z (length front)) split ∙ at_seam front x rest in
      let one : IsElement types x.name v = (t, all, x, among, is, at, refl, refl) in
      subst (λ k. Outer (with_elements every (enumeration_width (length all)) k next rest).names) (longer front x)
      (elements_stand t all among is (front ++ x ∷ []) rest (split ∙ sym (append_assoc front (x ∷ []) rest)) next
      (all_declared (StandsFor types [] [] []) s.names x.name (meaning.Element v) outer one))
    where
      at_seam : (xs : List Identifier) (y : Identifier) (ys : List Identifier) → slice_get (xs ++ y ∷ ys) (length xs) ≡ Some y
      at_seam [] y ys = refl
      at_seam (z ∷ xs) y ys = at_seam xs y ys

      longer : (xs : List Identifier) (y : Identifier) → length (xs ++ y ∷ []) ≡ suc (length xs)
      longer [] y = refl
      longer (z ∷ xs) y = ap suc (longer xs y)

  definition_stands : (t : TypeDeclaration) → In t types → (d : TypeDefinition) → t.definition ≡ d → (s : SoFar every) → Outer s.names
      → Outer (with_definition every s t.name d).names
  definition_stands t among (Bits width) is s outer =
      all_declared (StandsFor types [] [] []) s.names t.name.name (meaning.TypeName (width_or_one (declared_width width))) outer tt
  definition_stands t among (Enumeration elements) is s outer =
      let m = meaning.TypeName (enumeration_width (length elements)) in
      elements_stand t elements among is [] elements refl (with_name every s t.name m)
      (all_declared (StandsFor types [] [] []) s.names t.name.name m outer tt)

  pub types_stand : (ts : List TypeDeclaration) → ((t : TypeDeclaration) → In t ts → In t types) → (s : SoFar every) → Outer s.names → Outer (with_types every s ts).names
  types_stand [] within s outer = outer
  types_stand (t ∷ ts) within s outer =
      types_stand ts (λ u at. within u (inr at)) (with_definition every s t.name t.definition)
      (definition_stands t (within t (inl refl)) t.definition refl s outer)

-- ---- ports and locals

module _ (types : List TypeDeclaration) (earlier : List Procedure) where
  ports_stand : (kind : PortKind) (s : Declared every Port) (names : List Identifier) → AllMean (StandsFor types earlier s.made []) s.names
      → AllMean (StandsFor types earlier (with_ports every kind s names).made []) (with_ports every kind s names).names
  ports_stand kind s [] all = all
  ports_stand kind s (x ∷ rest) all =
      let m = port_meaning (length s.made) kind in
      let one = one_port kind x in
      ports_stand kind (with_one every s x m one) rest
      (all_declared (StandsFor types earlier (s.made ++ one ∷ []) []) s.names x.name m
      (λ n k is. behind_port types earlier s.made [] one n k (all n k is)) (new_port types earlier s.made [] kind x))

  pub all_ports_stand : (s : Declared every Port) (ds : List tree_port.Port) → AllMean (StandsFor types earlier s.made []) s.names
      → AllMean (StandsFor types earlier (all_ports every s ds).made []) (all_ports every s ds).names
  all_ports_stand s [] all = all
  all_ports_stand s (d ∷ rest) all =
      let kind = port_kind s.names d.kind in
      all_ports_stand (with_ports every kind s d.names) rest (ports_stand kind s d.names all)

  module _ (ports : List Port) where
    locals_stand : (kind : LocalKind) (s : Declared every Local) (names : List Identifier) → AllMean (StandsFor types earlier ports s.made) s.names
        → AllMean (StandsFor types earlier ports (with_locals every kind s names).made) (with_locals every kind s names).names
    locals_stand kind s [] all = all
    locals_stand kind s (x ∷ rest) all =
        let m = local_meaning (length s.made) kind in
        let one = one_local kind x in
        locals_stand kind (with_one every s x m one) rest
        (all_declared (StandsFor types earlier ports (s.made ++ one ∷ [])) s.names x.name m
        (λ n k is. behind_local types earlier ports s.made one n k (all n k is)) (new_local types earlier ports s.made kind x))

    pub all_locals_stand : (s : Declared every Local) (ds : List tree_local.Local) → AllMean (StandsFor types earlier ports s.made) s.names
        → AllMean (StandsFor types earlier ports (all_locals every s ds).made) (all_locals every s ds).names
    all_locals_stand s [] all = all
    all_locals_stand s (d ∷ rest) all =
        let kind = local_kind s.names d.kind in
        all_locals_stand (with_locals every kind s d.names) rest (locals_stand kind s d.names all)
