-- Numbers behind some that are left out, what all of some names mean, and types behind other names.
use Rattle.std.proofs.Common.{◌≡◌, ℕ, suc, ◌+◌, ◌-◌, ◌<◌, ◌≤◌, ◌⊎◌, inl, inr, List, [], ◌∷◌, ◌++◌, length, true, false, Bool, Option, Some, None, is_some, nat_eq, nat_lt, if◌then◌else◌, Ok, refl, ap, sym, subst, ◌∙◌, lt-ltb, le-ltb, eqb-true, eq-eqb, ne_eqb, true≢false, arith}
use Rattle.std.specs.Option.{option_or}
use Rattle.std.specs.Cmp.Lexicographic.{pointwise}
use Rattle.value.specs.Word.{Word}
use Rattle.types.specs.Commands.{Scope}
use Rattle.types.specs.Declarations.{demanded, width_or_one, enumeration_width, type_width_or_one, local_kind, port_kind, local_type, port_type, SoFar, with_name, with_elements, with_definition, with_types, Declared, with_ports, with_locals, all_ports, all_locals, judged_procedure, after_procedure, with_procedures}
use Rattle.types.specs.Expressions.{declared_width, type_width}
use Rattle.types.specs.Findings.{Findings, with_next, every}
use Rattle.types.specs.Names.{VisibleNames, look_up, declared}
use Rattle.types.specs.declared.scope.Meaning.{Meaning}
use Rattle.types.specs.declared.scope.Meaning.TheVariants as meaning
use Rattle.types.specs.declared.tree.Local.{Local}
use Rattle.types.specs.declared.tree.LocalKind.TheVariants as local
use Rattle.types.specs.declared.tree.Port.{Port}
use Rattle.types.specs.declared.tree.PortKind.TheVariants as port
use Rattle.types.specs.declared.tree.Procedure.{Procedure}
use Rattle.syntax.specs.declared.declaration.Local as tree_local
use Rattle.syntax.specs.declared.declaration.LocalKind as tree_local_kind
use Rattle.syntax.specs.declared.declaration.LocalKind.TheVariants as local_of
use Rattle.syntax.specs.declared.declaration.Port as tree_port
use Rattle.syntax.specs.declared.declaration.PortKind as tree_port_kind
use Rattle.syntax.specs.declared.declaration.PortKind.TheVariants as port_of
use Rattle.syntax.specs.declared.declaration.Procedure as tree_procedure
use Rattle.syntax.specs.declared.declaration.TypeDeclaration.{TypeDeclaration}
use Rattle.syntax.specs.declared.declaration.TypeDefinition.{TypeDefinition}
use Rattle.syntax.specs.declared.declaration.TypeDefinition.TheVariants.{Bits, Enumeration}
use Rattle.syntax.specs.declared.expression.TypeName.{TypeName}
use Rattle.syntax.specs.declared.expression.TypeName.TheVariants as type_name
use Rattle.syntax.specs.declared.name.Identifier.{Identifier}
use Rattle.types.proofs.DeclaredOnce.{demanded-ok, Inner, next_right, type_at}
use Rattle.types.proofs.Lookups.{look_up-append}
use Rattle.types.proofs.ExpressionWays.{type_found}

-- ---- numbers

-- those from number r + k on have k less
abbrev pub lower : ℕ → ℕ → ℕ → ℕ
lower r k a = if nat_lt a r then a else a - k

-- one that is not among the k from number r on
abbrev pub Remote : ℕ → ℕ → ℕ → Type 0
Remote r k a = (a < r) ⊎ (r + k ≤ a)

pub lower_low : (r k a : ℕ) → a < r → lower r k a ≡ a
lower_low r k a few = rw (lt-ltb a r few) refl

pub lower_high : (r k a : ℕ) → r + k ≤ a → lower r k a ≡ a - k
lower_high r k a many = let past : r ≤ a = omega (arith, many) in rw (le-ltb a r past) refl

abbrev LoweredBy : ℕ → ℕ → ℕ → ℕ → Type 0
LoweredBy r k a x = ((x ≡ a) × (a < r)) ⊎ ((x ≡ a - k) × (r + k ≤ a))

lowered : (r k a : ℕ) → Remote r k a → LoweredBy r k a (lower r k a)
lowered r k a h = elim h [ inl few ↦ inl (lower_low r k a few, few) | inr many ↦ inr (lower_high r k a many, many) ]

back_up : (r k a b x y : ℕ) → LoweredBy r k a x → LoweredBy r k b y → x ≡ y → a ≡ b
back_up r k a b x y h g e = elim h [
  | inl p ↦ elim g [ inl q ↦ omega (arith, p.0, p.1, q.0, q.1, e) | inr q ↦ omega (arith, p.0, p.1, q.0, q.1, e) ]
  | inr p ↦ elim g [ inl q ↦ omega (arith, p.0, p.1, q.0, q.1, e) | inr q ↦ omega (arith, p.0, p.1, q.0, q.1, e) ]
]

tests_same : (a b c d : ℕ) → (a ≡ b → c ≡ d) → (c ≡ d → a ≡ b) → nat_eq a b ≡ nat_eq c d
tests_same a b c d f g = by (nat_eq a b) refl
  where
    by : (t : Bool) → nat_eq a b ≡ t → nat_eq a b ≡ nat_eq c d
    by true is = is ∙ sym (eq-eqb c d (f (eqb-true a b is)))
    by false is = is ∙ sym (ne_eqb c d (λ e. true≢false (sym (eq-eqb a b (g e)) ∙ is)))

pub lower_apart : (r k a b : ℕ) → Remote r k a → Remote r k b → nat_eq (lower r k a) (lower r k b) ≡ nat_eq a b
lower_apart r k a b x y =
    tests_same (lower r k a) (lower r k b) a b (back_up r k a b (lower r k a) (lower r k b) (lowered r k a x) (lowered r k b y)) (λ e. ap (lower r k) e)

-- ---- what all names mean

abbrev pub Mean : (Meaning → Type 0) → VisibleNames → Type 0
Mean P es = (n : List ℕ) (m : Meaning) → look_up es n ≡ Some m → P m

mean_behind : (P : Meaning → Type 0) (es : VisibleNames) (x : List ℕ) (m : Meaning) → Mean P es → P m → Mean P (es ++ (x, m) ∷ [])
mean_behind P es x m all one n k is = by (look_up es n) refl
  where
    found : option_or (look_up es n) (look_up ((x, m) ∷ []) n) ≡ Some k
    found = sym (look_up-append es ((x, m) ∷ []) n) ∙ is

    last : (b : Bool) → (if b then Some m else None) ≡ Some k → P k
    last true e = let same : m ≡ k = cc in subst P same one
    last false e = absurd cc

    by : (o : Option Meaning) → look_up es n ≡ o → P k
    by (Some j) e = let same : Some j ≡ Some k = rw e at found in all n k (e ∙ same)
    by None e = last (pointwise nat_eq n x) (rw e at found)

pub mean_declared : (P : Meaning → Type 0) (es : VisibleNames) (x : List ℕ) (m : Meaning) → Mean P es → P m → Mean P (declared es x m)
mean_declared P es x m all one =
    elim (is_some (look_up es x)) as (λ b. Mean P (if b then es else es ++ (x, m) ∷ [])) [ true ↦ all | false ↦ mean_behind P es x m all one ]

-- what is declared outside of procedures
module _ (P : Meaning → Type 0) (types : (w : ℕ) → P (meaning.TypeName w)) (elements : (v : Word) → P (meaning.Element v)) where
  elements_mean : (width n : ℕ) (s : SoFar every) (names : List Identifier) → Mean P s.names → Mean P (with_elements every width n s names).names
  elements_mean width n s [] all = all
  elements_mean width n s (x ∷ rest) all =
      let v : Word = record { bits = n; width = width } in
      elements_mean width (suc n) (with_name every s x (meaning.Element v)) rest (mean_declared P s.names x.name (meaning.Element v) all (elements v))

  definition_mean : (s : SoFar every) (name : Identifier) (d : TypeDefinition) → Mean P s.names → Mean P (with_definition every s name d).names
  definition_mean s name (Bits width) all =
      let w = width_or_one (declared_width width) in
      mean_declared P s.names name.name (meaning.TypeName w) all (types w)
  definition_mean s name (Enumeration names) all =
      let w = enumeration_width (length names) in
      elements_mean w 0 (with_name every s name (meaning.TypeName w)) names (mean_declared P s.names name.name (meaning.TypeName w) all (types w))

  pub types_mean : (s : SoFar every) (ts : List TypeDeclaration) → Mean P s.names → Mean P (with_types every s ts).names
  types_mean s [] all = all
  types_mean s (t ∷ rest) all = types_mean (with_definition every s t.name t.definition) rest (definition_mean s t.name t.definition all)

-- ---- a type is the same behind other names that stand behind the same

pub type_alike : (outer inner : VisibleNames) → Inner outer inner → (a b : VisibleNames) → Inner outer a → Inner outer b → (type : TypeName)
    → demanded (type_width inner [] type) ≡ Ok tt → type_width_or_one b type ≡ type_width_or_one a type
type_alike outer inner between a b front front' (type_name.Bits width) e = refl
type_alike outer inner between a b front front' (type_name.Named identifier) e =
    let name = identifier.name in
    let right = demanded-ok (type_width inner [] (type_name.Named identifier)) e in
    let m = meaning.TypeName right.0 in
    let found = between.types name right.0 (type_found inner [] name identifier.span.start right.0 right.1) in
    ap width_or_one (type_at b name identifier.span.start right.0 (front'.stays name m found)
    ∙ sym (type_at a name identifier.span.start right.0 (front.stays name m found)))

pub local_alike : (outer inner : VisibleNames) → Inner outer inner → (a b : VisibleNames) → Inner outer a → Inner outer b → (kind : tree_local_kind.LocalKind)
    → local_type inner kind ≡ Ok tt → local_kind b kind ≡ local_kind a kind
local_alike outer inner between a b front front' (local_of.Variable type) e = ap (λ w. local.Variable w) (type_alike outer inner between a b front front' type e)
local_alike outer inner between a b front front' (local_of.SharedVariable type) e =
    ap (λ w. local.SharedVariable w) (type_alike outer inner between a b front front' type e)
local_alike outer inner between a b front front' (local_of.Channel type) e = ap (λ w. local.Channel w) (type_alike outer inner between a b front front' type e)
local_alike outer inner between a b front front' local_of.Sync e = refl

pub port_alike : (outer inner : VisibleNames) → Inner outer inner → (a b : VisibleNames) → Inner outer a → Inner outer b → (kind : tree_port_kind.PortKind)
    → port_type inner kind ≡ Ok tt → port_kind b kind ≡ port_kind a kind
port_alike outer inner between a b front front' (port_of.Input type) e = ap (λ w. port.Input w) (type_alike outer inner between a b front front' type e)
port_alike outer inner between a b front front' (port_of.Output type) e = ap (λ w. port.Output w) (type_alike outer inner between a b front front' type e)
port_alike outer inner between a b front front' port_of.Sync e = refl

-- ---- declarations one after another

pub all_locals-append : (s : Declared every Local) (xs ys : List tree_local.Local) → all_locals every s (xs ++ ys) ≡ all_locals every (all_locals every s xs) ys
all_locals-append s [] ys = refl
all_locals-append s (x ∷ xs) ys = all_locals-append (with_locals every (local_kind s.names x.kind) s x.names) xs ys

pub all_ports-append : (s : Declared every Port) (xs ys : List tree_port.Port) → all_ports every s (xs ++ ys) ≡ all_ports every (all_ports every s xs) ys
all_ports-append s [] ys = refl
all_ports-append s (x ∷ xs) ys = all_ports-append (with_ports every (port_kind s.names x.kind) s x.names) xs ys

-- procedures are right behind any others
pub again : (scope : Scope) (done : Findings every (List Procedure)) (done' : List Procedure) (ps : List tree_procedure.Procedure) (qs : List Procedure)
    → with_procedures every scope done ps ≡ Ok qs → (rs : List Procedure) × (with_procedures every scope (Ok done') ps ≡ Ok rs)
again scope done done' [] qs e = (done', refl)
again scope done done' (p ∷ ps) qs e =
    let h = next_right scope done p ps qs e in
    let rest = again (after_procedure every scope p) (with_next every done (judged_procedure every scope p)) (done' ++ h.0 ∷ []) ps qs e in
    (rest.0, ap (λ z. with_procedures every (after_procedure every scope p) (with_next every (Ok done') z) ps) h.1 ∙ rest.1)
