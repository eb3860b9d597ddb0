-- The names that a procedure of an accepted description declares are those of the source, and are distinct.
use Rattle.std.proofs.Common.{◌≡◌, ◌⊎◌, inl, inr, ℕ, List, [], ◌∷◌, ◌++◌, length, map, flat_map, true, false, Bool, Option, Some, None, nat_eq, Result, Ok, Err, refl, ap, ap₂, sym, subst, ◌∙◌, append_assoc, append-nil, true≢false}
use Rattle.std.proofs.lemmas.List.{map-append}
use Rattle.std.specs.Option.{option_or}
use Rattle.std.specs.Cmp.Lexicographic.{pointwise, bytes_decides}
use Rattle.types.specs.Commands.{Scope, judged_command}
use Rattle.types.specs.Declarations.{port_kind, local_kind, one_port, one_local, Declared, with_one, with_ports, with_locals, all_ports, all_locals, behind, ports_of, locals_of, scope_inside, declarations_right, judged_procedure, after_procedure, with_procedures, types_of, judged_description, found_description}
use Rattle.types.specs.Findings.{Findings, both, with_next, every}
use Rattle.types.specs.Laws.{DeclaredNamesAreDistinct, DeclaredNamesStay, Distinct, declared_names, written_names}
use Rattle.types.specs.Names.{VisibleNames, look_up, port_meaning, local_meaning}
use Rattle.types.specs.Parts.{Name}
use Rattle.types.specs.Visible.{Declaration, port_widths, local_widths, valued_names}
use Rattle.types.specs.declared.scope.Meaning.{Meaning}
use Rattle.types.specs.declared.scope.Meaning.TheVariants as meaning
use Rattle.types.specs.declared.tree.Local.{Local}
use Rattle.types.specs.declared.tree.LocalKind.{LocalKind}
use Rattle.types.specs.declared.tree.Port.{Port}
use Rattle.types.specs.declared.tree.PortKind.{PortKind}
use Rattle.types.specs.declared.tree.Procedure.{Procedure}
use Rattle.syntax.specs.Lists.{In, Every}
use Rattle.syntax.specs.declared.declaration.Description.{Description}
use Rattle.syntax.specs.declared.declaration.Local as tree_local
use Rattle.syntax.specs.declared.declaration.Port as tree_port
use Rattle.syntax.specs.declared.declaration.Procedure as tree_procedure
use Rattle.syntax.specs.declared.name.Identifier.{Identifier}
use Rattle.types.proofs.DeclaredOnce.{both-ok, done-ok, next_judged, sound, ties-name, types_tie}
use Rattle.types.proofs.Lookups.{Lacks, Lone, Once, once-none, look_up-append, every-append, every-back, shown}

-- ---- what is declared once is distinct

abbrev names_in : VisibleNames → List Name
names_in es = map (λ (e : List ℕ × Meaning). e.0) es

same_name : (n : Name) → pointwise nat_eq n n ≡ true
same_name n = (bytes_decides n n).1 refl

lacks_not : {A : Type 0} (n : Name) (m : Meaning) (es : VisibleNames) → Lacks n ((n, m) ∷ es) → A
lacks_not n m es lacks = absurd (true≢false (sym (same_name n) ∙ lacks.0))

-- a name that stands once stands in one place
behind_lacks : (x : Name) (m k : Meaning) (name : Name) (front back before behind : VisibleNames) → front ++ (x, m) ∷ back ≡ before ++ (name, k) ∷ behind
    → Lacks x before → Lacks x behind → Lacks x back
behind_lacks x m k name [] back [] behind e none others = let rest : behind ≡ back = cc in subst (Lacks x) rest others
behind_lacks x m k name [] back (b ∷ before) behind e none others = let same : b ≡ (x, m) = cc in lacks_not x m before (subst (λ z. Lacks x (z ∷ before)) same none)
behind_lacks x m k name (f ∷ front) back [] behind e none others =
    let rest : behind ≡ front ++ (x, m) ∷ back = cc in
    lacks_not x m back (every-back _ front ((x, m) ∷ back) (subst (Lacks x) rest others))
behind_lacks x m k name (f ∷ front) back (b ∷ before) behind e none others =
    let rest : front ++ (x, m) ∷ back ≡ before ++ (name, k) ∷ behind = cc in behind_lacks x m k name front back before behind rest none.1 others

lacks_in : (x : Name) (es : VisibleNames) → Lacks x es → ¬ In x (names_in es)
lacks_in x [] lacks h = h
lacks_in x (e ∷ es) lacks h =
    elim h [
      | inl same ↦ true≢false (sym ((bytes_decides x e.0).1 same) ∙ lacks.0)
      | inr later ↦ lacks_in x es lacks.1 later
    ]

found_there : (front back : VisibleNames) (x : Name) (m : Meaning) → (k : Meaning) × (look_up (front ++ (x, m) ∷ back) x ≡ Some k)
found_there front back x m = by (look_up front x) refl
  where
    here : look_up ((x, m) ∷ back) x ≡ Some m
    here = rw (same_name x) refl

    by : (o : Option Meaning) → look_up front x ≡ o → (k : Meaning) × (look_up (front ++ (x, m) ∷ back) x ≡ Some k)
    by (Some k) e = (k, look_up-append front ((x, m) ∷ back) x ∙ ap (λ z. option_or z (look_up ((x, m) ∷ back) x)) e)
    by None e = (m, look_up-append front ((x, m) ∷ back) x ∙ ap (λ z. option_or z (look_up ((x, m) ∷ back) x)) e ∙ here)

distinct_behind : (es : VisibleNames) → Once es → (front rest : VisibleNames) → es ≡ front ++ rest → Distinct (names_in rest)
distinct_behind es once front [] e = tt
distinct_behind es once front (r ∷ rest) e =
    let found = found_there front rest r.0 r.1 in
    let lone = once r.0 found.0 (ap (λ z. look_up z r.0) e ∙ found.1) in
    let lacks = behind_lacks r.0 r.1 found.0 lone.name front rest lone.before lone.behind (sym e ∙ lone.all) lone.none_before lone.none_behind in
    (lacks_in r.0 rest lacks, distinct_behind es once (front ++ r ∷ []) rest (e ∙ sym (append_assoc front (r ∷ []) rest)))

distinct_right : (xs ys : List Name) → Distinct (xs ++ ys) → Distinct ys
distinct_right [] ys d = d
distinct_right (x ∷ xs) ys d = distinct_right xs ys d.1

-- ---- the names of what is visible

abbrev declared : List Declaration → List Name
declared ds = map (λ (d : Declaration). d.name) ds

shown_names : (es : VisibleNames) → declared (map shown es) ≡ names_in es
shown_names [] = refl
shown_names (e ∷ es) = ap (λ z. e.0 ∷ z) (shown_names es)

abbrev texts : List Identifier → List Name
texts names = map (λ (name : Identifier). name.name) names

valued : (widths : List ℕ) (names : List Identifier) → declared (valued_names widths names) ≡ texts names
valued widths [] = refl
valued widths (n ∷ names) = ap (λ z. n.name ∷ z) (valued widths names)

module _ {X : Type 0} (widths : X → List ℕ) (names : X → List Identifier) where
  all_valued : (xs : List X) → declared (flat_map (λ x. valued_names (widths x) (names x)) xs) ≡ flat_map (λ x. texts (names x)) xs
  all_valued [] = refl
  all_valued (x ∷ xs) =
      map-append (λ (d : Declaration). d.name) (valued_names (widths x) (names x)) (flat_map (λ x. valued_names (widths x) (names x)) xs)
      ∙ ap₂ (λ a b. a ++ b) (valued (widths x) (names x)) (all_valued xs)

-- ---- the names of what is made

abbrev port_names : List Port → List Name
port_names ports = map (λ (q : Port). q.name) ports

abbrev local_names : List Local → List Name
local_names locals = map (λ (l : Local). l.name) locals

-- one more behind those before
one_behind : (names : List Name) (made more : List Name) (name : Name) → made ≡ names ++ name ∷ [] → made ++ more ≡ names ++ name ∷ more
one_behind names made more name e = ap (λ z. z ++ more) e ∙ append_assoc names (name ∷ []) more

ports_made : (kind : PortKind) (s : Declared every Port) (names : List Identifier)
    → port_names (with_ports every kind s names).made ≡ port_names s.made ++ texts names
ports_made kind s [] = sym (append-nil (port_names s.made))
ports_made kind s (n ∷ rest) =
    let next = with_one every s n (port_meaning (length s.made) kind) (one_port kind n) in
    ports_made kind next rest
    ∙ one_behind (port_names s.made) (port_names next.made) (texts rest) n.name (map-append (λ (q : Port). q.name) s.made (one_port kind n ∷ []))

locals_made : (kind : LocalKind) (s : Declared every Local) (names : List Identifier)
    → local_names (with_locals every kind s names).made ≡ local_names s.made ++ texts names
locals_made kind s [] = sym (append-nil (local_names s.made))
locals_made kind s (n ∷ rest) =
    let next = with_one every s n (local_meaning (length s.made) kind) (one_local kind n) in
    locals_made kind next rest
    ∙ one_behind (local_names s.made) (local_names next.made) (texts rest) n.name (map-append (λ (l : Local). l.name) s.made (one_local kind n ∷ []))

all_ports_made : (s : Declared every Port) (ds : List tree_port.Port)
    → port_names (all_ports every s ds).made ≡ port_names s.made ++ flat_map (λ (d : tree_port.Port). texts d.names) ds
all_ports_made s [] = sym (append-nil (port_names s.made))
all_ports_made s (d ∷ rest) =
    let next = with_ports every (port_kind s.names d.kind) s d.names in
    all_ports_made next rest
    ∙ ap (λ z. z ++ flat_map (λ (d : tree_port.Port). texts d.names) rest) (ports_made (port_kind s.names d.kind) s d.names)
    ∙ append_assoc (port_names s.made) (texts d.names) (flat_map (λ (d : tree_port.Port). texts d.names) rest)

all_locals_made : (s : Declared every Local) (ds : List tree_local.Local)
    → local_names (all_locals every s ds).made ≡ local_names s.made ++ flat_map (λ (d : tree_local.Local). texts d.names) ds
all_locals_made s [] = sym (append-nil (local_names s.made))
all_locals_made s (d ∷ rest) =
    let next = with_locals every (local_kind s.names d.kind) s d.names in
    all_locals_made next rest
    ∙ ap (λ z. z ++ flat_map (λ (d : tree_local.Local). texts d.names) rest) (locals_made (local_kind s.names d.kind) s d.names)
    ∙ append_assoc (local_names s.made) (texts d.names) (flat_map (λ (d : tree_local.Local). texts d.names) rest)

-- ---- one procedure

-- it declares the names of the source, and they are distinct
pub record Own (p : tree_procedure.Procedure) (q : Procedure) : Type 0 where
  pub stay : declared_names q ≡ written_names p
  pub distinct : Distinct (declared_names q)

module _ (scope : Scope) (p : tree_procedure.Procedure) (once : Once scope.names) where
  made_names : port_names (ports_of every scope.names p).made ++ local_names (locals_of every scope.names p).made ≡ written_names p
  made_names =
      ap₂ (λ a b. a ++ b) (all_ports_made (behind every scope.names) p.ports)
      (all_locals_made (behind every (ports_of every scope.names p).names) p.locals)

  written_distinct : declarations_right every scope p ≡ Ok tt → Distinct (written_names p)
  written_distinct right =
      let is = sound scope p once right in
      let all = map shown scope.names in
      let ports = flat_map (λ (d : tree_port.Port). valued_names (port_widths all d.kind) d.names) p.ports in
      let locals = flat_map (λ (d : tree_local.Local). valued_names (local_widths all d.kind) d.names) p.locals in
      let inside = (scope_inside every scope p).names in
      let names : names_in inside ≡ declared all ++ written_names p =
      sym (shown_names inside) ∙ ap declared is.seen ∙ map-append (λ (d : Declaration). d.name) all (ports ++ locals)
      ∙ ap (λ z. declared all ++ z)
      (map-append (λ (d : Declaration). d.name) ports locals
      ∙ ap₂ (λ a b. a ++ b) (all_valued (λ (d : tree_port.Port). port_widths all d.kind) (λ (d : tree_port.Port). d.names) p.ports)
      (all_valued (λ (d : tree_local.Local). local_widths all d.kind) (λ (d : tree_local.Local). d.names) p.locals)) in
      distinct_right (declared all) (written_names p) (subst Distinct names (distinct_behind inside is.once [] inside refl))

  own : (q : Procedure) → judged_procedure every scope p ≡ Ok q → Own p q
  unfolding judged_procedure
  own q e =
      let h = both-ok _ (declarations_right every scope p) (judged_command every p.body (scope_inside every scope p) []) q e in
      let stay : declared_names q ≡ written_names p = sym (ap declared_names h.4) ∙ made_names in
      record { stay = stay; distinct = subst Distinct (sym stay) (written_distinct h.2) }

-- ---- all procedures

abbrev AllOwn : List (List Name) → List Procedure → Type 0
AllOwn names qs = (map declared_names qs ≡ names) × Every (λ q. Distinct (declared_names q)) qs

procedures_own : (scope : Scope) (done : Findings every (List Procedure)) (before : List Procedure) (names : List (List Name)) (ps : List tree_procedure.Procedure)
    (qs : List Procedure) → Once scope.names → done ≡ Ok before → AllOwn names before → with_procedures every scope done ps ≡ Ok qs
    → AllOwn (names ++ map written_names ps) qs
procedures_own scope done before names [] qs once is own_before e =
    let same : before ≡ qs = let both_are : Ok before ≡ Ok qs = sym is ∙ e in cc in
    subst (λ z. AllOwn (names ++ []) z) same (own_before.0 ∙ sym (append-nil names), own_before.1)
procedures_own scope done before names (p ∷ ps) qs once is own_before e =
    let next = done-ok (after_procedure every scope p) (with_next every done (judged_procedure every scope p)) ps qs e in
    let h = both-ok _ done (judged_procedure every scope p) next.0 next.1 in
    let q = h.1 in
    let first : h.0 ≡ before = let both_are : Ok h.0 ≡ Ok before = sym h.2 ∙ is in cc in
    let all : before ++ q ∷ [] ≡ next.0 = ap (λ z. z ++ q ∷ []) (sym first) ∙ h.4 in
    let this = own scope p once q h.3 in
    let fresh = (sound scope p once (next_judged scope done p ps qs e).declarations).fresh in
    let tied = ties-name scope.names p.name.name (meaning.Procedure (length scope.procedures)) fresh in
    let more : AllOwn (names ++ written_names p ∷ []) next.0 =
    subst (λ z. AllOwn (names ++ written_names p ∷ []) z) all (
      map-append declared_names before (q ∷ []) ∙ ap₂ (λ a b. a ++ b ∷ []) own_before.0 this.stay,
      every-append _ before (q ∷ []) own_before.1 (this.distinct, tt),
    ) in
    subst (λ z. AllOwn z qs) (append_assoc names (written_names p ∷ []) (map written_names ps))
    (procedures_own (after_procedure every scope p) (with_next every done (judged_procedure every scope p)) next.0 (names ++ written_names p ∷ []) ps qs (tied.once once) next.1 more e)

description_own : (d : Description) (qs : List Procedure) → found_description d ≡ Ok qs → AllOwn (map written_names d.procedures) qs
unfolding found_description judged_description
description_own d qs e =
    let types = types_of every d in
    let scope : Scope = record { names = types.names; procedures = [] } in
    let h = both-ok (λ p. p.1) types.right (with_procedures every scope (Ok []) d.procedures) qs e in
    let tied = (types_tie (record { names = []; right = Ok tt }) d.types h.2).1 in
    let is : with_procedures every scope (Ok []) d.procedures ≡ Ok qs = h.3 ∙ ap (λ z. Ok z) h.4 in
    procedures_own scope (Ok []) [] [] d.procedures qs (tied.once once-none) refl (refl, tt) is

pub names_stay : DeclaredNamesStay
names_stay d qs e = (description_own d qs e).0

pub names_distinct : DeclaredNamesAreDistinct
names_distinct d qs e = (description_own d qs e).1
