-- Each name that is used has its one declaration before it, which is the nearest.
use Rattle.std.proofs.Common.{◌≡◌, inl, inr, List, [], ◌∷◌, ◌++◌, flat_map, true, false, Bool, Some, None, nat_eq, if◌then◌else◌, Ok, refl, ap, sym, subst, ◌∙◌, append_assoc, append-nil}
use Rattle.std.specs.Option.{option_or}
use Rattle.std.specs.Cmp.Lexicographic.{pointwise, bytes_decides}
use Rattle.types.specs.Declarations.{demanded, port_type, local_type, behind, ports_of, scope_inside}
use Rattle.types.specs.Expressions.{type_width}
use Rattle.types.specs.Findings.{every}
use Rattle.types.specs.Laws.{OnlyOne}
use Rattle.types.specs.Names.{VisibleNames}
use Rattle.types.specs.Parts.{Name, names_of_type, names_of_part, names_of_port, names_of_local, parts_of_command}
use Rattle.types.specs.Visible.{Declaration, outside, visible_in}
use Rattle.types.specs.declared.scope.Meaning.TheVariants as meaning
use Rattle.syntax.specs.Lists.{In, Every}
use Rattle.syntax.specs.declared.declaration.Description.{Description}
use Rattle.syntax.specs.declared.declaration.Local.{Local}
use Rattle.syntax.specs.declared.declaration.LocalKind.{LocalKind}
use Rattle.syntax.specs.declared.declaration.LocalKind.TheVariants as local_of
use Rattle.syntax.specs.declared.declaration.Port.{Port}
use Rattle.syntax.specs.declared.declaration.PortKind.{PortKind}
use Rattle.syntax.specs.declared.declaration.PortKind.TheVariants as port_of
use Rattle.syntax.specs.declared.declaration.Procedure.{Procedure}
use Rattle.syntax.specs.declared.expression.TypeName.{TypeName}
use Rattle.syntax.specs.declared.expression.TypeName.TheVariants.{Named, Bits}
use Rattle.types.proofs.DeclaredOnce.{InAccepted, in_accepted, Inner, inner-twice, all_ports_inner, all_locals_inner, demanded-ok}
use Rattle.types.proofs.Lookups.{lone_only, every-append, every-front, every-back, every-weaker}
use Rattle.types.proofs.ExpressionWays.{type_found}
use Rattle.types.proofs.TypingLaws.{every-flat, is_sound, declared_once}
use Rattle.types.specs.Nearest.{nearest, uses_of, by_port, by_local, uses_in_each, uses_in, HasNearest, NamesAreDeclaredBefore}

-- ---- one element of a list, and of the front of one

in_middle : {X : Type 0} (x : X) (before behind : List X) → In x (before ++ x ∷ behind)
in_middle x [] behind = inl refl
in_middle x (b ∷ before) behind = inr (in_middle x before behind)

in_front : {X : Type 0} (x : X) (xs ys : List X) → In x xs → In x (xs ++ ys)
in_front x [] ys is = absurd is
in_front x (z ∷ xs) ys (inl same) = inl same
in_front x (z ∷ xs) ys (inr is) = inr (in_front x xs ys is)

in_one : {X : Type 0} (P : X → Type 0) (xs : List X) (o : OnlyOne P xs) → In o.one xs
in_one P xs o = subst (In o.one) (sym o.all) (in_middle o.one o.before o.behind)

module _ {X : Type 0} (P : X → Type 0) where
  behind_other : (z : X) (xs : List X) → (¬ P z) → OnlyOne P xs → OnlyOne P (z ∷ xs)
  behind_other z xs not_here o = record {
    before = z ∷ o.before;
    one = o.one;
    behind = o.behind;
    all = ap (λ us. z ∷ us) o.all;
    is = o.is;
    none_before = (not_here, o.none_before);
    none_behind = o.none_behind;
  }

  -- the only one of all is the only one of those at the front, where one of these is so
  front_one : (xs ys : List X) (before : List X) (one : X) (behind : List X) → xs ++ ys ≡ before ++ one ∷ behind → P one → Every (λ x. ¬ P x) before
      → Every (λ x. ¬ P x) behind → (x : X) → In x xs → P x → OnlyOne P xs
  front_one [] ys before one behind e is none rest x at so = absurd at
  front_one (z ∷ xs) ys [] one behind e is none rest x at so =
      let same : z ≡ one = cc in
      let more : xs ++ ys ≡ behind = cc in
      record {
        before = [];
        one = z;
        behind = xs;
        all = refl;
        is = subst P (sym same) is;
        none_before = tt;
        none_behind = every-front (λ x. ¬ P x) xs ys (subst (Every (λ x. ¬ P x)) (sym more) rest);
      }
  front_one (z ∷ xs) ys (b ∷ before) one behind e is none rest x at so =
      let same : z ≡ b = cc in
      let more : xs ++ ys ≡ before ++ one ∷ behind = cc in
      let not_here : ¬ P z = subst (λ u. ¬ P u) (sym same) none.0 in
      let here : In x xs = elim at [ inl equal ↦ absurd (not_here (subst P equal so)) | inr there ↦ there ] in
      behind_other z xs not_here (front_one xs ys before one behind more is none.1 rest x here so)

  only_front : (xs ys : List X) → OnlyOne P (xs ++ ys) → (x : X) → In x xs → P x → OnlyOne P xs
  only_front xs ys o x at so = front_one xs ys o.before o.one o.behind o.all o.is o.none_before o.none_behind x at so

-- ---- the nearest

abbrev IsNamed : Name → Declaration → Type 0
IsNamed n d = d.name ≡ n

none_nearest : (n : Name) (ds : List Declaration) → Every (λ d. ¬ IsNamed n d) ds → nearest ds n ≡ None
none_nearest n [] none = refl
none_nearest n (d ∷ ds) none =
    ap (λ o. option_or o (if pointwise nat_eq n d.name then Some d else None)) (none_nearest n ds none.1) ∙ by (pointwise nat_eq n d.name) refl
  where
    by : (b : Bool) → pointwise nat_eq n d.name ≡ b → (if b then Some d else None) ≡ None
    by true is = absurd (none.0 (sym ((bytes_decides n d.name).0 is)))
    by false is = refl

nearest_one : (n : Name) (before : List Declaration) (d : Declaration) (behind : List Declaration) → IsNamed n d → Every (λ d. ¬ IsNamed n d) behind
    → nearest (before ++ d ∷ behind) n ≡ Some d
nearest_one n [] d behind is none =
    let same : pointwise nat_eq n d.name ≡ true = (bytes_decides n d.name).1 (sym is) in
    ap (λ o. option_or o (if pointwise nat_eq n d.name then Some d else None)) (none_nearest n behind none) ∙ ap (λ b. if b then Some d else None) same
nearest_one n (b ∷ before) d behind is none =
    ap (λ o. option_or o (if pointwise nat_eq n b.name then Some b else None)) (nearest_one n before d behind is none)

has_nearest : (n : Name) (ds : List Declaration) → OnlyOne (IsNamed n) ds → HasNearest (record { name = n; before = ds })
has_nearest n ds o = (o, ap (λ z. nearest z n) o.all ∙ nearest_one n o.before o.one o.behind o.is o.none_behind)

-- ---- uses in declarations

-- the name has one declaration among all, which is one of the outer ones
abbrev IsOuter : List Declaration → List Declaration → Name → Type 0
IsOuter outer all n = OnlyOne (IsNamed n) all × ((d : Declaration) × In d outer × (d.name ≡ n))

names_before : (outer all so_far rest : List Declaration) → all ≡ so_far ++ rest → ((d : Declaration) → In d outer → In d so_far) → (ns : List Name)
    → Every (IsOuter outer all) ns → Every HasNearest (uses_of so_far ns)
names_before outer all so_far rest split at [] are = tt
names_before outer all so_far rest split at (n ∷ ns) are = (
  has_nearest n so_far (only_front (IsNamed n) so_far rest (subst (OnlyOne (IsNamed n)) split are.0.0) are.0.1.0 (at are.0.1.0 are.0.1.1) are.0.1.2),
  names_before outer all so_far rest split at ns are.1,
)

module _ {D : Type 0} (by : D → List Declaration) (names : D → List Name) (outer all : List Declaration) where
  each_before : (so_far rest : List Declaration) (ds : List D) → all ≡ so_far ++ (flat_map by ds ++ rest) → ((d : Declaration) → In d outer → In d so_far)
      → Every (IsOuter outer all) (flat_map names ds) → Every HasNearest (uses_in_each by names so_far ds)
  each_before so_far rest [] split at are = tt
  each_before so_far rest (d ∷ ds) split at are =
      let next = so_far ++ by d in
      let at_next : (x : Declaration) → In x outer → In x next = λ x is. in_front x so_far (by d) (at x is) in
      let more : all ≡ next ++ (flat_map by ds ++ rest) =
      split ∙ ap (λ z. so_far ++ z) (append_assoc (by d) (flat_map by ds) rest) ∙ sym (append_assoc so_far (by d) (flat_map by ds ++ rest)) in
      every-append HasNearest (uses_of next (names d)) (uses_in_each by names next ds)
      (names_before outer all next (flat_map by ds ++ rest) more at_next (names d) (every-front (IsOuter outer all) (names d) (flat_map names ds) are))
      (each_before next rest ds more at_next (every-back (IsOuter outer all) (names d) (flat_map names ds) are))

body_before : (all : List Declaration) (ns : List Name) → Every (λ n. OnlyOne (IsNamed n) all) ns → Every HasNearest (uses_of all ns)
body_before all [] are = tt
body_before all (n ∷ ns) are = (has_nearest n all are.0, body_before all ns are.1)

every-both : {X : Type 0} (P Q : X → Type 0) (xs : List X) → Every P xs → Every Q xs → Every (λ x. P x × Q x) xs
every-both P Q [] ps qs = tt
every-both P Q (x ∷ xs) ps qs = ((ps.0, qs.0), every-both P Q xs ps.1 qs.1)

-- ---- a procedure of an accepted description

module _ (d : Description) (before : List Procedure) (p : Procedure) (here : InAccepted d before p) where
  abbrev types : List Declaration
  types = outside d.types before

  abbrev inner : VisibleNames
  inner = (scope_inside every here.scope p).names

  abbrev IsAmongTypes : Name → Type 0
  IsAmongTypes n = (x : Declaration) × In x types × (x.name ≡ n)

  pub between : Inner here.scope.names inner
  between =
      let ports = ports_of every here.scope.names p in
      inner-twice here.scope.names ports.names inner (all_ports_inner (behind every here.scope.names) p.ports) (all_locals_inner (behind every ports.names) p.locals)

  type_outer : (type : TypeName) → demanded (type_width inner [] type) ≡ Ok tt → Every IsAmongTypes (names_of_type type)
  type_outer (Bits width) e = tt
  type_outer (Named identifier) e =
      let n = identifier.name in
      let right = demanded-ok (type_width inner [] (Named identifier)) e in
      let m = meaning.TypeName right.0 in
      let found = between.types n right.0 (type_found inner [] n identifier.span.start right.0 right.1) in
      let o = subst (OnlyOne (IsNamed n)) here.seen (lone_only n m here.scope.names (here.once n m found)) in
      ((o.one, in_one (IsNamed n) types o, o.is), tt)

  port_outer : (kind : PortKind) → port_type inner kind ≡ Ok tt → Every IsAmongTypes (names_of_port kind)
  port_outer (port_of.Input type) e = type_outer type e
  port_outer (port_of.Output type) e = type_outer type e
  port_outer port_of.Sync e = tt

  local_outer : (kind : LocalKind) → local_type inner kind ≡ Ok tt → Every IsAmongTypes (names_of_local kind)
  local_outer (local_of.Variable type) e = type_outer type e
  local_outer (local_of.SharedVariable type) e = type_outer type e
  local_outer (local_of.Channel type) e = type_outer type e
  local_outer local_of.Sync e = tt

  all_before : Every HasNearest (uses_in d.types before p)
  all_before =
      let all = visible_in d.types before p in
      let HasOnce = λ (n : Name). OnlyOne (IsNamed n) all in
      let ports = flat_map (λ (q : Port). names_of_port q.kind) p.ports in
      let locals = flat_map (λ (l : Local). names_of_local l.kind) p.locals in
      let body = flat_map names_of_part (parts_of_command p.body) in
      let once = declared_once d before p here in
      let rest = every-back HasOnce ports (locals ++ body) once in
      let by_ports = flat_map (by_port types) p.ports in
      let by_locals = flat_map (by_local types) p.locals in
      let sound = is_sound d before p here in
      let ports_outer = every-flat IsAmongTypes (λ (q : Port). names_of_port q.kind) p.ports (every-weaker _ _ (λ (q : Port) e. port_outer q.kind e) p.ports sound.ports) in
      let locals_outer = every-flat IsAmongTypes (λ (l : Local). names_of_local l.kind) p.locals (every-weaker _ _ (λ (l : Local) e. local_outer l.kind e) p.locals sound.locals) in
      let whole : all ≡ (types ++ by_ports) ++ (by_locals ++ []) = sym (append_assoc types by_ports (by_locals ++ []) ∙ ap (λ z. types ++ (by_ports ++ z)) (append-nil by_locals)) in
      every-append HasNearest (uses_in_each (by_port types) (λ (q : Port). names_of_port q.kind) types p.ports) _
      (each_before (by_port types) (λ (q : Port). names_of_port q.kind) types all types by_locals p.ports refl (λ x is. is)
      (every-both HasOnce IsAmongTypes ports (every-front HasOnce ports (locals ++ body) once) ports_outer))
      (every-append HasNearest (uses_in_each (by_local types) (λ (l : Local). names_of_local l.kind) (types ++ by_ports) p.locals) (uses_of all body)
      (each_before (by_local types) (λ (l : Local). names_of_local l.kind) types all (types ++ by_ports) [] p.locals whole (λ x is. in_front x types by_ports is)
      (every-both HasOnce IsAmongTypes locals (every-front HasOnce locals body rest) locals_outer))
      (body_before all body (every-back HasOnce locals body rest)))

pub names_before_use : NamesAreDeclaredBefore
names_before_use d (qs, e) before p later split = all_before d before p (in_accepted d qs e before p later split)
