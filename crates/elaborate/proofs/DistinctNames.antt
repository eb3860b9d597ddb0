-- The names of an accepted system are distinct.
use Rattle.std.proofs.Common.{◌≡◌, ◌⊎◌, inl, inr, ℕ, zero, suc, ◌+◌, ◌-◌, ◌<◌, ◌≤◌, ◌^◌, List, [], ◌∷◌, ◌++◌, map, length, get_or, refl, ap, sym, ◌∙◌, subst, arith, append_assoc, length-append}
use Rattle.std.proofs.lemmas.List.{append-nil, append_cancel_left, map-append}
use Rattle.elaborate.specs.Body.{Call, part_of}
use Rattle.elaborate.specs.Calls.{Expansion, Entered, called, missing, copies_of_calls, bodies_of_calls, names_in, expansion_of, expansions_onto, expansions}
use Rattle.elaborate.specs.Copies.{copied, all_copied, channel_of_port, variable_of, channel_of, variables_among, channels_among}
use Rattle.elaborate.specs.Elaboration.{root_ports, root, port_channels, root_copies, root_entered, main_of, system_of, IsAccepted}
use Rattle.elaborate.specs.Laws.{Distinct, declared_names, HasOwnNames, NamesAreDistinct}
use Rattle.elaborate.specs.Naming.{Names, channels_of}
use Rattle.elaborate.proofs.Counted.{total_of, nodes_of}
use Rattle.elaborate.proofs.Expanded.{one_behind, bodies_length, body_bounds}
use Rattle.elaborate.proofs.NameLemmas.{in_left, in_right, in_either, every_in, every_append, every_right, every_more, distinct_append, distinct_right, distinct_between, Begins, OfCall, of_this_call, of_later_call, begins_so, calls_apart, own_apart}
use Rattle.elaborate.proofs.RootLemmas.{root_is, root_ports_are, own_copied}
use Rattle.elaborate.specs.declared.stimulus.Entry.{Entry}
use Rattle.syntax.specs.Lists.{In, Every}
use Rattle.syntax.specs.Texts.{Text}
use Rattle.system.specs.Named.{prefix_of_call}
use Rattle.system.specs.declared.system.Channel.{Channel}
use Rattle.system.specs.declared.system.Variable.{Variable}
use Rattle.types.specs.declared.tree.Local.{Local}
use Rattle.types.specs.declared.tree.LocalKind.{LocalKind}
use Rattle.types.specs.declared.tree.LocalKind.TheVariants as local
use Rattle.types.specs.declared.tree.Port.{Port}
use Rattle.types.specs.declared.tree.Procedure.{Procedure}

abbrev names_of : List Local → List Text
names_of ls = map (λ l. l.name) ls

-- ---- names of a procedure's own copies

own_name : (prefix name : Text) (ls : List Local) → In name (names_of (all_copied prefix ls)) → (own : Text) × In own (names_of ls) × (name ≡ prefix ++ own)
own_name prefix name [] h = absurd h
own_name prefix name (l ∷ ls) h =
    elim h [
      | inl e ↦ (l.name, inl refl, e)
      | inr r ↦ let found = own_name prefix name ls r in (found.0, inr found.1, found.2)
    ]

uncopied : (prefix own : Text) (ls : List Local) → In (prefix ++ own) (names_of (all_copied prefix ls)) → In own (names_of ls)
uncopied prefix own [] h = absurd h
uncopied prefix own (l ∷ ls) h =
    elim h [ inl e ↦ inl (append_cancel_left prefix own l.name e) | inr r ↦ inr (uncopied prefix own ls r) ]

own_distinct : (prefix : Text) (ls : List Local) → Distinct (names_of ls) → Distinct (names_of (all_copied prefix ls))
own_distinct prefix [] d = tt
own_distinct prefix (l ∷ ls) d = (λ h. d.0 (uncopied prefix l.name ls h), own_distinct prefix ls d.1)

own_begin : (prefix : Text) (ls : List Local) → Every (Begins prefix) (names_of (all_copied prefix ls))
own_begin prefix [] = tt
own_begin prefix (l ∷ ls) = (record { rest = l.name; is = refl }, own_begin prefix ls)

-- ---- names of an expansion

-- where numbers last, its names are distinct and begin with the prefix
abbrev HasNames : Expansion → Type 0
HasNames e = (entered : Entered) → nodes_of (e.body entered) ≤ 4294967295
    → Every (Begins entered.prefix) (names_of (e.copies entered.prefix)) × Distinct (names_of (e.copies entered.prefix))

module _ (es : List Expansion) (fine : (p : ℕ) → HasNames (called es p)) where
  calls_named : (names : Names) (prefix : Text) (before : List Local) (passed : ℕ) (cs : List Call)
      → passed + length cs ≤ 4294967295 → total_of nodes_of (bodies_of_calls es names prefix before passed cs) ≤ 4294967295
      → Every (OfCall prefix passed) (names_of (copies_of_calls es prefix passed cs)) × Distinct (names_of (copies_of_calls es prefix passed cs))
  calls_named names prefix before passed [] last bound = (tt, tt)
  calls_named names prefix before passed (c ∷ cs) last bound =
      let own = prefix_of_call prefix (passed + 1) in
      let e = called es c.procedure in
      let entered : Entered = record { prefix = own; before = before; ports = channels_of names c.arguments } in
      let copies = e.copies own in
      let rest = copies_of_calls es prefix (passed + 1) cs in
      let bodies = bodies_of_calls es names prefix (before ++ copies) (passed + 1) cs in
      let small : passed + 1 < 18446744073709551616 = omega (arith, last) in
      let here : nodes_of (e.body entered) ≤ 4294967295 = omega (arith, bound) in
      let there : total_of nodes_of bodies ≤ 4294967295 = omega (arith, bound) in
      let next : passed + 1 + length cs ≤ 4294967295 = omega (arith, last) in
      let first = fine c.procedure entered here in
      let more = calls_named names prefix (before ++ copies) (passed + 1) cs next there in
      let both : names_of (copies ++ rest) ≡ names_of copies ++ names_of rest = map-append (λ (l : Local). l.name) copies rest in (
        subst (Every (OfCall prefix passed)) (sym both)
            (every_append (OfCall prefix passed) (names_of copies) (names_of rest)
            (every_more (Begins own) (OfCall prefix passed) (names_of copies) (λ name h. of_this_call prefix passed name small h) first.0)
            (every_more (OfCall prefix (passed + 1)) (OfCall prefix passed) (names_of rest) (λ name h. of_later_call prefix passed name h) more.0)),
        subst Distinct (sym both)
            (distinct_append (names_of copies) (names_of rest) first.1 more.1
            (λ name h k. calls_apart prefix passed name small
            (every_in (Begins own) name (names_of copies) first.0 h) (every_in (OfCall prefix (passed + 1)) name (names_of rest) more.0 k))),
      )

  -- the calls of a procedure
  abbrev call_copies : Procedure → Text → List Local
  call_copies p prefix = copies_of_calls es prefix 0 (part_of p.body).calls

  calls_of_body : (p : Procedure) (entered : Entered) → nodes_of ((expansion_of es p).body entered) ≤ 4294967295
      → Every (OfCall entered.prefix 0) (names_of (call_copies p entered.prefix)) × Distinct (names_of (call_copies p entered.prefix))
  calls_of_body p entered bound =
      let names = names_in p entered in
      let before = entered.before ++ all_copied entered.prefix p.locals in
      let cs = (part_of p.body).calls in
      let bodies = bodies_of_calls es names entered.prefix before 0 cs in
      let len = bodies_length es names entered.prefix before 0 cs in
      let bounds = body_bounds p.body names bodies len in
      let last : 0 + length cs ≤ 4294967295 = omega (arith, bound, bounds.0, bounds.1, len) in
      let small : total_of nodes_of bodies ≤ 4294967295 = omega (arith, bound, bounds.0) in
      calls_named names entered.prefix before 0 cs last small

  procedure_named : (p : Procedure) → HasOwnNames p → HasNames (expansion_of es p)
  procedure_named p good entered bound =
      let prefix = entered.prefix in
      let own = all_copied prefix p.locals in
      let rest = call_copies p prefix in
      let calls = calls_of_body p entered bound in
      let ports = map (λ (q : Port). q.name) p.ports in
      let both : names_of (own ++ rest) ≡ names_of own ++ names_of rest = map-append (λ (l : Local). l.name) own rest in
      let distinct : Distinct (names_of p.locals) = distinct_right ports (names_of p.locals) good.0 in
      let without : Every (λ name. In 58 name → ⊥) (names_of p.locals) = every_right (λ name. In 58 name → ⊥) ports (names_of p.locals) good.1 in (
        subst (Every (Begins prefix)) (sym both)
            (every_append (Begins prefix) (names_of own) (names_of rest) (own_begin prefix p.locals)
            (every_more (OfCall prefix 0) (Begins prefix) (names_of rest) (λ name h. begins_so prefix 0 name h) calls.0)),
        subst Distinct (sym both)
            (distinct_append (names_of own) (names_of rest) (own_distinct prefix p.locals distinct) calls.1
            (λ name h k.
            let found = own_name prefix name p.locals h in
            own_apart prefix found.0 name 0 (every_in (λ name. In 58 name → ⊥) found.0 (names_of p.locals) without found.1) found.2
            (every_in (OfCall prefix 0) name (names_of rest) calls.0 k))),
      )

all_named : (es : List Expansion) → ((p : ℕ) → HasNames (called es p)) → (ps : List Procedure) → Every HasOwnNames ps
    → (p : ℕ) → HasNames (called (expansions_onto es ps) p)
all_named es fine [] good = fine
all_named es fine (q ∷ ps) good =
    all_named (es ++ expansion_of es q ∷ [])
    (one_behind (λ (a b : Expansion). HasNames b) missing missing es es (expansion_of es q) (expansion_of es q) refl fine (procedure_named es fine q good.0)) ps good.1

missing_named : HasNames missing
missing_named = λ entered bound. (tt, tt)

-- ---- the root, with its ports

port_names : (ports : List Port) → names_of (map channel_of_port ports) ≡ map (λ q. q.name) ports
port_names [] = refl
port_names (p ∷ ports) = ap (λ (names : List Text). p.name ∷ names) (port_names ports)

root_named : (ps : List Procedure) (p : Procedure) → Every HasOwnNames ps → HasOwnNames p → nodes_of (main_of (ps ++ p ∷ [])) ≤ 4294967295
    → Distinct (names_of (port_channels (ps ++ p ∷ []) ++ root_copies (ps ++ p ∷ [])))
root_named ps p good own bound =
    let es = expansions ps in
    let all = ps ++ p ∷ [] in
    let fine : (n : ℕ) → HasNames (called es n) = all_named [] (λ n. missing_named) ps good in
    let entered = root_entered all in
    let same : main_of all ≡ (expansion_of es p).body entered = ap (λ (e : Expansion). e.body entered) (root_is ps p) in
    let few : nodes_of ((expansion_of es p).body entered) ≤ 4294967295 = subst (λ c. nodes_of c ≤ 4294967295) same bound in
    let calls = calls_of_body es fine p entered few in
    let rest = call_copies es fine p [] in
    let declared = declared_names p in
    let copies : root_copies all ≡ p.locals ++ rest =
    ap (λ (e : Expansion). e.copies []) (root_is ps p) ∙ ap (λ (ls : List Local). ls ++ rest) (own_copied p.locals) in
    let ports : names_of (port_channels all) ≡ map (λ q. q.name) p.ports = ap (λ qs. names_of (map channel_of_port qs)) (root_ports_are ps p) ∙ port_names p.ports in
    let names : names_of (port_channels all ++ root_copies all) ≡ declared ++ names_of rest =
    map-append (λ (l : Local). l.name) (port_channels all) (root_copies all)
    ∙ (ap (λ (xs : List Text). xs ++ names_of (root_copies all)) ports
    ∙ (ap (λ (ls : List Local). map (λ (q : Port). q.name) p.ports ++ names_of ls) copies
    ∙ (ap (λ (xs : List Text). map (λ (q : Port). q.name) p.ports ++ xs) (map-append (λ (l : Local). l.name) p.locals rest)
    ∙ sym (append_assoc (map (λ (q : Port). q.name) p.ports) (names_of p.locals) (names_of rest))))) in
    subst Distinct (sym names)
    (distinct_append declared (names_of rest) own.0 calls.1
    (λ name h k. own_apart [] name name 0 (every_in (λ name. In 58 name → ⊥) name declared own.1 h) refl (every_in (OfCall [] 0) name (names_of rest) calls.0 k)))

-- ---- variables and channels

abbrev variable_names : List Local → List Text
variable_names ls = map (λ (v : Variable). v.name) (variables_among ls)

abbrev channel_names : List Local → List Text
channel_names ls = map (λ (c : Channel). c.name) (channels_among ls)

-- a name of either is one of the copies
among : (name : Text) (ls : List Local) → In name (variable_names ls ++ channel_names ls) → In name (names_of ls)
among name [] h = h
among name (l ∷ ls) h = by l.kind (among name ls) h
  where
    behind_variables : (In name (variable_names ls ++ channel_names ls) → In name (names_of ls))
        → In name (variable_names ls ++ l.name ∷ channel_names ls) → In name (names_of (l ∷ ls))
    behind_variables onward h =
        elim (in_either name (variable_names ls) (l.name ∷ channel_names ls) h) [
          | inl a ↦ inr (onward (in_left name (variable_names ls) (channel_names ls) a))
          | inr b ↦ elim b [ inl e ↦ inl e | inr r ↦ inr (onward (in_right name (variable_names ls) (channel_names ls) r)) ]
        ]

    by : (kind : LocalKind) → (In name (variable_names ls ++ channel_names ls) → In name (names_of ls))
        → In name (map (λ (v : Variable). v.name) (variable_of l.name kind ++ variables_among ls) ++ map (λ (c : Channel). c.name) (channel_of l.name l.declared kind ++ channels_among ls))
        → In name (names_of (l ∷ ls))
    by (local.Variable w) onward h = elim h [ inl e ↦ inl e | inr r ↦ inr (onward r) ]
    by (local.SharedVariable w) onward h = elim h [ inl e ↦ inl e | inr r ↦ inr (onward r) ]
    by (local.Channel w) onward h = behind_variables onward h
    by local.Sync onward h = behind_variables onward h

apart : (ls : List Local) → Distinct (names_of ls) → Distinct (variable_names ls ++ channel_names ls)
apart [] d = tt
apart (l ∷ ls) d = by l.kind (apart ls d.1)
  where
    by : (kind : LocalKind) → Distinct (variable_names ls ++ channel_names ls)
        → Distinct (map (λ (v : Variable). v.name) (variable_of l.name kind ++ variables_among ls) ++ map (λ (c : Channel). c.name) (channel_of l.name l.declared kind ++ channels_among ls))
    by (local.Variable w) rest = (λ h. d.0 (among l.name ls h), rest)
    by (local.SharedVariable w) rest = (λ h. d.0 (among l.name ls h), rest)
    by (local.Channel w) rest = distinct_between (variable_names ls) (channel_names ls) l.name rest (λ h. d.0 (among l.name ls h))
    by local.Sync rest = distinct_between (variable_names ls) (channel_names ls) l.name rest (λ h. d.0 (among l.name ls h))

-- ---- the law

-- a list is empty, or ends with an element
ends : (ps : List Procedure) → (ps ≡ []) ⊎ ((front : List Procedure) × (p : Procedure) × (ps ≡ front ++ p ∷ []))
ends [] = inl refl
ends (q ∷ ps) =
    elim (ends ps) [
      | inl e ↦ inr ([], q, ap (λ (r : List Procedure). q ∷ r) e)
      | inr f ↦ inr (q ∷ f.0, f.1, ap (λ (r : List Procedure). q ∷ r) f.2)
    ]

every_left : (ps qs : List Procedure) → Every HasOwnNames (ps ++ qs) → Every HasOwnNames ps
every_left [] qs a = tt
every_left (p ∷ ps) qs a = (a.0, every_left ps qs a.1)

pub names_distinct : NamesAreDistinct
names_distinct ps entries good accepted = apart (port_channels ps ++ root_copies ps) (by (ends ps))
  where
    few : nodes_of (main_of ps) ≤ 4294967295
    few = omega (arith, accepted.1.0)

    by : (ps ≡ []) ⊎ ((front : List Procedure) × (p : Procedure) × (ps ≡ front ++ p ∷ [])) → Distinct (names_of (port_channels ps ++ root_copies ps))
    by (inl e) = subst (λ qs. Distinct (names_of (port_channels qs ++ root_copies qs))) (sym e) tt
    by (inr f) =
        let names = subst (Every HasOwnNames) f.2 good in
        let last = every_right HasOwnNames f.0 (f.1 ∷ []) names in
        subst (λ qs. Distinct (names_of (port_channels qs ++ root_copies qs))) (sym f.2)
        (root_named f.0 f.1 (every_left f.0 (f.1 ∷ []) names) last.0 (subst (λ qs. nodes_of (main_of qs) ≤ 4294967295) f.2 few))
