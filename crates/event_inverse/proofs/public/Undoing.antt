-- An event in the middle of a list is undone by its record, and respecting orders grow the same.
use Rattle.std.proofs.Common.{◌≡◌, ◌↔◌, suc, List, [], ◌∷◌, ◌++◌, length, Option, Some, option_map, inl, inr, refl, sym, ap, ap₂, subst, ◌∙◌}
use Rattle.syntax.specs.Lists.{In, Every}
use Rattle.runs.specs.Dependence.{Directly, Respecting}
use Rattle.runs.specs.Steps.{Run}
use Rattle.runs.specs.Steps.{State}
use Rattle.runs.specs.declared.event.Event.{Event}
use Rattle.runs.proofs.public.Lists.{in-left, in-right, in-parts}
use Rattle.runs.proofs.public.Options.{and_then-at}
use Rattle.runs.proofs.public.Orders.{Woven}
use Rattle.runs.proofs.public.Respecting.{woven, run-distinct}
use Rattle.process_tree.proofs.public.Asking.{some-elim, map-elim, then-elim}
use Rattle.process_tree.proofs.public.Formed.{left-formed}
use Rattle.event_inverse.specs.Grown.{TreeAndStore, Taken, state_of_tree, applied, Records, grown}
use Rattle.event_inverse.specs.internal.Reverted.{reverted}
use Rattle.event_inverse.proofs.public.Neighbours.{applies, reverts, neighbours}

-- a tree, and the records on the way to it
abbrev pub Grew : Type 0
Grew = TreeAndStore × Records

-- an event, and then others
abbrev and_others : Event → List Event → TreeAndStore × Taken → Option Grew
and_others e h x = option_map (λ y. (y.0, (e, x.1) ∷ y.1)) (grown x.0 h)

-- what leads on from an event
first-grown : (T : TreeAndStore) (e : Event) (h : List Event) (x : TreeAndStore × Taken) (y : Grew) → applied T e ≡ Some x → grown x.0 h ≡ Some y
    → grown T (e ∷ h) ≡ Some (y.0, (e, x.1) ∷ y.1)
first-grown T e h x y d g = and_then-at (and_others e h) (applied T e) x d ∙ ap (option_map (λ y. (y.0, (e, x.1) ∷ y.1))) g

-- a list that has grown, by its first event
pub grown-elim : (T : TreeAndStore) (e : Event) (h : List Event) (y : Grew) (P : Grew → Type 0) → grown T (e ∷ h) ≡ Some y
    → ((x : TreeAndStore × Taken) (w : Grew) → applied T e ≡ Some x → grown x.0 h ≡ Some w → P (w.0, (e, x.1) ∷ w.1)) → P y
grown-elim T e h y P d f =
    then-elim (and_others e h) (applied T e) y (P y) d
    (λ x i g. map-elim (λ y. (y.0, (e, x.1) ∷ y.1)) (grown x.0 h) y P g (λ w j. f x w i j))

-- an event made after others
abbrev MadeLast : TreeAndStore → Event → TreeAndStore × Taken → List Event → Grew → Type 0
MadeLast T e x k y = (z : Grew) × (grown T k ≡ Some z) × (applied z.0 e ≡ Some (y.0, x.1)) × (z.1 ≡ y.1)

-- it can be, where none of them depends directly on it
made-last : (T : TreeAndStore) (e : Event) (x : TreeAndStore × Taken) (k : List Event) (y : Grew) → applied T e ≡ Some x → grown x.0 k ≡ Some y
    → Every (λ f. Directly e f → ⊥) k → MadeLast T e x k y
made-last T e x [] y d g none = some-elim (x.0, []) y (MadeLast T e x []) g ((T, []), refl, d, refl)
made-last T e x (f ∷ k) y d g none =
    grown-elim x.0 f k y (MadeLast T e x (f ∷ k)) g
    (λ u w i j. let s = neighbours T e f x u d i none.0 in
    let rest = made-last s.0.0 e (u.0, x.1) k w s.2 j none.1 in (
      (rest.0.0, (f, s.0.1) ∷ rest.0.1),
      first-grown T f k s.0 rest.0 s.1 rest.1,
      rest.2,
      ap₂ (λ (t : Taken) (rs : Records). (f, t) ∷ rs) s.3 rest.3,
    ))

-- the undo of e behind h and in front of k
pub record UndoneIn (h k : List Event) (T : TreeAndStore) (e : Event) (y : Grew) : Type 0 where
  pub taken : Taken
  pub earlier : Records
  pub later : Records
  pub tree : TreeAndStore
  pub found : y.1 ≡ earlier ++ (e, taken) ∷ later
  pub placed : length earlier ≡ length h
  pub reverts : reverted y.0 e taken ≡ Some tree
  pub grows : grown T (h ++ k) ≡ Some (tree, earlier ++ later)

-- an event in the middle is undone by its record
pub undone-in : (h k : List Event) (T : TreeAndStore) (e : Event) (y : Grew) → grown T (h ++ e ∷ k) ≡ Some y → Every (λ f. Directly e f → ⊥) k → UndoneIn h k T e y
undone-in [] k T e y g none =
    grown-elim T e k y (UndoneIn [] k T e) g
    (λ x w i j. let s = made-last T e x k w i j none in
    record {
      taken = x.1;
      earlier = [];
      later = w.1;
      tree = s.0.0;
      found = refl;
      placed = refl;
      reverts = reverts s.0.0 e (w.0, x.1) s.2;
      grows = s.1 ∙ ap (λ (rs : Records). Some (s.0.0, rs)) s.3;
    })
undone-in (f ∷ h) k T e y g none =
    grown-elim T f (h ++ e ∷ k) y (UndoneIn (f ∷ h) k T e) g
    (λ x w i j. let rest = undone-in h k x.0 e w j none in
    record {
      taken = rest.taken;
      earlier = (f, x.1) ∷ rest.earlier;
      later = rest.later;
      tree = rest.tree;
      found = ap (λ (rs : Records). (f, x.1) ∷ rs) rest.found;
      placed = ap suc rest.placed;
      reverts = rest.reverts;
      grows = first-grown T f (h ++ k) x (rest.tree, rest.earlier ++ rest.later) i rest.grows;
    })

-- one more event
pub grown-onwards : (T : TreeAndStore) (h : List Event) (y : Grew) (e : Event) (x : TreeAndStore × Taken) → grown T h ≡ Some y → applied y.0 e ≡ Some x
    → grown T (h ++ e ∷ []) ≡ Some (x.0, y.1 ++ (e, x.1) ∷ [])
grown-onwards T [] y e x g d =
    some-elim (T, []) y (λ y. applied y.0 e ≡ Some x → grown T (e ∷ []) ≡ Some (x.0, y.1 ++ (e, x.1) ∷ [])) g
    (λ d. first-grown T e [] x (x.0, []) d refl) d
grown-onwards T (f ∷ h) y e x g d =
    grown-elim T f h y (λ y. applied y.0 e ≡ Some x → grown T (f ∷ h ++ e ∷ []) ≡ Some (x.0, y.1 ++ (e, x.1) ∷ [])) g
    (λ u w i j d. first-grown T f (h ++ e ∷ []) u (x.0, w.1 ++ (e, x.1) ∷ []) i (grown-onwards u.0 h w e x j d)) d

-- what runs grows
pub grows : (h : List Event) (T : TreeAndStore) (U : State) → Run (state_of_tree T) h U → (x : Grew) × (grown T h ≡ Some x) × (state_of_tree x.0 ≡ U)
grows [] T U r = ((T, []), refl, r)
grows (e ∷ h) T U r =
    let s = applies T e r.0 r.1 in
    let rest = grows h s.0.0 U (subst (λ (S : State). Run S h U) (sym s.2) r.2) in
    ((rest.0.0, (e, s.0.1) ∷ rest.0.1), first-grown T e h s.0 rest.0 s.1 rest.1, rest.2)

-- an event made before others: its record among theirs
record Inserted (T : TreeAndStore) (e : Event) (x : TreeAndStore × Taken) (before after : List Event) (v : Grew) : Type 0 where
  first : Records
  second : Records
  apart : v.1 ≡ first ++ second
  grows : grown T (before ++ e ∷ after) ≡ Some (v.0, first ++ (e, x.1) ∷ second)

-- it can be, where it depends on none of them
insert : (T : TreeAndStore) (e : Event) (x : TreeAndStore × Taken) (before after : List Event) (v : Grew) → applied T e ≡ Some x → grown x.0 (before ++ after) ≡ Some v
    → Every (λ f. Directly e f → ⊥) before → Inserted T e x before after v
insert T e x [] after v d g none = record { first = []; second = v.1; apart = refl; grows = first-grown T e after x v d g }
insert T e x (f ∷ before) after v d g none =
    grown-elim x.0 f (before ++ after) v (Inserted T e x (f ∷ before) after) g
    (λ u w i j. let s = neighbours T e f x u d i none.0 in
    let rest = insert s.0.0 e (u.0, x.1) before after w s.2 j none.1 in
    record {
      first = (f, s.0.1) ∷ rest.first;
      second = rest.second;
      apart = ap₂ (λ (t : Taken) (rs : Records). (f, t) ∷ rs) (sym s.3) rest.apart;
      grows = first-grown T f (before ++ e ∷ after) s.0 (w.0, rest.first ++ (e, x.1) ∷ rest.second) s.1 rest.grows;
    })

-- an element put between others
among : {X : Type 0} (x r : X) (first second : List X) → In r (first ++ x ∷ second) ↔ In r (x ∷ (first ++ second))
among x r first second = (
  λ i. elim (in-parts r first (x ∷ second) i) [
    | inl u ↦ inr (in-left r first second u)
    | inr (inl u) ↦ inl u
    | inr (inr u) ↦ inr (in-right r first second u)
  ],
  λ i. elim i [
    | inl u ↦ in-right r first (x ∷ second) (inl u)
    | inr u ↦ elim (in-parts r first second u) [
      | inl v ↦ in-left r first (x ∷ second) v
      | inr v ↦ in-right r first (x ∷ second) (inr v)
    ]
  ],
)

-- the same tree, and the same records
abbrev Alike : TreeAndStore → List Event → Grew → Type 0
Alike T g y = (z : Grew) × (grown T g ≡ Some z) × (z.0 ≡ y.0) × ((r : Event × Taken) → In r y.1 ↔ In r z.1)

-- events moved to places in front of which nothing depends on them
woven-grows : (T : TreeAndStore) (h g : List Event) (y : Grew) → grown T h ≡ Some y → Woven h g → Alike T g y
woven-grows T [] g y d o = (y, subst (λ (l : List Event). grown T l ≡ Some y) (sym o) d, refl, λ r. (λ i. i, λ i. i))
woven-grows T (e ∷ h) g y d o =
    grown-elim T e h y (Alike T g) d
    (λ x w i j. let rest = woven-grows x.0 h (o.0 ++ o.1) w j o.4 in
    let put = insert T e x o.0 o.1 rest.0 i rest.1 o.3 in (
      (rest.0.0, put.first ++ (e, x.1) ∷ put.second),
      ap (grown T) o.2 ∙ put.grows,
      rest.2,
      λ r. same-records r (e, x.1) w.1 put.first put.second (λ r. subst (λ (rs : Records). In r w.1 ↔ In r rs) put.apart (rest.3 r)),
    ))
  where
    same-records : (r x : Event × Taken) (rs first second : Records) → ((r : Event × Taken) → In r rs ↔ In r (first ++ second))
        → In r (x ∷ rs) ↔ In r (first ++ x ∷ second)
    same-records r x rs first second h = (
      λ i. (among x r first second).1 (elim i [ inl u ↦ inl u | inr u ↦ inr ((h r).0 u) ]),
      λ i. elim ((among x r first second).0 i) [ inl u ↦ inl u | inr u ↦ inr ((h r).1 u) ],
    )

-- respecting orders of a run grow the same
pub respecting-grows : (h g : List Event) (T : TreeAndStore) (U : State) (y : Grew) → Run (state_of_tree T) h U → grown T h ≡ Some y → Respecting h g → Alike T g y
respecting-grows h g T U y r d o = woven-grows T h g y d (woven h g (run-distinct (state_of_tree T) U h (left-formed T.proc []) r) o.rearranged o.keeps)
