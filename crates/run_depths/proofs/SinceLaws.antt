-- Places of events in a table, and the depths behind the last events before a place.
use Rattle.std.proofs.Common.{◌≡◌, ◌⊎◌, inl, inr, ℕ, zero, suc, ◌+◌, ◌<◌, ◌≤◌, List, [], ◌∷◌, ◌++◌, length, get_or, take, max, None, Some, refl, sym, ◌∙◌, ap, subst, arith, length-append}
use Rattle.std.specs.Prelude.{slice_get}
use Rattle.std.proofs.lemmas.Bool.{cases_lt}
use Rattle.std.proofs.lemmas.Option.{slice_get_within}
use Rattle.address.specs.Places.{Apart, Before}
use Rattle.address.proofs.public.Places.{apart-irreflexive, apart-symmetric, before-asymmetric, before-irreflexive, before-not-apart}
use Rattle.syntax.specs.Lists.{In}
use Rattle.dependence.specs.LastEvents.{IsAt, LastBefore, OneTree, Orderly, PutAt, ticket_at}
use Rattle.dependence.specs.declared.places.PlaceTable.{PlaceTable}
use Rattle.runs.specs.Events.{places}
use Rattle.runs.specs.Live.{DependsOn, Live, Rising, later, same}
use Rattle.runs.specs.Moves.{Place}
use Rattle.runs.specs.declared.event.Event.{Event}
use Rattle.runs.proofs.public.Options.{none-some, some-injective}
use Rattle.dependence.specs.Followers.{Reached, along, here}
use Rattle.dependence.specs.internal.Tabled.{MorePlaces, Placed}
use Rattle.dependence.proofs.public.FollowerLaws.{reached-through-followers}
use Rattle.dependence.proofs.public.ListPlaces.{at-one, in-at, index-in, take-all}
use Rattle.dependence.proofs.public.Standing.{index-rises}
use Rattle.dependence.proofs.public.Tabling.{one-at, place-is, put-only}
use Rattle.run_depths.specs.Depths.{AreDepths, StandsAt}
use Rattle.run_depths.specs.Since.{AreSince, IsEventSince, IsPlaceAt, IsSince}
use Rattle.run_depths.specs.internal.PlacesHeld.{BehindLast, GreatestBehind, HoldsTo, SinceTo}
use Rattle.run_depths.proofs.public.Deepening.{in-here, in-next, in-still, one-place}

-- ---- how places of live events stand to one another

-- a is before b, or in another branch
abbrev pub Clear : Place → Place → Type 0
Clear a b = Before a b ⊎ Apart a b

clear-irreflexive : (a : Place) → Clear a a → ⊥
clear-irreflexive a (inl before) = before-irreflexive a before
clear-irreflexive a (inr apart) = apart-irreflexive a apart

clear-not-before : (a b : Place) → Clear a b → Before b a → ⊥
clear-not-before a b (inl u) before = before-asymmetric a b u before
clear-not-before a b (inr u) before = before-not-apart b a before (apart-symmetric a b u)

pub place-at : (l : Live) (i t : ℕ) (e : Event) (a : Place) → slice_get l i ≡ Some (t, e) → IsPlaceAt l i a → In a (places e)
place-at l i t e a at h =
    let one = at-one l i (h.0, h.1) (t, e) h.2 at in subst (λ (f : Event). In a (places f)) (ap (λ (y : ℕ × Event). y.1) one) h.3

clear-by-index : (low next : ℕ) (l : Live) (i j : ℕ) (a b : Place) → Rising low l next → Placed l → i < j → IsPlaceAt l i a → IsPlaceAt l j b → Clear a b
clear-by-index low next l i j a b rising placed less x y =
    placed.between x.0 y.0 x.1 y.1 a b (in-at l i (x.0, x.1) x.2) (in-at l j (y.0, y.1) y.2)
    (index-rises low next l i j x.0 y.0 x.1 y.1 rising x.2 y.2 less) x.3 y.3

own-places : (e : Event) (a b : Place) → ((z : Place) → e.second ≡ Some z → Apart e.first z) → In a (places e) → In b (places e) → (a ≡ b) ⊎ Apart a b
own-places e a b own ia ib =
    elim (place-is e a ia) [
      | inl first ↦ elim (place-is e b ib) [
        | inl other ↦ inl (first ∙ sym other)
        | inr other ↦ inr (subst (λ (x : Place). Apart x b) (sym first) (own b other))
      ]
      | inr second ↦ elim (place-is e b ib) [
        | inl other ↦ inr (apart-symmetric b a (subst (λ (x : Place). Apart x a) (sym other) (own a second)))
        | inr other ↦ inl (some-injective a b (sym second ∙ other))
      ]
    ]

at-one-index : (l : Live) (i : ℕ) (a b : Place) → Placed l → IsPlaceAt l i a → IsPlaceAt l i b → (a ≡ b) ⊎ Apart a b
at-one-index l i a b placed x y =
    own-places x.1 a b (λ z second. placed.own x.0 x.1 z (in-at l i (x.0, x.1) x.2) second) x.3 (place-at l i x.0 x.1 b x.2 y)

one-tree : (low next : ℕ) (l : Live) (i j : ℕ) (a b : Place) → Rising low l next → Placed l → IsPlaceAt l i a → IsPlaceAt l j b → OneTree a b
one-tree low next l i j a b rising placed x y =
    elim (cases_lt i j) [
      | inl less ↦ elim (clear-by-index low next l i j a b rising placed less x y) [ inl u ↦ inr (inl u) | inr u ↦ inr (inr (inr u)) ]
      | inr high ↦ elim (cases_lt j i) [
        | inl less ↦ elim (clear-by-index low next l j i b a rising placed less y x) [
          | inl u ↦ inr (inr (inl u))
          | inr u ↦ inr (inr (inr (apart-symmetric b a u)))
        ]
        | inr low_j ↦
            let is : j ≡ i = omega arith in
            elim (at-one-index l i a b placed x (subst (λ (k : ℕ). IsPlaceAt l k b) is y)) [ inl u ↦ inl u | inr u ↦ inr (inr (inr u)) ]
      ]
    ]

-- what has a place before that of another is earlier
before-is-earlier : (low next : ℕ) (l : Live) (i j : ℕ) (a b : Place) → Rising low l next → Placed l → IsPlaceAt l i a → IsPlaceAt l j b → Before a b → i < j
before-is-earlier low next l i j a b rising placed x y before =
    elim (cases_lt i j) [
      | inl less ↦ less
      | inr high ↦ elim (cases_lt j i) [
        | inl less ↦ absurd (clear-not-before b a (clear-by-index low next l j i b a rising placed less y x) before)
        | inr low_j ↦
            let is : j ≡ i = omega arith in
            elim (at-one-index l i a b placed x (subst (λ (k : ℕ). IsPlaceAt l k b) is y)) [
              | inl one ↦ absurd (before-irreflexive b (subst (λ (c : Place). Before c b) one before))
              | inr apart ↦ absurd (before-not-apart a b before apart)
            ]
      ]
    ]

-- ---- depths rise along places

climbs : (low next : ℕ) (l : Live) (depths : List ℕ) (t : ℕ) → Rising low l next → AreDepths l depths → (u : ℕ) → Reached l t u → (i j : ℕ) → StandsAt l t i →
    StandsAt l u j → (t ≡ u) ⊎ (get_or depths i 0 < get_or depths j 0)
climbs low next l depths t rising are u here i j a b = inl refl
climbs low next l depths t rising are v (along {u = w} r f) i j a b =
    let middle = index-in l (w, f.dependent.event) f.dependent.live in
    let stands : StandsAt l w middle.0 = (f.dependent.event, middle.1) in
    let step : get_or depths middle.0 0 < get_or depths j 0 = (are.each j v b).above w middle.0 f stands in
    elim (climbs low next l depths t rising are w r i middle.0 a stands) [
      | inl one ↦
          let place : i ≡ middle.0 = one-place low next l t i middle.0 rising a (subst (λ (s : ℕ). StandsAt l s middle.0) (sym one) stands) in
          inr (subst (λ (k : ℕ). get_or depths k 0 < get_or depths j 0) (sym place) step)
      | inr deeper ↦ inr (omega arith)
    ]

pub depth-rises : (low next : ℕ) (l : Live) (depths : List ℕ) (i j : ℕ) (a b : Place) → Rising low l next → Placed l → AreDepths l depths → IsPlaceAt l i a →
    IsPlaceAt l j b → Before a b → get_or depths i 0 < get_or depths j 0
depth-rises low next l depths i j a b rising placed are x y before =
    let less : i < j = before-is-earlier low next l i j a b rising placed x y before in
    let up : x.0 < y.0 = index-rises low next l i j x.0 y.0 x.1 y.1 rising x.2 y.2 less in
    let depends : DependsOn l x.0 y.0 =
    later x.1 y.1 same (in-at l i (x.0, x.1) x.2) (in-at l j (y.0, y.1) y.2) up (inl (a, b, x.3, y.3, before)) in
    elim (climbs low next l depths x.0 rising are y.0 ((reached-through-followers low next l x.0 y.0 rising).0 depends) i j (x.1, x.2) (y.1, y.2)) [
      | inl one ↦ absurd (omega arith)
      | inr deeper ↦ deeper
    ]

-- ---- the last events before a place

pub since-found : (low next : ℕ) (l : Live) (depths : List ℕ) (table : PlaceTable) (a : Place) (d : ℕ) → Rising low l next → Placed l → AreDepths l depths →
    ((b : Place) (i : ℕ) → IsAt table b i → IsPlaceAt l i b) → ((b : Place) (i : ℕ) → IsPlaceAt l i b → Before b a → IsAt table b i) →
    BehindLast table depths a d → IsSince l depths a d
since-found low next l depths table a d rising placed are sound complete h = record {
  above = λ i b at before.
      let last = h.1.complete b i (complete b i at before) before in
      let most : get_or depths last.1 0 < d = h.2.above last.1 last.3 in
      elim last.4 [
        | inl one ↦
            let index : i ≡ last.1 = one-at table last.0 i last.1 (subst (λ (x : Place). IsAt table x i) one (complete b i at before)) last.2 in
            subst (λ (k : ℕ). get_or depths k 0 < d) (sym index) most
        | inr between ↦
            let rise : get_or depths i 0 < get_or depths last.1 0 =
            depth-rises low next l depths i last.1 b last.0 rising placed are at (sound last.0 last.1 last.2) between in
            omega arith
      ];
  reached = elim h.2.reached [
    | inl none ↦ inl none
    | inr some ↦ elim (h.1.sound some.0 some.1) [
      | inl none ↦ absurd none
      | inr last ↦ inr (some.0, last.0, sound last.0 some.0 last.1, last.2, some.2)
    ]
  ];
}

-- ---- the table

pub held : (l : Live) (n : ℕ) (table : PlaceTable) → HoldsTo l n table → (b : Place) (i : ℕ) → IsAt table b i → IsPlaceAt l i b
held l n table holds b i at = ((holds b i).0 at).0

pub placed-within : (l : Live) (depths : List ℕ) (i : ℕ) (a : Place) → AreDepths l depths → IsPlaceAt l i a → i < length depths
placed-within l depths i a are h =
    let within : i < length l = slice_get_within l i (h.0, h.1) h.2 in let size = are.size in omega arith

pub held-within : (l : Live) (depths : List ℕ) (n : ℕ) (table : PlaceTable) → AreDepths l depths → HoldsTo l n table → (b : Place) (i : ℕ) → IsAt table b i →
    i < length depths
held-within l depths n table are holds b i at =
    let h = held l n table holds b i at in
    let within : i < length l = slice_get_within l i (h.0, h.1) h.2 in
    let size = are.size in
    omega arith

pub orderly-at : (low next : ℕ) (l : Live) (n : ℕ) (table : PlaceTable) (a : Place) → Rising low l next → Placed l → HoldsTo l n table → IsPlaceAt l n a →
    Orderly table a
orderly-at low next l n table a rising placed holds at = record {
  inside = λ b c t u one two. one-tree low next l t u b c rising placed (held l n table holds b t one) (held l n table holds c u two);
  outside = λ b t one. let h = (holds b t).0 one in clear-by-index low next l t n b a rising placed h.1 h.0 at;
}

pub held-before : (low next : ℕ) (l : Live) (n : ℕ) (table : PlaceTable) (a : Place) → Rising low l next → Placed l → HoldsTo l n table → IsPlaceAt l n a →
    (b : Place) (i : ℕ) → IsPlaceAt l i b → Before b a → IsAt table b i
held-before low next l n table a rising placed holds at b i one before =
    (holds b i).1 (one, before-is-earlier low next l i n b a rising placed one at before)

pub free-at : (low next : ℕ) (l : Live) (n t : ℕ) (e : Event) (table : PlaceTable) → Rising low l next → Placed l → HoldsTo l n table →
    slice_get l n ≡ Some (t, e) → (a : Place) (i : ℕ) → In a (places e) → IsAt table a i → ⊥
free-at low next l n t e table rising placed holds at a i within one =
    let h = (holds a i).0 one in
    clear-irreflexive a (clear-by-index low next l i n a a rising placed h.1 h.0 (t, e, at, within))

pub holds-next : (l : Live) (n t : ℕ) (e : Event) (old new : PlaceTable) → HoldsTo l n old → slice_get l n ≡ Some (t, e) → MorePlaces old n (places e) new →
    ((a : Place) → In a (places e) → IsAt new a n) → HoldsTo l (n + 1) new
holds-next l n t e old new holds at more all a i = (
  (λ one.
      elim (more.only a i one) [
        | inl before ↦ let h = (holds a i).0 before in let less = h.1 in let up : i < n + 1 = omega arith in (h.0, up)
        | inr own ↦
            let is = own.1 in
            let up : i < n + 1 = omega arith in
            (subst (λ (k : ℕ). IsPlaceAt l k a) (sym is) (t, e, at, own.0), up)
      ]),
  (λ h.
      elim (cases_lt i n) [
        | inl less ↦ more.kept a i ((holds a i).1 (h.0, less))
        | inr high ↦
            let up = h.1 in
            let is : i ≡ n = omega arith in
            let within : In a (places e) = place-at l n t e a at (subst (λ (k : ℕ). IsPlaceAt l k a) is h.0) in
            subst (λ (k : ℕ). IsAt new a k) (sym is) (all a within)
      ]),
)

pub holds-none : (l : Live) (table : PlaceTable) → ((a : Place) → ticket_at table a ≡ None) → HoldsTo l 0 table
holds-none l table empty a i = (
  (λ one. none-some i (sym (empty a) ∙ one)),
  (λ h. let up = h.1 in absurd (omega arith)),
)

-- after the first place of an event is put
pub held-then : (l : Live) (n t : ℕ) (e : Event) (old new : PlaceTable) → HoldsTo l n old → slice_get l n ≡ Some (t, e) → PutAt old e.first n new →
    (b : Place) (i : ℕ) → IsAt new b i → IsPlaceAt l i b
held-then l n t e old new holds at put b i one =
    elim (put-only old new e.first n put b i one) [
      | inl before ↦ held l n old holds b i before
      | inr own ↦ subst (λ (k : ℕ). IsPlaceAt l k b) (sym own.1) (t, e, at, inl own.0)
    ]

-- ---- the greatest

pub greatest-none : (depths : List ℕ) → GreatestBehind depths [] 0
greatest-none depths = record { above = λ i none. absurd none; reached = inl refl }

pub greatest-next : (depths found : List ℕ) (i d x m : ℕ) → i < length found → GreatestBehind depths (take i found) d →
    x ≡ get_or depths (get_or found i 0) 0 + 1 → m ≡ max d x → GreatestBehind depths (take (i + 1) found) m
greatest-next depths found i d x m h to is most = record {
  above = λ k within.
      elim (in-next found i k h within) [
        | inl before ↦ let up = to.above k before in omega arith
        | inr last ↦
            let same : get_or depths k 0 ≡ get_or depths (get_or found i 0) 0 = ap (λ (n : ℕ). get_or depths n 0) last in
            omega arith
      ];
  reached =
      elim (cases_lt d x) [
        | inl less ↦ let new : m ≡ x = omega arith in inr (get_or found i 0, in-here found i h, new ∙ is)
        | inr high ↦
            let old : m ≡ d = omega arith in
            elim to.reached [
              | inl none ↦ inl (old ∙ none)
              | inr some ↦ inr (some.0, in-still found i some.0 h some.1, old ∙ some.2)
            ]
      ];
}

pub greatest-all : (depths found : List ℕ) (i d : ℕ) → length found ≤ i → GreatestBehind depths (take i found) d → GreatestBehind depths found d
greatest-all depths found i d whole to = subst (λ (xs : List ℕ). GreatestBehind depths xs d) (take-all found i whole) to

-- ---- all events

pair-more : (since : List (ℕ × ℕ)) (s : ℕ × ℕ) (k : ℕ) → k < length since → slice_get (since ++ s ∷ []) k ≡ slice_get since k
pair-more [] s k h = absurd (omega arith)
pair-more (x ∷ since) s zero h = refl
pair-more (x ∷ since) s (suc k) h = let less : k < length since = omega arith in pair-more since s k less

pair-end : (since : List (ℕ × ℕ)) (s : ℕ × ℕ) → slice_get (since ++ s ∷ []) (length since) ≡ Some s
pair-end [] s = refl
pair-end (x ∷ since) s = pair-end since s

pub since-next : (l : Live) (depths : List ℕ) (n t : ℕ) (e : Event) (since new : List (ℕ × ℕ)) (s : ℕ × ℕ) → slice_get l n ≡ Some (t, e) →
    SinceTo l depths n since → IsEventSince l depths e s → new ≡ since ++ s ∷ [] → SinceTo l depths (n + 1) new
since-next l depths n t e since new s at to one is =
    subst (λ (xs : List (ℕ × ℕ)). SinceTo l depths (n + 1) xs) (sym is)
    (record {
      size = let parts = length-append since (s ∷ []) in let was = to.size in omega arith;
      each = λ i u f r less here told.
          elim (cases_lt i n) [
            | inl low ↦
                let was = to.size in
                let within : i < length since = omega arith in
                to.each i u f r low here (sym (pair-more since s i within) ∙ told)
            | inr high ↦
                let was = to.size in
                let index : i ≡ n = omega arith in
                let last : i ≡ length since = omega arith in
                let same_event : f ≡ e =
                ap (λ (y : ℕ × Event). y.1) (at-one l n (u, f) (t, e) (subst (λ (k : ℕ). slice_get l k ≡ Some (u, f)) index here) at) in
                let same_pair : r ≡ s =
                some-injective r s (sym (subst (λ (k : ℕ). slice_get (since ++ s ∷ []) k ≡ Some r) last told) ∙ pair-end since s) in
                subst (λ (g : Event). IsEventSince l depths g r) (sym same_event) (subst (λ (q : ℕ × ℕ). IsEventSince l depths e q) (sym same_pair) one)
          ];
    })

pub since-none : (l : Live) (depths : List ℕ) → SinceTo l depths 0 []
since-none l depths = record { size = refl; each = λ i t e s less here told. absurd (omega arith) }

pub since-all : (l : Live) (depths : List ℕ) (n : ℕ) (since : List (ℕ × ℕ)) → n ≡ length l → SinceTo l depths n since → AreSince l depths since
since-all l depths n since whole to = record {
  size = to.size ∙ whole;
  each = λ i t e s here told. let within = slice_get_within l i (t, e) here in to.each i t e s (omega arith) here told;
}

-- what is found, where nothing was before
pub found-last : (table : PlaceTable) (a : Place) (before found shown : List ℕ) → before ≡ [] → LastBefore table a before found → shown ≡ found →
    LastBefore table a [] shown
found-last table a before found shown none last is =
    subst (λ (xs : List ℕ). LastBefore table a [] xs) (sym is) (subst (λ (xs : List ℕ). LastBefore table a xs found) none last)

pub found-inside : (depths : List ℕ) (table : PlaceTable) (a : Place) (before found shown : List ℕ) →
    ((b : Place) (i : ℕ) → IsAt table b i → i < length depths) → before ≡ [] → LastBefore table a before found → shown ≡ found → (i : ℕ) → In i shown →
    i < length depths
found-inside depths table a before found shown inside none last is i within =
    let told = found-last table a before found shown none last is in
    elim (told.sound i within) [ inl nothing ↦ absurd nothing | inr one ↦ inside one.0 i one.1 ]
