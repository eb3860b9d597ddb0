-- The tables of last events after an event is put in, and after it is taken out.
use Rattle.std.proofs.Common.{◌≡◌, ◌⊎◌, ◌↔◌, inl, inr, ℕ, suc, ◌+◌, ◌<◌, List, [], ◌∷◌, ◌++◌, length, take, get_or, Option, Some, None, Result, Ok, Err, refl, sym, ◌∙◌, ap, subst, arith}
use Rattle.std.specs.Result.{OnOk, OnErr}
use Rattle.std.proofs.lemmas.Option.{slice_get-get_or}
use Rattle.std.proofs.lemmas.Bool.{cases_lt}
use Rattle.address.specs.Places.{Before, Apart}
use Rattle.address.proofs.public.Places.{before-irreflexive, apart-irreflexive, apart-symmetric, same?}
use Rattle.syntax.specs.Lists.{In}
use Rattle.dependence.specs.LastEvents.{ticket_at, IsAt, Uses, PutAt, RemovedAt, Same, OneTree, Orderly}
use Rattle.dependence.specs.declared.places.PlaceTable.{PlaceTable}
use Rattle.dependence.specs.declared.uses.UseTable.{UseTable}
use Rattle.runs.specs.Events.{places, places_of}
use Rattle.runs.specs.Live.{Live, Rising, LiveAt, WithoutTickets}
use Rattle.runs.specs.Moves.{Place}
use Rattle.runs.specs.declared.event.Event.{Event}
use Rattle.runs.proofs.public.Lists.{in-left, in-right, in-parts}
use Rattle.runs.proofs.public.Options.{none-some, some-injective}
use Rattle.runs.proofs.public.Tickets.{rising-in, rising-one}
use Rattle.runs.proofs.public.UndoLaws.{without-live}
use Rattle.dependence.specs.Behind.{ComesBehind}
use Rattle.dependence.specs.declared.tables.Tables.{Tables}
use Rattle.dependence.specs.internal.Tabled.{TablesOf, Placed, IsTabled, MorePlaces, MoreUses, FewerUses, written_of, MoreTables, HasEvent, FewerTables, SameTables, IsFresh}
use Rattle.dependence.proofs.AddedEvent.{added}
use Rattle.dependence.proofs.public.ListPlaces.{take-next}

-- two places that stand before or apart are not one
pub not-one : (a b : Place) → Before a b ⊎ Apart a b → a ≡ b → ⊥
not-one a b h is = elim h [
  | inl k ↦ before-irreflexive b (subst (λ (x : Place). Before x b) is k)
  | inr k ↦ apart-irreflexive b (subst (λ (x : Place). Apart x b) is k)
]

-- one event stands at a place
pub one-at : (table : PlaceTable) (a : Place) (t u : ℕ) → IsAt table a t → IsAt table a u → t ≡ u
one-at table a t u i j = some-injective t u (sym i ∙ j)

-- one place more
pub put-kept : (old new : PlaceTable) (p : Place) (n : ℕ) → PutAt old p n new → ((t : ℕ) → IsAt old p t → ⊥) → (a : Place) (t : ℕ) → IsAt old a t → IsAt new a t
put-kept old new p n put free a t i = elim (same? a p) [
  | inl is ↦ absurd (free t (subst (λ (x : Place). IsAt old x t) is i))
  | inr differs ↦ put.others a differs ∙ i
]

pub put-only : (old new : PlaceTable) (p : Place) (n : ℕ) → PutAt old p n new → (a : Place) (t : ℕ) → IsAt new a t → IsAt old a t ⊎ ((a ≡ p) × (t ≡ n))
put-only old new p n put a t i = elim (same? a p) [
  | inl is ↦ inr (is, one-at new p t n (subst (λ (x : Place). IsAt new x t) is i) put.here)
  | inr differs ↦ inl (sym (put.others a differs) ∙ i)
]

-- the second address of an event is among its addresses
pub second-in : (f : Event) (b : Place) → f.second ≡ Some b → In b (places f)
second-in f b is = inr (subst (λ (o : Option Place). In b (places_of o)) (sym is) (inl refl))

-- an address of an event is the first or the second
pub place-is : (f : Event) (a : Place) → In a (places f) → (a ≡ f.first) ⊎ (f.second ≡ Some a)
place-is f a i = elim i [ inl is ↦ inl is | inr k ↦ inr (pick f.second refl k) ]
  where
    pick : (o : Option Place) → f.second ≡ o → In a (places_of o) → f.second ≡ Some a
    pick None is k = absurd k
    pick (Some b) is k = elim k [ inl one ↦ is ∙ ap (λ (x : Place). Some x) (sym one) | inr none ↦ absurd none ]

module _ (old new : PlaceTable) (n : ℕ) (f : Event) (free : (a : Place) (t : ℕ) → In a (places f) → IsAt old a t → ⊥) (put : PutAt old f.first n new) where
  free-first : (t : ℕ) → IsAt old f.first t → ⊥
  free-first t i = free f.first t (inl refl) i

  -- the first address is put
  pub first-put : MorePlaces old n (places f) new
  first-put = record {
    kept = put-kept old new f.first n put free-first;
    only = λ a t i. elim (put-only old new f.first n put a t i) [ inl k ↦ inl k | inr k ↦ inr (inl k.0, k.1) ];
  }

  -- and there is no other
  pub first-alone : f.second ≡ None → (a : Place) → In a (places f) → IsAt new a n
  first-alone none a i = elim (place-is f a i) [
    | inl is ↦ subst (λ (x : Place). IsAt new x n) (sym is) put.here
    | inr is ↦ none-some a (sym none ∙ is)
  ]

  module _ (b : Place) (second : f.second ≡ Some b) (apart : Apart f.first b) (last : PlaceTable) (more : PutAt new b n last) where
    second-free : (t : ℕ) → IsAt new b t → ⊥
    second-free t i = elim (put-only old new f.first n put b t i) [
      | inl k ↦ free b t (second-in f b second) k
      | inr k ↦ not-one f.first b (inr apart) (sym k.0)
    ]

    pub second-put : MorePlaces old n (places f) last
    second-put = record {
      kept = λ a t i. put-kept new last b n more second-free a t (put-kept old new f.first n put free-first a t i);
      only = λ a t i. elim (put-only new last b n more a t i) [
        | inl k ↦ first-put.only a t k
        | inr k ↦ inr (subst (λ (x : Place). In x (places f)) (sym k.0) (second-in f b second), k.1)
      ];
    }

    pub second-has : (a : Place) → In a (places f) → IsAt last a n
    second-has a i = elim (place-is f a i) [
      | inl is ↦ put-kept new last b n more second-free a n (subst (λ (x : Place). IsAt new x n) (sym is) put.here)
      | inr is ↦ subst (λ (x : Place). IsAt last x n) (some-injective b a (sym second ∙ is)) more.here
    ]

-- one place less
pub removed-only : (old new : PlaceTable) (p : Place) → RemovedAt old p new → (a : Place) (t : ℕ) → IsAt new a t ↔ (IsAt old a t × (a ≡ p → ⊥))
removed-only old new p gone a t = elim (same? a p) [
  | inl is ↦ (
    (λ i. none-some t (sym gone.here ∙ subst (λ (x : Place). IsAt new x t) is i)),
    (λ h. absurd (h.1 is)),
  )
  | inr differs ↦ ((λ i. (sym (gone.others a differs) ∙ i, differs)), (λ h. gone.others a differs ∙ h.0))
]

-- what is written, as a list
pub written-in : (o : Option ℕ) (x : ℕ) → In x (written_of o) ↔ (o ≡ Some x)
written-in None x = ((λ i. absurd i), (λ h. none-some x h))
written-in (Some y) x = (
  (λ i. elim i [ inl is ↦ ap (λ (z : ℕ). Some z) (sym is) | inr none ↦ absurd none ]),
  (λ h. inl (sym (some-injective y x h))),
)

-- nothing is put yet, one use more is put, and all are
pub uses-kept : (table : UseTable) (n : ℕ) (xs : List ℕ) → MoreUses table n xs table
uses-kept table n xs = record { kept = λ x t u. u; only = λ x t u. inl u }

pub uses-in : (old new : UseTable) (n : ℕ) (xs ys : List ℕ) → ((x : ℕ) → In x xs → In x ys) → MoreUses old n xs new → MoreUses old n ys new
uses-in old new n xs ys inside m = record { kept = m.kept; only = λ x t u. elim (m.only x t u) [ inl k ↦ inl k | inr k ↦ inr (inside x k.0, k.1) ] }

pub uses-same : (old mid new : UseTable) (n : ℕ) (xs : List ℕ) → ((x t : ℕ) → Uses new x t ↔ Uses mid x t) → MoreUses old n xs mid → MoreUses old n xs new
uses-same old mid new n xs same m = record { kept = λ x t u. (same x t).1 (m.kept x t u); only = λ x t u. m.only x t ((same x t).0 u) }

module _ (old mid new : UseTable) (n y : ℕ) (xs ys : List ℕ) (next : ys ≡ xs ++ y ∷ []) (put : (x t : ℕ) → Uses new x t ↔ (Uses mid x t ⊎ ((x ≡ y) × (t ≡ n)))) where
  pub uses-next : MoreUses old n xs mid → MoreUses old n ys new
  uses-next m = record {
    kept = λ x t u. (put x t).1 (inl (m.kept x t u));
    only = λ x t u. elim ((put x t).0 u) [
      | inl k ↦ elim (m.only x t k) [
        | inl a ↦ inl a
        | inr a ↦ inr (subst (λ (zs : List ℕ). In x zs) (sym next) (in-left x xs (y ∷ []) a.0), a.1)
      ]
      | inr k ↦ inr (subst (λ (zs : List ℕ). In x zs) (sym next) (in-right x xs (y ∷ []) (inl k.0)), k.1)
    ];
  }

  pub has-next : ((x : ℕ) → In x xs → Uses mid x n) → (x : ℕ) → In x ys → Uses new x n
  has-next all x i = elim (in-parts x xs (y ∷ []) (subst (λ (zs : List ℕ). In x zs) next i)) [
    | inl a ↦ (put x n).1 (inl (all x a))
    | inr (inl a) ↦ (put x n).1 (inr (a, refl))
    | inr (inr a) ↦ absurd a
  ]

-- no use is taken out yet, and one more is
pub fewer-none : (table : UseTable) (n : ℕ) → FewerUses table n [] table
fewer-none table n x t = ((λ u. (u, λ h. h.0)), (λ h. h.0))

pub fewer-next : (old mid new : UseTable) (n y : ℕ) (xs ys : List ℕ) → ys ≡ xs ++ y ∷ [] → ((x t : ℕ) → Uses new x t ↔ (Uses mid x t × (((x ≡ y) × (t ≡ n)) → ⊥))) →
    FewerUses old n xs mid → FewerUses old n ys new
fewer-next old mid new n y xs ys next gone before x t = (
  (λ u.
      let now = (gone x t).0 u in
      let was = (before x t).0 now.0 in (
        was.0,
        λ h. elim (in-parts x xs (y ∷ []) (subst (λ (zs : List ℕ). In x zs) next h.0)) [
          | inl a ↦ was.1 (a, h.1)
          | inr (inl a) ↦ now.1 (a, h.1)
          | inr (inr a) ↦ a
        ],
      )),
  (λ h. (gone x t).1 (
    (before x t).1 (h.0, λ k. h.1 (subst (λ (zs : List ℕ). In x zs) (sym next) (in-left x xs (y ∷ []) k.0), k.1)),
    λ k. h.1 (subst (λ (zs : List ℕ). In x zs) (sym next) (in-right x xs (y ∷ []) (inl k.0)), k.1),
  )),
)

-- what was put in part and then taken out leaves the tables as they were
uses-again : (old mid new : UseTable) (n : ℕ) (xs : List ℕ) → ((x : ℕ) → Uses old x n → ⊥) → MoreUses old n xs mid → FewerUses mid n xs new → (x t : ℕ) → Uses new x t ↔ Uses old x t
uses-again old mid new n xs unused more fewer x t = (
  (λ u. let h = (fewer x t).0 u in elim (more.only x t h.0) [ inl k ↦ k | inr k ↦ absurd (h.1 k) ]),
  (λ u. (fewer x t).1 (more.kept x t u, λ h. unused x (subst (λ (v : ℕ). Uses old x v) h.1 u))),
)

pub same-again : (old mid new : Tables) (n : ℕ) (f : Event) → IsFresh old n f → MoreTables old n f mid → FewerTables mid n f new → SameTables old new
same-again old mid new n f fresh more fewer = record {
  places = λ a t. (
    (λ i. let h = (fewer.places a t).0 i in elim (more.places.only a t h.0) [ inl k ↦ k | inr k ↦ absurd (h.1 k.0) ]),
    (λ i. (fewer.places a t).1 (more.places.kept a t i, λ ia. fresh.places a t ia i)),
  );
  writers = uses-again old.writers mid.writers new.writers n (written_of f.written) fresh.writers more.writers fewer.writers;
  readers = uses-again old.readers mid.readers new.readers n f.read fresh.readers more.readers fewer.readers;
}

-- tables that hold the same are tables of the same live events
pub tables-same : (l : Live) (old new : Tables) → TablesOf l old → SameTables old new → TablesOf l new
tables-same l old new h same = record {
  places = λ a t. ((λ i. (h.places a t).0 ((same.places a t).0 i)), (λ k. (same.places a t).1 ((h.places a t).1 k)));
  writers = λ x t. ((λ i. (h.writers x t).0 ((same.writers x t).0 i)), (λ k. (same.writers x t).1 ((h.writers x t).1 k)));
  readers = λ x t. ((λ i. (h.readers x t).0 ((same.readers x t).0 i)), (λ k. (same.readers x t).1 ((h.readers x t).1 k)));
}

module _ (l : Live) (n : ℕ) (f : Event) where
  is-last : (t : ℕ) → t ≡ n → LiveAt (added l n f) t f
  is-last t is = in-right (t, f) l ((n, f) ∷ []) (inl (ap (λ (v : ℕ). (v, f)) is))

  -- a live event is an old one or the new one
  old-or-new : (t : ℕ) (e : Event) → LiveAt (added l n f) t e → LiveAt l t e ⊎ ((t ≡ n) × (e ≡ f))
  old-or-new t e i = elim (in-parts (t, e) l ((n, f) ∷ []) i) [
    | inl a ↦ inl a
    | inr (inl a) ↦ inr (ap (λ (y : ℕ × Event). y.0) a, ap (λ (y : ℕ × Event). y.1) a)
    | inr (inr a) ↦ absurd a
  ]

  pub tables-added : (old new : Tables) → TablesOf l old → MoreTables old n f new → HasEvent n f new → TablesOf (added l n f) new
  tables-added old new h more has = record {
    places = λ a t. (
      (λ i. elim (more.places.only a t i) [
        | inl k ↦ let at = (h.places a t).0 k in (at.0, in-left (t, at.0) l ((n, f) ∷ []) at.1, at.2)
        | inr k ↦ (f, is-last t k.1, k.0)
      ]),
      (λ k. elim (old-or-new t k.0 k.1) [
        | inl i ↦ more.places.kept a t ((h.places a t).1 (k.0, i, k.2))
        | inr is ↦ subst (λ (v : ℕ). IsAt new.places a v) (sym is.0) (has.places a (subst (λ (e : Event). In a (places e)) is.1 k.2))
      ]),
    );
    writers = λ x t. (
      (λ i. elim (more.writers.only x t i) [
        | inl k ↦ let at = (h.writers x t).0 k in (at.0, in-left (t, at.0) l ((n, f) ∷ []) at.1, at.2)
        | inr k ↦ (f, is-last t k.1, (written-in f.written x).0 k.0)
      ]),
      (λ k. elim (old-or-new t k.0 k.1) [
        | inl i ↦ more.writers.kept x t ((h.writers x t).1 (k.0, i, k.2))
        | inr is ↦ subst (λ (v : ℕ). Uses new.writers x v) (sym is.0)
            (has.writers x ((written-in f.written x).1 (subst (λ (e : Event). e.written ≡ Some x) is.1 k.2)))
      ]),
    );
    readers = λ x t. (
      (λ i. elim (more.readers.only x t i) [
        | inl k ↦ let at = (h.readers x t).0 k in (at.0, in-left (t, at.0) l ((n, f) ∷ []) at.1, at.2)
        | inr k ↦ (f, is-last t k.1, k.0)
      ]),
      (λ k. elim (old-or-new t k.0 k.1) [
        | inl i ↦ more.readers.kept x t ((h.readers x t).1 (k.0, i, k.2))
        | inr is ↦ subst (λ (v : ℕ). Uses new.readers x v) (sym is.0) (has.readers x (subst (λ (e : Event). In x e.read) is.1 k.2))
      ]),
    );
  }

  pub placed-added : Placed l → Rising 0 l n → ComesBehind l f → Placed (added l n f)
  placed-added p r behind = record {
    between = λ t u e g a b i j less ia ib. elim (old-or-new t e i) [
      | inl old ↦ elim (old-or-new u g j) [
        | inl later ↦ p.between t u e g a b old later less ia ib
        | inr is ↦ behind.placed t e a b old ia (subst (λ (x : Event). In b (places x)) is.1 ib)
      ]
      | inr is ↦ elim (old-or-new u g j) [
        | inl later ↦
            let low : u < n = (rising-in 0 n l u g r later).1 in
            let one : t ≡ n = is.0 in
            absurd (omega arith)
        | inr two ↦
            let one : t ≡ n = is.0 in
            let other : u ≡ n = two.0 in
            absurd (omega arith)
      ]
    ];
    own = λ t e b i second. elim (old-or-new t e i) [
      | inl old ↦ p.own t e b old second
      | inr is ↦ subst (λ (x : Event). Apart x.first b) (sym is.1) (behind.own b (subst (λ (x : Event). x.second ≡ Some b) is.1 second))
    ];
  }

  -- a new event is not in the tables
  pub fresh-behind : (tables : Tables) → TablesOf l tables → Rising 0 l n → ComesBehind l f → IsFresh tables n f
  fresh-behind tables h r behind = record {
    places = λ a t ia at. let e = (h.places a t).0 at in not-one a a (behind.placed t e.0 a a e.1 e.2 ia) refl;
    writers = λ x u. let e = (h.writers x n).0 u in let less : n < n = (rising-in 0 n l n e.0 r e.1).1 in omega arith;
    readers = λ x u. let e = (h.readers x n).0 u in let less : n < n = (rising-in 0 n l n e.0 r e.1).1 in omega arith;
    own = behind.own;
  }

module _ (next : ℕ) (l k : Live) (t : ℕ) (e : Event) (r : Rising 0 l next) (i : LiveAt l t e) (left : WithoutTickets (λ v. v ≡ t) l k) where
  was-there : (u : ℕ) (g : Event) → LiveAt k u g → LiveAt l u g × (u ≡ t → ⊥)
  was-there u g j = (without-live (λ (v : ℕ). v ≡ t) l k left).0 u g j

  is-left : (u : ℕ) (g : Event) → LiveAt l u g → (u ≡ t → ⊥) → LiveAt k u g
  is-left u g j other = (without-live (λ (v : ℕ). v ≡ t) l k left).1 u g j other

  -- the event of the ticket is the one that is taken
  taken-one : (u : ℕ) (g : Event) → LiveAt l u g → u ≡ t → g ≡ e
  taken-one u g j is = rising-one 0 next l t g e r (subst (λ (v : ℕ). LiveAt l v g) is j) i

  uses-taken : (P : Event → ℕ → Type 0) (old new : UseTable) (xs : List ℕ) (has : (x : ℕ) → In x xs ↔ P e x) →
      ((x u : ℕ) → Uses old x u ↔ ((g : Event) × LiveAt l u g × P g x)) → FewerUses old t xs new → (x u : ℕ) → Uses new x u ↔ ((g : Event) × LiveAt k u g × P g x)
  uses-taken P old new xs has h fewer x u = (
    (λ used.
        let now = (fewer x u).0 used in
        let g = (h x u).0 now.0 in
        (g.0, is-left u g.0 g.1 (λ is. now.1 ((has x).1 (subst (λ (y : Event). P y x) (taken-one u g.0 g.1 is) g.2), is)), g.2)),
    (λ g.
        let was = was-there u g.0 g.1 in
        (fewer x u).1 ((h x u).1 (g.0, was.0, g.2), λ k. was.1 k.1)),
  )

  pub tables-taken : (old new : Tables) → Placed l → TablesOf l old → FewerTables old t e new → TablesOf k new
  tables-taken old new p h fewer = record {
    places = λ a u. (
      (λ at.
          let now = (fewer.places a u).0 at in
          let g = (h.places a u).0 now.0 in
          (g.0, is-left u g.0 g.1 (λ is. now.1 (subst (λ (y : Event). In a (places y)) (taken-one u g.0 g.1 is) g.2)), g.2)),
      (λ g.
          let was = was-there u g.0 g.1 in
          (fewer.places a u).1 (
            (h.places a u).1 (g.0, was.0, g.2),
            λ ia. elim (cases_lt u t) [
              | inl low ↦ not-one a a (p.between u t g.0 e a a was.0 i low g.2 ia) refl
              | inr high ↦ elim (cases_lt t u) [
                | inl up ↦ not-one a a (p.between t u e g.0 a a i was.0 up ia g.2) refl
                | inr equal ↦ was.1 (omega arith)
              ]
            ],
          )),
    );
    writers = uses-taken (λ g x. g.written ≡ Some x) old.writers new.writers (written_of e.written) (written-in e.written) h.writers fewer.writers;
    readers = uses-taken (λ g x. In x g.read) old.readers new.readers e.read (λ x. ((λ j. j), (λ j. j))) h.readers fewer.readers;
  }

  pub placed-taken : Placed l → Placed k
  placed-taken p = record {
    between = λ u v g h a b j m less ia ib. p.between u v g h a b (was-there u g j).0 (was-there v h m).0 less ia ib;
    own = λ u g b j second. p.own u g b (was-there u g j).0 second;
  }

-- two addresses of one event are one, or apart
own-tree : (l : Live) (t : ℕ) (e : Event) (a c : Place) → Placed l → LiveAt l t e → In a (places e) → In c (places e) → OneTree a c
own-tree l t e a c p i ia ic = elim (place-is e a ia) [
  | inl first ↦ elim (place-is e c ic) [
    | inl other ↦ inl (first ∙ sym other)
    | inr second ↦ inr (inr (inr (subst (λ (x : Place). Apart x c) (sym first) (p.own t e c i second))))
  ]
  | inr second ↦ elim (place-is e c ic) [
    | inl first ↦ inr (inr (inr (apart-symmetric c a (subst (λ (x : Place). Apart x a) (sym first) (p.own t e a i second)))))
    | inr other ↦ inl (some-injective a c (sym second ∙ other))
  ]
]

-- the places of the table stand in one tree with those of a new event
pub orderly-behind : (next : ℕ) (l : Live) (tables : Tables) (f : Event) (b : Place) → Rising 0 l next → IsTabled l tables → ComesBehind l f → In b (places f) →
    Orderly tables.places b
orderly-behind next l tables f b r h behind ib = record {
  inside = λ a c t u at cu.
      let e = (h.tables.places a t).0 at in
      let g = (h.tables.places c u).0 cu in
      elim (cases_lt t u) [
        | inl low ↦ elim (h.placed.between t u e.0 g.0 a c e.1 g.1 low e.2 g.2) [ inl k ↦ inr (inl k) | inr k ↦ inr (inr (inr k)) ]
        | inr high ↦ elim (cases_lt u t) [
          | inl up ↦ elim (h.placed.between u t g.0 e.0 c a g.1 e.1 up g.2 e.2) [ inl k ↦ inr (inr (inl k)) | inr k ↦ inr (inr (inr (apart-symmetric c a k))) ]
          | inr equal ↦
              let is : u ≡ t = omega arith in
              let one : g.0 ≡ e.0 = rising-one 0 next l t g.0 e.0 r (subst (λ (v : ℕ). LiveAt l v g.0) is g.1) e.1 in
              own-tree l t e.0 a c h.placed e.1 e.2 (subst (λ (y : Event). In c (places y)) one g.2)
        ]
      ];
  outside = λ a t at.
      let e = (h.tables.places a t).0 at in
      behind.placed t e.0 a b e.1 e.2 ib;
}

-- the other way round
tree-back : (a b : Place) → OneTree a b → OneTree b a
tree-back a b h = elim h [
  | inl is ↦ inl (sym is)
  | inr (inl low) ↦ inr (inr (inl low))
  | inr (inr (inl high)) ↦ inr (inl high)
  | inr (inr (inr apart)) ↦ inr (inr (inr (apart-symmetric a b apart)))
]

in-tree : (a b : Place) → Before a b ⊎ Apart a b → OneTree a b
in-tree a b h = elim h [ inl low ↦ inr (inl low) | inr apart ↦ inr (inr (inr apart)) ]

-- and where the first of the new event's is put, with the second
pub orderly-put : (old new : PlaceTable) (n : ℕ) (f : Event) (p : Place) → ((b : Place) → In b (places f) → Orderly old b) → ((z : Place) → f.second ≡ Some z → Apart f.first z) →
    PutAt old f.first n new → f.second ≡ Some p → Orderly new p
orderly-put old new n f p orderly own put second =
    let first = orderly f.first (inl refl) in
    record {
      inside = λ b c t u at cu. elim (put-only old new f.first n put b t at) [
        | inl low ↦ elim (put-only old new f.first n put c u cu) [
          | inl high ↦ first.inside b c t u low high
          | inr is ↦ subst (λ (x : Place). OneTree b x) (sym is.0) (in-tree b f.first (first.outside b t low))
        ]
        | inr is ↦ elim (put-only old new f.first n put c u cu) [
          | inl high ↦ subst (λ (x : Place). OneTree x c) (sym is.0) (tree-back c f.first (in-tree c f.first (first.outside c u high)))
          | inr two ↦ inl (is.0 ∙ sym two.0)
        ]
      ];
      outside = λ b t at. elim (put-only old new f.first n put b t at) [
        | inl low ↦ (orderly p (second-in f p second)).outside b t low
        | inr is ↦ inr (subst (λ (x : Place). Apart x p) (sym is.0) (own p second))
      ];
    }

-- places that hold the same
pub places-same : (old mid new : PlaceTable) (n : ℕ) (ps : List Place) → ((a : Place) → ticket_at new a ≡ ticket_at mid a) → MorePlaces old n ps mid → MorePlaces old n ps new
places-same old mid new n ps same m = record { kept = λ a t i. same a ∙ m.kept a t i; only = λ a t i. m.only a t (sym (same a) ∙ i) }

-- the second address, put or refused
pub second-more : {A E : Type 0} (r : Result A E) (old mid last : PlaceTable) (n : ℕ) (f : Event) (b : Place) → ((a : Place) (t : ℕ) → In a (places f) → IsAt old a t → ⊥) →
    ((z : Place) → f.second ≡ Some z → Apart f.first z) → PutAt old f.first n mid → f.second ≡ Some b → OnOk r (PutAt mid b n last) → OnErr r (Same mid last) →
    MorePlaces old n (places f) last
second-more (Ok x) old mid last n f b free own put second more same = second-put old mid n f free put b second (own b second) last more
second-more (Err e) old mid last n f b free own put second more same = places-same old mid last n (places f) same (first-put old mid n f free put)

pub second-all : {A E : Type 0} (r : Result A E) (old mid last : PlaceTable) (n : ℕ) (f : Event) (b : Place) → ((a : Place) (t : ℕ) → In a (places f) → IsAt old a t → ⊥) →
    ((z : Place) → f.second ≡ Some z → Apart f.first z) → PutAt old f.first n mid → f.second ≡ Some b → OnOk r (PutAt mid b n last) →
    OnOk r ((a : Place) → In a (places f) → IsAt last a n)
second-all (Ok x) old mid last n f b free own put second more = second-has old mid n f free put b second (own b second) last more
second-all (Err e) old mid last n f b free own put second more = tt

-- one more of the numbers that are gone through
pub read-next : (xs : List ℕ) (i : ℕ) → i < length xs → take (i + 1) xs ≡ take i xs ++ get_or xs i 0 ∷ []
read-next xs i less =
    let more : i + 1 ≡ suc i = omega arith in
    ap (λ (k : ℕ). take k xs) more ∙ take-next xs i (get_or xs i 0) (slice_get-get_or xs i 0 less)

-- the tables and the live events after one more
pub tabled-added : (l k : Live) (old new : Tables) (n : ℕ) (f : Event) → IsTabled l old → Rising 0 l n → ComesBehind l f → MoreTables old n f new → HasEvent n f new →
    k ≡ added l n f → IsTabled k new
tabled-added l k old new n f h r behind more has is = subst (λ (v : Live). IsTabled v new) (sym is) (record {
  tables = tables-added l n f old new h.tables more has;
  placed = placed-added l n f h.placed r behind;
})

-- other tables that hold the same
pub tabled-same : (l k : Live) (old new : Tables) → IsTabled l old → SameTables old new → k ≡ l → IsTabled k new
tabled-same l k old new h same is =
    subst (λ (v : Live). IsTabled v new) (sym is) (record { tables = tables-same l old new h.tables same; placed = h.placed })

-- the tables and the live events after one less
pub tabled-taken : (next : ℕ) (l k : Live) (old new : Tables) (t : ℕ) (e : Event) → Rising 0 l next → LiveAt l t e → WithoutTickets (λ v. v ≡ t) l k → IsTabled l old →
    FewerTables old t e new → IsTabled k new
tabled-taken next l k old new t e r i left h fewer = record {
  tables = tables-taken next l k t e r i left old new h.placed h.tables fewer;
  placed = placed-taken next l k t e r i left h.placed;
}

-- what follows of an answer
pub ok-weaker : {A E P Q : Type 0} (r : Result A E) → (P → Q) → OnOk r P → OnOk r Q
ok-weaker (Ok x) f p = f p
ok-weaker (Err e) f p = tt

pub err-weaker : {A E P Q : Type 0} (r : Result A E) → (P → Q) → OnErr r P → OnErr r Q
err-weaker (Ok x) f p = tt
err-weaker (Err e) f p = f p

-- what holds anyway holds of an answer
pub on-ok-of : {A E : Type 0} (r : Result A E) (P : Type 0) → P → OnOk r P
on-ok-of (Ok x) P p = p
on-ok-of (Err e) P p = tt

pub on-err-of : {A E : Type 0} (r : Result A E) (P : Type 0) → P → OnErr r P
on-err-of (Ok x) P p = tt
on-err-of (Err e) P p = p
