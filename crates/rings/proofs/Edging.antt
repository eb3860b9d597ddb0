-- Tables of who stands at which place, and who waits behind which.
use Rattle.std.proofs.Common.{◌≡◌, ◌⊎◌, inl, inr, ℕ, ◌+◌, ◌<◌, ◌≤◌, List, [], ◌∷◌, ◌++◌, take, drop, length, Option, Some, None, option_map, slice_get, refl, sym, ◌∙◌, ap, subst, arith, length-append, take-append-drop}
use Rattle.std.proofs.lemmas.Bool.{cases_eq, cases_lt}
use Rattle.std.proofs.lemmas.List.{take_all, take_at}
use Rattle.std.proofs.lemmas.Option.{slice_get_within}
use Rattle.std.specs.Prelude.{◌↔◌}
use Rattle.dependence.specs.LastEvents.{LastUse, Uses}
use Rattle.dependence.specs.declared.uses.UseTable.{UseTable}
use Rattle.runs.proofs.public.Options.{none-some, some-injective}
use Rattle.runs.specs.Moves.{Place}
use Rattle.local_actions.specs.Actions.{Under}
use Rattle.local_actions.specs.declared.action.LocalAction.{LocalAction}
use Rattle.rings.specs.declared.partner.Partner.{Partner}
use Rattle.rings.specs.declared.partner.Partner.TheVariants as partner
use Rattle.rings.specs.declared.place_uses.PlaceUses.{PlaceUses}
use Rattle.rings.specs.internal.Search.{place_at}
use Rattle.rings.specs.internal.Standing.{HasAbove, HasActions, HasUnder, HasWaiters, RowOver, Sound, StandsAt, StandsUnder, row_at}
use Rattle.rings.proofs.PlaceRows.{PutMore}

-- ---- at each place the numbers of those of a list that are there
-- those before index n
pub record StandBelow (table : PlaceUses) (n : ℕ) (P : Place → ℕ → Type 0) : Type 0 where
  pub sound : Sound table
  pub stand : (a : Place) (i : ℕ) → StandsAt table a i ↔ ((i < n) × P a i)

pub stand-none : (table : PlaceUses) (P : Place → ℕ → Type 0) → Sound table → ((a : Place) (i : ℕ) → StandsAt table a i → ⊥) → StandBelow table 0 P
stand-none table P sound none = record {
  sound = sound;
  stand = λ a i. (λ s. absurd (none a i s), λ u. let less : i < 0 = u.0 in absurd (omega (arith, less)));
}

pub stand-more : (old new : PlaceUses) (n : ℕ) (P : Place → ℕ → Type 0) → StandBelow old n P → Sound new
    → ((a : Place) (i : ℕ) → StandsAt new a i ↔ (StandsAt old a i ⊎ (P a n × (i ≡ n)))) → StandBelow new (n + 1) P
stand-more old new n P h sound put = record {
  sound = sound;
  stand = λ a i. (
    λ s. elim ((put a i).0 s) [
      | inl t ↦ let both = (h.stand a i).0 t in let less : i < n = both.0 in (omega (arith, less), both.1)
      | inr u ↦ let same : i ≡ n = u.1 in (omega (arith, same), subst (λ (k : ℕ). P a k) (sym same) u.0)
    ],
    λ u.
        let less : i < n + 1 = u.0 in
        elim (cases_eq i n) [
          | inl same ↦ (put a i).1 (inr (subst (λ (k : ℕ). P a k) same u.1, same))
          | inr apart ↦ (put a i).1 (inl ((h.stand a i).1 (omega (arith, less, apart), u.1)))
        ],
  );
}

-- partners
abbrev pub ComesBehind : List Partner → Place → ℕ → Type 0
ComesBehind ps a i = slice_get ps i ≡ Some (partner.Behind a)

pub behind-more : (ps : List Partner) (p : Partner) (n : ℕ) (old new : PlaceUses) → slice_get ps n ≡ Some p
    → ((a : Place) (i : ℕ) → StandsAt new a i ↔ (StandsAt old a i ⊎ ((p ≡ partner.Behind a) × (i ≡ n))))
    → (a : Place) (i : ℕ) → StandsAt new a i ↔ (StandsAt old a i ⊎ (ComesBehind ps a n × (i ≡ n)))
behind-more ps p n old new at put a i = (
  λ s. elim ((put a i).0 s) [ inl t ↦ inl t | inr u ↦ inr (at ∙ ap (λ (q : Partner). Some q) u.0, u.1) ],
  λ h. (put a i).1 (elim h [ inl t ↦ inl t | inr u ↦ inr (some-injective p (partner.Behind a) (sym at ∙ u.0), u.1) ]),
)

pub all-waiters : (ps : List Partner) (table : PlaceUses) (n : ℕ) → length ps ≤ n → StandBelow table n (ComesBehind ps) → HasWaiters table ps
all-waiters ps table n all h a i = (
  λ s. ((h.stand a i).0 s).1,
  λ is. let less : i < length ps = slice_get_within ps i (partner.Behind a) is in (h.stand a i).1 (omega (arith, less, all), is),
)

-- a partner that comes behind a place, and one that does not
pub behind-put : (p : Partner) (b : Place) (number : ℕ) (old new : PlaceUses) → p ≡ partner.Behind b → PutMore old new b number
    → (a : Place) (i : ℕ) → StandsAt new a i ↔ (StandsAt old a i ⊎ ((p ≡ partner.Behind a) × (i ≡ number)))
behind-put p b number old new is put a i = (
  λ s. elim ((put a i).0 s) [ inl t ↦ inl t | inr u ↦ inr (is ∙ ap (λ (c : Place). partner.Behind c) (sym u.0), u.1) ],
  λ h. (put a i).1 (elim h [ inl t ↦ inl t | inr u ↦ inr (let one : partner.Behind a ≡ partner.Behind b = sym u.0 ∙ is in behind-one a b one, u.1) ]),
)
  where
    behind-one : (c d : Place) → partner.Behind c ≡ partner.Behind d → c ≡ d
    behind-one c d e = cc

pub not-behind-put : (p : Partner) (number : ℕ) (table : PlaceUses) → ((a : Place) → p ≡ partner.Behind a → ⊥)
    → (a : Place) (i : ℕ) → StandsAt table a i ↔ (StandsAt table a i ⊎ ((p ≡ partner.Behind a) × (i ≡ number)))
not-behind-put p number table none a i = (λ s. inl s, λ h. elim h [ inl t ↦ t | inr u ↦ absurd (none a u.0) ])

-- actions
abbrev pub StandsThere : List LocalAction → Place → ℕ → Type 0
StandsThere xs a i = place_at xs i ≡ Some a

pub there-more : (xs : List LocalAction) (x : LocalAction) (n : ℕ) (b : Place) (old new : PlaceUses) → slice_get xs n ≡ Some x → b ≡ x.place → PutMore old new b n
    → (a : Place) (i : ℕ) → StandsAt new a i ↔ (StandsAt old a i ⊎ (StandsThere xs a n × (i ≡ n)))
there-more xs x n b old new at is put a i = (
  λ s. elim ((put a i).0 s) [ inl t ↦ inl t | inr u ↦ inr (there ∙ ap (λ (c : Place). Some c) (sym is ∙ sym u.0), u.1) ],
  λ h. (put a i).1 (elim h [ inl t ↦ inl t | inr u ↦ inr (some-injective a b (sym u.0 ∙ there ∙ ap (λ (c : Place). Some c) (sym is)), u.1) ]),
)
  where
    there : place_at xs n ≡ Some x.place
    there = ap (option_map (λ (z : LocalAction). z.place)) at

pub all-there : (xs : List LocalAction) (table : PlaceUses) (n : ℕ) → length xs ≤ n → StandBelow table n (StandsThere xs) → HasActions table xs
all-there xs table n all h a i = (
  λ s. ((h.stand a i).0 s).1,
  λ is. let less : i < length xs = within (slice_get xs i) refl is in (h.stand a i).1 (omega (arith, less, all), is),
)
  where
    within : (o : Option LocalAction) → slice_get xs i ≡ o → place_at xs i ≡ Some a → i < length xs
    within None e f = none-some a (sym (ap (option_map (λ (z : LocalAction). z.place)) e) ∙ f)
    within (Some x) e f = slice_get_within xs i x e

-- ---- what is added to a row
abbrev pub Added : UseTable → UseTable → ℕ → (ℕ → Type 0) → Type 0
Added old new number P = (j i : ℕ) → Uses new j i ↔ (Uses old j i ⊎ ((j ≡ number) × P i))

pub added-none : (old : UseTable) (number : ℕ) (P : ℕ → Type 0) → ((i : ℕ) → P i → ⊥) → Added old old number P
added-none old number P none j i = (λ u. inl u, λ h. elim h [ inl u ↦ u | inr v ↦ absurd (none i v.1) ])

pub added-as : (old new : UseTable) (number : ℕ) (P Q : ℕ → Type 0) → ((i : ℕ) → P i ↔ Q i) → Added old new number P → Added old new number Q
added-as old new number P Q same h j i = (
  λ u. elim ((h j i).0 u) [ inl v ↦ inl v | inr v ↦ inr (v.0, (same i).0 v.1) ],
  λ g. (h j i).1 (elim g [ inl v ↦ inl v | inr v ↦ inr (v.0, (same i).1 v.1) ]),
)

pub added-both : (old mid new : UseTable) (number : ℕ) (P Q R : ℕ → Type 0) → ((i : ℕ) → (P i ⊎ Q i) ↔ R i) → Added old mid number P → Added mid new number Q → Added old new number R
added-both old mid new number P Q R same h g j i = (
  λ u. elim ((g j i).0 u) [
    | inl v ↦ elim ((h j i).0 v) [ inl w ↦ inl w | inr w ↦ inr (w.0, (same i).0 (inl w.1)) ]
    | inr v ↦ inr (v.0, (same i).0 (inr v.1))
  ],
  λ k. elim k [
    | inl v ↦ (g j i).1 (inl ((h j i).1 (inl v)))
    | inr v ↦ elim ((same i).1 v.1) [
      | inl w ↦ (g j i).1 (inl ((h j i).1 (inr (v.0, w))))
      | inr w ↦ (g j i).1 (inr (v.0, w))
    ]
  ],
)

-- ---- at a place and at those above it
-- a place that has a row, and one that has none
pub row-put : (table : PlaceUses) (a : Place) (row number index : ℕ) (old new : UseTable) → row_at table a ≡ Some row → index ≡ number
    → ((x t : ℕ) → Uses new x t ↔ (Uses old x t ⊎ ((x ≡ index) × (t ≡ row)))) → Added old new number (λ (g : ℕ). row_at table a ≡ Some g)
row-put table a row number index old new at is put j g = (
  λ u. elim ((put j g).0 u) [ inl v ↦ inl v | inr v ↦ inr (v.0 ∙ is, at ∙ ap (λ (k : ℕ). Some k) (sym v.1)) ],
  λ h. (put j g).1 (elim h [ inl v ↦ inl v | inr v ↦ inr (v.0 ∙ sym is, some-injective g row (sym v.1 ∙ at)) ]),
)

pub row-none : (table : PlaceUses) (a : Place) (number : ℕ) (old : UseTable) → row_at table a ≡ None → Added old old number (λ (g : ℕ). row_at table a ≡ Some g)
row-none table a number old none = added-none old number (λ (g : ℕ). row_at table a ≡ Some g) (λ g h. none-some g (sym none ∙ h))

abbrev pub AtPrefix : PlaceUses → Place → ℕ → ℕ → Type 0
AtPrefix table a n g = (l : ℕ) × (l < n) × (row_at table (take l a) ≡ Some g)

pub prefix-none : (table : PlaceUses) (a : Place) (g : ℕ) → AtPrefix table a 0 g → ⊥
prefix-none table a g h = let less : h.0 < 0 = h.1 in omega (arith, less)

pub prefix-more : (table : PlaceUses) (a b : Place) (n number : ℕ) (old mid new : UseTable) → b ≡ take n a → Added old mid number (AtPrefix table a n)
    → Added mid new number (λ (g : ℕ). row_at table b ≡ Some g) → Added old new number (AtPrefix table a (n + 1))
prefix-more table a b n number old mid new is =
    added-both old mid new number (AtPrefix table a n) (λ (g : ℕ). row_at table b ≡ Some g) (AtPrefix table a (n + 1))
    (λ g. (forth g, back g))
  where
    forth : (g : ℕ) → (AtPrefix table a n g ⊎ (row_at table b ≡ Some g)) → AtPrefix table a (n + 1) g
    forth g (inl h) = let less : h.0 < n = h.1 in (h.0, omega (arith, less), h.2)
    forth g (inr h) = (n, omega arith, subst (λ (c : Place). row_at table c ≡ Some g) is h)

    back : (g : ℕ) → AtPrefix table a (n + 1) g → AtPrefix table a n g ⊎ (row_at table b ≡ Some g)
    back g h = let less : h.0 < n + 1 = h.1 in elim (cases_eq h.0 n) [
      | inl same ↦ inr (subst (λ (c : Place). row_at table c ≡ Some g) (ap (λ (k : ℕ). take k a) same ∙ sym is) h.2)
      | inr apart ↦ inl (h.0, omega (arith, less, apart), h.2)
    ]

pub prefix-all : (table : PlaceUses) (a : Place) (n number : ℕ) (old mid new : UseTable) → length a ≤ n → n ≤ length a → Added old mid number (AtPrefix table a n)
    → Added mid new number (λ (g : ℕ). row_at table a ≡ Some g) → Added old new number (λ (g : ℕ). RowOver table a g)
prefix-all table a n number old mid new all within =
    added-both old mid new number (AtPrefix table a n) (λ (g : ℕ). row_at table a ≡ Some g) (λ (g : ℕ). RowOver table a g)
    (λ g. (forth g, back g))
  where
    whole : a ++ [] ≡ a
    whole = nothing-behind a
      where
        nothing-behind : (b : Place) → b ++ [] ≡ b
        nothing-behind [] = refl
        nothing-behind (x ∷ b) = ap (λ (c : Place). x ∷ c) (nothing-behind b)

    forth : (g : ℕ) → (AtPrefix table a n g ⊎ (row_at table a ≡ Some g)) → RowOver table a g
    forth g (inl h) = (take h.0 a, (drop h.0 a, sym (take-append-drop h.0 a)), h.2)
    forth g (inr h) = (a, ([], sym whole), h)

    back : (g : ℕ) → RowOver table a g → AtPrefix table a n g ⊎ (row_at table a ≡ Some g)
    back g h =
        let p : Place = h.0 in
        let under : Under p a = h.1 in
        let size : length a ≡ length p + length under.0 = ap (λ (b : Place). length b) under.1 ∙ length-append p under.0 in
        let is : take (length p) a ≡ p = ap (take (length p)) under.1 ∙ take_at p under.0 (length p) refl in
        elim (cases_lt (length p) (length a)) [
          | inl less ↦ inl (length p, omega (arith, less, all), subst (λ (c : Place). row_at table c ≡ Some g) (sym is) h.2)
          | inr more ↦
              let same : length p ≡ length a = omega (arith, more, size) in
              let one : p ≡ a = sym is ∙ take_all (length p) a (omega (arith, same)) in
              inr (subst (λ (c : Place). row_at table c ≡ Some g) one h.2)
        ]

-- ---- rows of actions
pub place-within : (xs : List LocalAction) (j : ℕ) (a : Place) → place_at xs j ≡ Some a → j < length xs
place-within xs j a h = pick (slice_get xs j) refl h
  where
    pick : (o : Option LocalAction) → slice_get xs j ≡ o → place_at xs j ≡ Some a → j < length xs
    pick None e f = none-some a (sym (ap (option_map (λ (z : LocalAction). z.place)) e) ∙ f)
    pick (Some x) e f = slice_get_within xs j x e

-- the rows of the first n
abbrev pub RowsBelow : UseTable → PlaceUses → List LocalAction → ℕ → Type 0
RowsBelow above table xs n = (j g : ℕ) → Uses above j g ↔ ((j < n) × StandsUnder table xs g j)

pub rows-none : (above : UseTable) (table : PlaceUses) (xs : List LocalAction) → ((j g : ℕ) → Uses above j g → ⊥) → RowsBelow above table xs 0
rows-none above table xs none j g = (λ u. absurd (none j g u), λ r. let less : j < 0 = r.0 in absurd (omega (arith, less)))

pub rows-more : (old new : UseTable) (table : PlaceUses) (xs : List LocalAction) (n : ℕ) (x : LocalAction) (a : Place) → slice_get xs n ≡ Some x → a ≡ x.place
    → RowsBelow old table xs n → Added old new n (λ (g : ℕ). RowOver table a g) → RowsBelow new table xs (n + 1)
rows-more old new table xs n x a at is h more j g = (
  λ u. elim ((more j g).0 u) [
    | inl v ↦ let w = (h j g).0 v in let less : j < n = w.0 in (omega (arith, less), w.1)
    | inr v ↦ let same : j ≡ n = v.0 in (omega (arith, same), (a, ap (place_at xs) same ∙ there, v.1))
  ],
  λ r.
      let less : j < n + 1 = r.0 in
      elim (cases_eq j n) [
        | inl same ↦
            let one : r.1.0 ≡ a = some-injective r.1.0 a (sym r.1.1 ∙ ap (place_at xs) same ∙ there) in
            (more j g).1 (inr (same, subst (λ (b : Place). RowOver table b g) one r.1.2))
        | inr apart ↦ (more j g).1 (inl ((h j g).1 (omega (arith, less, apart), r.1)))
      ],
)
  where
    there : place_at xs n ≡ Some a
    there = ap (option_map (λ (z : LocalAction). z.place)) at ∙ ap (λ (b : Place). Some b) (sym is)

pub all-above : (above : UseTable) (table : PlaceUses) (xs : List LocalAction) (n : ℕ) → length xs ≤ n → RowsBelow above table xs n → HasAbove above table xs
all-above above table xs n all h j g = (
  λ u. ((h j g).0 u).1,
  λ s. let within : j < length xs = place-within xs j s.0 s.1 in (h j g).1 (omega (arith, within, all), s),
)

-- ---- rows that are turned round
abbrev pub Turned : UseTable → UseTable → ℕ → (ℕ → Type 0) → Type 0
Turned old new number P = (i j : ℕ) → Uses new i j ↔ (Uses old i j ⊎ ((j ≡ number) × P i))

-- those in the row of a number, from another one on
abbrev pub InRowFrom : UseTable → ℕ → ℕ → ℕ → ℕ → Type 0
InRowFrom edges number limit below i = (below ≤ i) × (i < limit) × Uses edges number i

pub turned-none : (edges old : UseTable) (number limit : ℕ) → Turned old old number (InRowFrom edges number limit limit)
turned-none edges old number limit i j = (
  λ u. inl u,
  λ h. elim h [ inl u ↦ u | inr v ↦ let up : limit ≤ i = v.1.0 in let less : i < limit = v.1.1 in absurd (omega (arith, up, less)) ],
)

pub turned-more : (edges old mid new : UseTable) (limit below found row turn number : ℕ) → LastUse edges row below found → below ≤ limit → row ≡ number → turn ≡ found
    → Turned old mid number (InRowFrom edges number limit below) → ((x t : ℕ) → Uses new x t ↔ (Uses mid x t ⊎ ((x ≡ turn) × (t ≡ number))))
    → Turned old new number (InRowFrom edges number limit found)
turned-more edges old mid new limit below found row turn number last upto is same h put i j = (
  λ u. elim ((put i j).0 u) [
    | inl v ↦ elim ((h i j).0 v) [
      | inl w ↦ inl w
      | inr w ↦ let up : below ≤ i = w.1.0 in inr (w.0, (omega (arith, under, up), w.1.1, w.1.2))
    ]
    | inr v ↦
        let e : i ≡ found = v.0 ∙ same in
        inr (v.1, (omega (arith, e), omega (arith, e, under, upto), subst (λ (k : ℕ). Uses edges number k) (sym e) (subst (λ (k : ℕ). Uses edges k found) is last.uses)))
  ],
  λ g. (put i j).1 (elim g [
    | inl w ↦ inl ((h i j).1 (inl w))
    | inr w ↦ elim (cases_lt i below) [
      | inl less ↦
          let up : found ≤ i = w.1.0 in
          let down : i ≤ found = last.last i (subst (λ (k : ℕ). Uses edges k i) (sym is) w.1.2) less in
          inr (omega (arith, up, down, same), w.0)
      | inr more ↦ inl ((h i j).1 (inr (w.0, (more, w.1.1, w.1.2))))
    ]
  ]),
)
  where
    under : found < below
    under = last.less

pub turned-all : (edges old new : UseTable) (limit below row number : ℕ) → row ≡ number → ((i : ℕ) → Uses edges row i → i < below → ⊥)
    → Turned old new number (InRowFrom edges number limit below) → Turned old new number (λ (i : ℕ). (i < limit) × Uses edges number i)
turned-all edges old new limit below row number is none h i j = (
  λ u. elim ((h i j).0 u) [ inl v ↦ inl v | inr v ↦ inr (v.0, (v.1.1, v.1.2)) ],
  λ g. (h i j).1 (elim g [
    | inl v ↦ inl v
    | inr v ↦ inr (v.0, (elim (cases_lt i below) [ inl less ↦ absurd (none i (subst (λ (k : ℕ). Uses edges k i) (sym is) v.1.1) less) | inr more ↦ more ], v.1.0, v.1.1))
  ]),
)

-- the rows of those before index n are
abbrev pub TurnedBelow : UseTable → UseTable → ℕ → ℕ → Type 0
TurnedBelow edges nexts limit n = (i j : ℕ) → Uses nexts i j ↔ ((j < n) × ((i < limit) × Uses edges j i))

pub below-none : (edges nexts : UseTable) (limit : ℕ) → ((i j : ℕ) → Uses nexts i j → ⊥) → TurnedBelow edges nexts limit 0
below-none edges nexts limit none i j = (λ u. absurd (none i j u), λ u. let less : j < 0 = u.0 in absurd (omega (arith, less)))

pub below-more : (edges old new : UseTable) (limit n : ℕ) → TurnedBelow edges old limit n → Turned old new n (λ (i : ℕ). (i < limit) × Uses edges n i) → TurnedBelow edges new limit (n + 1)
below-more edges old new limit n h more i j = (
  λ u. elim ((more i j).0 u) [
    | inl v ↦ let w = (h i j).0 v in let less : j < n = w.0 in (omega (arith, less), w.1)
    | inr v ↦ let same : j ≡ n = v.0 in (omega (arith, same), (v.1.0, subst (λ (k : ℕ). Uses edges k i) (sym same) v.1.1))
  ],
  λ u.
      let less : j < n + 1 = u.0 in
      elim (cases_eq j n) [
        | inl same ↦ (more i j).1 (inr (same, (u.1.0, subst (λ (k : ℕ). Uses edges k i) same u.1.1)))
        | inr apart ↦ (more i j).1 (inl ((h i j).1 (omega (arith, less, apart), u.1)))
      ],
)

pub all-under : (above under : UseTable) (table : PlaceUses) (xs : List LocalAction) (n limit : ℕ) → length xs ≤ n → limit ≡ table.count → Sound table → HasAbove above table xs
    → TurnedBelow above under limit n → HasUnder under table xs
all-under above under table xs n limit all is sound has h g j = (
  λ u. (has j g).0 ((h g j).0 u).1.1,
  λ s.
      let within : j < length xs = place-within xs j s.0 s.1 in
      let less : g < table.count = sound.below s.2.0 g s.2.2 in
      (h g j).1 (omega (arith, within, all), (omega (arith, less, is), (has j g).1 s)),
)
