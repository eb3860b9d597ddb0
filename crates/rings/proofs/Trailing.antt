-- What a search for a ring has gone through: what is left to go to, and which places are on the way.
use Rattle.std.proofs.Common.{◌≡◌, ◌⊎◌, inl, inr, ℕ, ◌<◌, ◌≤◌, List, [], ◌∷◌, ◌++◌, length, Bool, true, false, Option, Some, None, option_map, slice_get, slice_set, refl, sym, ◌∙◌, ap, subst, arith, true≢false}
use Rattle.std.proofs.lemmas.Bool.{and_from, and_parts, cases_Bool}
use Rattle.std.proofs.lemmas.List.{length-set}
use Rattle.std.specs.Prelude.{◌↔◌}
use Rattle.dependence.specs.LastEvents.{LastUse, Uses}
use Rattle.dependence.specs.declared.uses.UseTable.{UseTable}
use Rattle.runs.proofs.public.Lists.{in-left, in-right, in-parts}
use Rattle.runs.proofs.public.Options.{none-some, some-injective}
use Rattle.runs.specs.Moves.{Place}
use Rattle.syntax.specs.Lists.{In}
use Rattle.local_actions.proofs.public.PlacedActions.{place-true, under-told, under-true}
use Rattle.local_actions.specs.internal.At.{is_under}
use Rattle.local_actions.specs.declared.action.LocalAction.{LocalAction}
use Rattle.rings.specs.declared.partner.Partner.{Partner}
use Rattle.rings.specs.declared.partner.Partner.TheVariants as partner
use Rattle.rings.specs.declared.place_uses.PlaceUses.{PlaceUses}
use Rattle.rings.specs.declared.ring.Seen.{Seen}
use Rattle.rings.specs.declared.ring.Seen.TheVariants.{OnWay, Done}
use Rattle.rings.specs.declared.ring.Trail.{Trail}
use Rattle.rings.specs.declared.tables.Tables.{Tables}
use Rattle.rings.specs.internal.Loosened.{is_marked}
use Rattle.rings.specs.internal.Search.{Apart, NextOpen, Test, behind_at, comes_behind, is_open, may_wait, same_at, same_places, waits}
use Rattle.rings.specs.internal.Standing.{HasActions, HasTables, HasUnder, HasWaiters, Sound, StandsUnder, group_of, row_at, row_of}
use Rattle.rings.specs.internal.Trails.{Entered, Fewer, HoldsWay, Left, NextIn, Opens, SetAt, SoundTrail, holds}
use Rattle.rings.proofs.Edging.{place-within}
use Rattle.rings.proofs.Marked.{got-other, got-same, mark-within, same-or-not}
use Rattle.rings.proofs.Places.{got-within, one-place, waits_may}
use Rattle.rings.proofs.Tallied.{bool-other, bool-same}

abbrev placed : Option LocalAction → Option Place
placed o = option_map (λ (z : LocalAction). z.place) o

-- ---- what is left to go to
pub opens-all : (waiters : PlaceUses) (xs : List LocalAction) (under : UseTable) (seen : List Seen) → HasUnder under waiters xs → Opens waiters xs under seen
opens-all waiters xs under seen has = record { sound = λ g j u. (has g j).0 u; kept = λ g j s on. (has g j).1 s }

pub opens-fewer : (waiters : PlaceUses) (xs : List LocalAction) (seen : List Seen) (old new : UseTable) → Opens waiters xs old seen → Fewer seen old new → Opens waiters xs new seen
opens-fewer waiters xs seen old new o f = record {
  sound = λ g j u. o.sound g j (f.sound g j u);
  kept = λ g j s on. f.kept g j (o.kept g j s on) on;
}

pub opens-note : (waiters : PlaceUses) (xs : List LocalAction) (left : UseTable) (seen : List Seen) (k : ℕ) (v : Seen) → k < length seen
    → (is_open (Some v) ≡ true → is_open (slice_get seen k) ≡ true) → Opens waiters xs left seen → Opens waiters xs left (slice_set seen k v)
opens-note waiters xs left seen k v less was o = record {
  sound = o.sound;
  kept = λ g j s on. o.kept g j s (elim (same-or-not k j) [
    | inl is ↦
        ap (λ (i : ℕ). is_open (slice_get seen i)) (sym is)
        ∙ was (ap is_open (sym (got-same seen k v less)) ∙ ap (λ (i : ℕ). is_open (slice_get (slice_set seen k v) i)) is ∙ on)
    | inr apart ↦ ap is_open (sym (got-other seen k j v apart)) ∙ on
  ]);
}

pub fewer-none : (seen : List Seen) (left : UseTable) → Fewer seen left left
fewer-none seen left = record { sound = λ g j u. u; kept = λ g j u on. u }

-- ---- the last of a row at which the search is not done
pub record Nexts (seen : List Seen) (old left : UseTable) (row below : ℕ) : Type 0 where
  pub fewer : Fewer seen old left
  pub upto : (j : ℕ) → Uses left row j → j < length seen → j < below

pub nexts-none : (seen : List Seen) (left : UseTable) (row below : ℕ) → below ≡ length seen → Nexts seen left left row below
nexts-none seen left row below is = record { fewer = fewer-none seen left; upto = λ j u less. omega (arith, less, is) }

pub nexts-more : (seen : List Seen) (old left new : UseTable) (row below next : ℕ) → LastUse left row below next → is_open (slice_get seen next) ≡ false
    → ((x t : ℕ) → Uses new x t ↔ (Uses left x t × (((x ≡ row) × (t ≡ next)) → ⊥))) → Nexts seen old left row below → Nexts seen old new row next
nexts-more seen old left new row below next last off less h = record {
  fewer = record {
    sound = λ g j u. h.fewer.sound g j ((less g j).0 u).0;
    kept = λ g j u on.
        (less g j).1 (h.fewer.kept g j u on, λ both. true≢false (sym on ∙ ap (λ (k : ℕ). is_open (slice_get seen k)) both.1 ∙ off));
  };
  upto = λ j u within.
      let v = (less row j).0 u in
      let under : j ≤ next = last.last j v.0 (h.upto j v.0 within) in
      elim (same-or-not j next) [
        | inl is ↦ absurd (v.1 (refl, is))
        | inr apart ↦ omega (arith, under, apart)
      ];
}

open-within : (seen : List Seen) (j : ℕ) → is_open (slice_get seen j) ≡ true → j < length seen
open-within seen j on = pick (slice_get seen j) refl
  where
    pick : (o : Option Seen) → slice_get seen j ≡ o → j < length seen
    pick None e = absurd (true≢false (sym on ∙ ap is_open e))
    pick (Some x) e = mark-within seen j x e

pub nexts-all : (seen : List Seen) (old left : UseTable) (row below : ℕ) → ((j : ℕ) → Uses left row j → j < below → ⊥) → Nexts seen old left row below → NextIn seen old row None
nexts-all seen old left row below none h j u = elim (cases_Bool (is_open (slice_get seen j))) [
  | inl on ↦
      let there : Uses left row j = h.fewer.kept row j u on in
      absurd (none j there (h.upto j there (open-within seen j on)))
  | inr off ↦ off
]

pub nexts-some : (seen : List Seen) (old left : UseTable) (row below next : ℕ) → LastUse left row below next → is_open (slice_get seen next) ≡ true
    → Nexts seen old left row below → NextIn seen old row (Some next)
nexts-some seen old left row below next last on h = (
  h.fewer.sound row next last.uses,
  on,
  λ k u open_. let there : Uses left row k = h.fewer.kept row k u open_ in last.last k there (h.upto k there (open-within seen k open_)),
)

-- ---- one for which an action waits
module _ (waiters : PlaceUses) (xs : List LocalAction) (ps : List Partner) (marks : List Bool) (seen : List Seen) (top : ℕ) where
  pub next-not : may_wait ps marks top ≡ false → NextOpen (length xs) (waits xs ps marks) seen top None
  next-not off j less w = absurd (true≢false (sym (waits_may xs ps marks top j w) ∙ off))

  waits-behind : (j : ℕ) → waits xs ps marks top j ≡ true → behind_at (slice_get ps top) (slice_get xs j) ≡ true
  waits-behind j w = (and_parts (is_marked (slice_get marks top)) (behind_at (slice_get ps top) (slice_get xs j)) w).1

  pub next-no-row : HasWaiters waiters ps → group_of waiters (slice_get ps top) ≡ None → NextOpen (length xs) (waits xs ps marks) seen top None
  next-no-row has none j less w = pick (slice_get ps top) refl
    where
      pick : (o : Option Partner) → slice_get ps top ≡ o → is_open (slice_get seen j) ≡ false
      pick None e = not-behind (sym (ap (λ (q : Option Partner). behind_at q (slice_get xs j)) e) ∙ waits-behind j w)
        where
          not-behind : behind_at None (slice_get xs j) ≡ true → is_open (slice_get seen j) ≡ false
          not-behind h = cc
      pick (Some partner.Gone) e = not-behind (slice_get xs j) (sym (ap (λ (q : Option Partner). behind_at q (slice_get xs j)) e) ∙ waits-behind j w)
        where
          not-behind : (o : Option LocalAction) → behind_at (Some partner.Gone) o ≡ true → is_open (slice_get seen j) ≡ false
          not-behind None h = cc
          not-behind (Some y) h = cc
      pick (Some partner.Open) e = not-behind (slice_get xs j) (sym (ap (λ (q : Option Partner). behind_at q (slice_get xs j)) e) ∙ waits-behind j w)
        where
          not-behind : (o : Option LocalAction) → behind_at (Some partner.Open) o ≡ true → is_open (slice_get seen j) ≡ false
          not-behind None h = cc
          not-behind (Some y) h = cc
      pick (Some (partner.Behind p)) e =
          let s = (has p top).1 e in none-some s.0 (sym none ∙ ap (group_of waiters) e ∙ s.1)

  module _ (row : ℕ) (sound : Sound waiters) (at : group_of waiters (slice_get ps top) ≡ Some row) where
    the-place : (o : Option Partner) → slice_get ps top ≡ o → (p : Place) × (slice_get ps top ≡ Some (partner.Behind p)) × (row_at waiters p ≡ Some row)
    the-place None e = none-some row (sym (ap (group_of waiters) e) ∙ at)
    the-place (Some partner.Gone) e = none-some row (sym (ap (group_of waiters) e) ∙ at)
    the-place (Some partner.Open) e = none-some row (sym (ap (group_of waiters) e) ∙ at)
    the-place (Some (partner.Behind p)) e = (p, e, sym (ap (group_of waiters) e) ∙ at)

    under-behind : (j : ℕ) → StandsUnder waiters xs row j → behind_at (slice_get ps top) (slice_get xs j) ≡ true
    under-behind j s =
        let w = the-place (slice_get ps top) refl in
        let same : s.2.0 ≡ w.0 = sound.apart s.2.0 w.0 row s.2.2 w.2 in
        ap (λ (q : Option Partner). behind_at q (slice_get xs j)) w.1 ∙ pick w.0 same (slice_get xs j) refl
      where
        pick : (p : Place) → s.2.0 ≡ p → (o : Option LocalAction) → slice_get xs j ≡ o → behind_at (Some (partner.Behind p)) (slice_get xs j) ≡ true
        pick p same None e = none-some s.0 (sym (ap placed e) ∙ s.1)
        pick p same (Some x) e =
            let there : x.place ≡ s.0 = some-injective x.place s.0 (sym (ap placed e) ∙ s.1) in
            ap (behind_at (Some (partner.Behind p))) e ∙ ap (is_under p) there ∙ ap (λ (q : Place). is_under q s.0) (sym same) ∙ under-told s.2.0 s.0 s.2.1

    behind-under : (j : ℕ) → behind_at (slice_get ps top) (slice_get xs j) ≡ true → StandsUnder waiters xs row j
    behind-under j h =
        let w = the-place (slice_get ps top) refl in
        pick w.0 w.2 (sym (ap (λ (q : Option Partner). behind_at q (slice_get xs j)) w.1) ∙ h) (slice_get xs j) refl
      where
        pick : (p : Place) → row_at waiters p ≡ Some row → behind_at (Some (partner.Behind p)) (slice_get xs j) ≡ true → (o : Option LocalAction) → slice_get xs j ≡ o
            → StandsUnder waiters xs row j
        pick p there g None e = absurd (true≢false (sym g ∙ ap (behind_at (Some (partner.Behind p))) e))
        pick p there g (Some x) e = (x.place, ap placed e, (p, under-true p x.place (sym (ap (behind_at (Some (partner.Behind p))) e) ∙ g), there))

    pub next-told : (left : UseTable) (o : Option ℕ) → Opens waiters xs left seen → may_wait ps marks top ≡ true → NextIn seen left row o
        → NextOpen (length xs) (waits xs ps marks) seen top o
    next-told left (Some j) opens may h =
        let s = opens.sound row j h.0 in (
          place-within xs j s.0 s.1,
          and_from (is_marked (slice_get marks top)) (behind_at (slice_get ps top) (slice_get xs j))
              (and_parts (is_marked (slice_get marks top)) (comes_behind (slice_get ps top)) may).0 (under-behind j s),
          h.1,
          λ k less w on. h.2 k (opens.kept row k (behind-under k (waits-behind k w)) on) on,
        )
    next-told left None opens may h = λ j less w. elim (cases_Bool (is_open (slice_get seen j))) [
      | inl on ↦ h j (opens.kept row j (behind-under j (waits-behind j w)) on)
      | inr off ↦ off
    ]

-- ---- places on the way
pub same-rows : (standing : PlaceUses) (xs : List LocalAction) (j k : ℕ) → same_at xs j k ≡ true → row_of standing (slice_get xs j) ≡ row_of standing (slice_get xs k)
same-rows standing xs j k h = pick (slice_get xs j) (slice_get xs k) refl refl h
  where
    pick : (o q : Option LocalAction) → slice_get xs j ≡ o → slice_get xs k ≡ q → same_places o q ≡ true → row_of standing (slice_get xs j) ≡ row_of standing (slice_get xs k)
    pick None q e f g = cc
    pick (Some x) None e f g = cc
    pick (Some x) (Some y) e f g = ap (row_of standing) e ∙ ap (row_at standing) (place-true x.place y.place g) ∙ sym (ap (row_of standing) f)

row-there : (standing : PlaceUses) (xs : List LocalAction) (k : ℕ) → HasActions standing xs → k < length xs → (r : ℕ) × (row_of standing (slice_get xs k) ≡ Some r)
row-there standing xs k has less =
    let x = got-within xs k less in
    let s = (has x.0.place k).1 (ap placed x.1) in
    (s.0, ap (row_of standing) x.1 ∙ s.1)

-- those of one row stand at one place
rows-same : (standing : PlaceUses) (xs : List LocalAction) (j k r : ℕ) → Sound standing → row_of standing (slice_get xs j) ≡ Some r → row_of standing (slice_get xs k) ≡ Some r
    → same_at xs j k ≡ true
rows-same standing xs j k r sound one other = pick (slice_get xs j) (slice_get xs k) refl refl
  where
    pick : (o q : Option LocalAction) → slice_get xs j ≡ o → slice_get xs k ≡ q → same_at xs j k ≡ true
    pick None q e f = none-some r (sym (ap (row_of standing) e) ∙ one)
    pick (Some x) None e f = none-some r (sym (ap (row_of standing) f) ∙ other)
    pick (Some x) (Some y) e f =
        let is : x.place ≡ y.place = sound.apart x.place y.place r (sym (ap (row_of standing) e) ∙ one) (sym (ap (row_of standing) f) ∙ other) in
        one-place y.place (slice_get xs j) (slice_get xs k) (ap placed e ∙ ap (λ (a : Place). Some a) is) (ap placed f)

pub met-none : (standing : PlaceUses) (xs : List LocalAction) (held : List Bool) (way : List ℕ) (k : ℕ) → HoldsWay standing xs held way
    → holds held (row_of standing (slice_get xs k)) ≡ false → (j : ℕ) → In j way → same_at xs j k ≡ true → ⊥
met-none standing xs held way k h off j i same =
    true≢false (sym (h j i) ∙ ap (holds held) (same-rows standing xs j k same) ∙ off)

apart-last : (u : Test) (xs : List ℕ) (k : ℕ) → Apart u (xs ++ k ∷ []) → (j : ℕ) → In j xs → u j k ≡ true → ⊥
apart-last u [] k a j i h = absurd i
apart-last u (x ∷ xs) k a j (inl is) h = a.0 k (in-right k xs (k ∷ []) (inl refl)) (subst (λ (m : ℕ). u m k ≡ true) is h)
apart-last u (x ∷ xs) k a j (inr i) h = apart-last u xs k a.1 j i h

pub no-way : (standing : PlaceUses) (xs : List LocalAction) (held : List Bool) → HoldsWay standing xs held []
no-way standing xs held j i = absurd i

module _ (tables : Tables) (xs : List LocalAction) (ps : List Partner) (has : HasTables tables xs ps) (k : ℕ) (old new : Trail) (way : List ℕ) (within : k < length xs)
    (size : length old.seen.items ≡ length xs) where
  less-seen : k < length old.seen.items
  less-seen = omega (arith, within, size)

  -- on to an action
  pub sound-entered : is_open (slice_get old.seen.items k) ≡ true → Entered tables.standing xs k old new → SoundTrail tables xs old way → SoundTrail tables xs new (way ++ k ∷ [])
  sound-entered on e s = record {
    opens =
        subst (λ (l : UseTable). Opens tables.waiters xs l new.seen.items) (sym e.opens)
        (subst (λ (l : List Seen). Opens tables.waiters xs old.left l) (sym e.seen)
        (opens-note tables.waiters xs old.left old.seen.items k OnWay less-seen (λ _. on) s.opens));
    size = e.size ∙ s.size;
    on_way = λ j i. elim (in-parts j way (k ∷ []) i) [
      | inl there ↦ e.others (row_of tables.standing (slice_get xs j)) (s.on_way j there)
      | inr (inl is) ↦
          let r = row-there tables.standing xs k has.standing within in
          ap (λ (m : ℕ). holds new.held.items (row_of tables.standing (slice_get xs m))) is ∙ ap (holds new.held.items) r.1 ∙ e.here r.0 r.1
      | inr (inr none) ↦ absurd none
    ];
  }

  -- back from one
  pub sound-left : Apart (same_at xs) (way ++ k ∷ []) → Left tables.standing xs k old new → SoundTrail tables xs old (way ++ k ∷ []) → SoundTrail tables xs new way
  sound-left apart e s = record {
    opens =
        subst (λ (l : UseTable). Opens tables.waiters xs l new.seen.items) (sym e.opens)
        (subst (λ (l : List Seen). Opens tables.waiters xs old.left l) (sym e.seen)
        (opens-note tables.waiters xs old.left old.seen.items k Done less-seen (λ h. absurd (true≢false (sym h))) s.opens));
    size = e.size ∙ s.size;
    on_way = λ j i. e.others (row_of tables.standing (slice_get xs j))
        (λ is.
        let r = row-there tables.standing xs k has.standing within in
        apart-last (same_at xs) way k apart j i (rows-same tables.standing xs j k r.0 has.places (is ∙ r.1) r.1))
        (s.on_way j (in-left j way (k ∷ []) i));
  }

pub sound-none : (tables : Tables) (xs : List LocalAction) (trail : Trail) (way : List ℕ) → SoundTrail tables xs trail way → SoundTrail tables xs trail []
sound-none tables xs trail way s = record { opens = s.opens; size = s.size; on_way = λ j i. absurd i }

-- what is left has become less
pub sound-next : (tables : Tables) (xs : List LocalAction) (old new : Trail) (way : List ℕ) → new.seen ≡ old.seen → new.held ≡ old.held
    → (Opens tables.waiters xs old.left old.seen.items → Opens tables.waiters xs new.left new.seen.items) → SoundTrail tables xs old way → SoundTrail tables xs new way
sound-next tables xs old new way seen held opens s = record {
  opens = opens s.opens;
  size = ap (λ l. length l.items) held ∙ s.size;
  on_way = λ j i. ap (λ l. holds l.items (row_of tables.standing (slice_get xs j))) held ∙ s.on_way j i;
}

-- ---- marks of places
pub row-below : (standing : PlaceUses) (xs : List LocalAction) (k r count : ℕ) → Sound standing → count ≡ standing.count → row_of standing (slice_get xs k) ≡ Some r → r < count
row-below standing xs k r count sound is at = pick (slice_get xs k) refl
  where
    pick : (o : Option LocalAction) → slice_get xs k ≡ o → r < count
    pick None e = none-some r (sym (ap (row_of standing) e) ∙ at)
    pick (Some x) e = let less : r < standing.count = sound.below x.place r (sym (ap (row_of standing) e) ∙ at) in omega (arith, less, is)

pub set-row : (row : ℕ) (b : Bool) (old new : List Bool) (o : Option ℕ) → row < length old → o ≡ Some row → new ≡ slice_set old row b → SetAt o b old new
set-row row b old new o less is set = record {
  size = ap (λ (l : List Bool). length l) set ∙ length-set old row b;
  here = λ r at.
      let same : r ≡ row = some-injective r row (sym at ∙ is) in
      ap (λ (l : List Bool). is_marked (slice_get l r)) set ∙ ap (λ (k : ℕ). is_marked (slice_get (slice_set old row b) k)) same ∙ ap is_marked (bool-same old row b less);
  others = λ q apart. pick q (λ e. apart (e ∙ sym is));
}
  where
    pick : (q : Option ℕ) → (q ≡ Some row → ⊥) → holds new q ≡ holds old q
    pick None apart = refl
    pick (Some r) apart = ap (λ (l : List Bool). is_marked (slice_get l r)) set ∙ ap is_marked (bool-other old row r b (λ e. apart (ap (λ (k : ℕ). Some k) (sym e))))

pub set-none : (b : Bool) (old : List Bool) (o : Option ℕ) → o ≡ None → SetAt o b old old
set-none b old o is = record {
  size = refl;
  here = λ r at. none-some r (sym is ∙ at);
  others = λ q apart. refl;
}

-- whether one is the row, as a test
row-or-not : (o q : Option ℕ) → (o ≡ q) ⊎ (o ≡ q → ⊥)
row-or-not None None = inl refl
row-or-not None (Some r) = inr (λ e. none-some r e)
row-or-not (Some r) None = inr (λ e. none-some r (sym e))
row-or-not (Some r) (Some t) = elim (same-or-not r t) [
  | inl is ↦ inl (ap (λ (k : ℕ). Some k) is)
  | inr apart ↦ inr (λ e. apart (some-injective r t e))
]

pub entered : (standing : PlaceUses) (xs : List LocalAction) (i : ℕ) (old new : Trail) (row : Option ℕ) → row ≡ row_of standing (slice_get xs i) → new.seen.items ≡ slice_set old.seen.items i OnWay
    → new.left ≡ old.left → SetAt row true old.held.items new.held.items → Entered standing xs i old new
entered standing xs i old new row is seen left set = record {
  seen = seen;
  opens = left;
  size = set.size;
  here = λ r at. set.here r (is ∙ at);
  others = λ o on. elim (row-or-not o row) [
    | inl same ↦ held-true o same on
    | inr apart ↦ set.others o apart ∙ on
  ];
}
  where
    held-true : (o : Option ℕ) → o ≡ row → holds old.held.items o ≡ true → holds new.held.items o ≡ true
    held-true None same on = absurd (true≢false (sym on))
    held-true (Some r) same on = set.here r (sym same)

pub went-back : (standing : PlaceUses) (xs : List LocalAction) (i : ℕ) (old new : Trail) (row : Option ℕ) → row ≡ row_of standing (slice_get xs i) → new.seen.items ≡ slice_set old.seen.items i Done
    → new.left ≡ old.left → SetAt row false old.held.items new.held.items → Left standing xs i old new
went-back standing xs i old new row is seen left set = record {
  seen = seen;
  opens = left;
  size = set.size;
  others = λ o apart on. set.others o (λ e. apart (e ∙ is)) ∙ on;
}
