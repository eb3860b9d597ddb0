-- The ring that is found is the one to which the search comes first.
use Rattle.std.proofs.Common.{◌≡◌, inl, inr, ℕ, zero, suc, ◌<◌, ◌≤◌, List, [], ◌∷◌, ◌++◌, drop, length, Bool, true, Option, Some, None, option_map, slice_get, slice_set, refl, sym, ◌∙◌, ap, ap₂, subst, arith, true≢false}
use Rattle.std.proofs.lemmas.Bool.{and_from, and_parts}
use Rattle.std.proofs.lemmas.Option.{slice_get_within}
use Rattle.runs.proofs.public.Options.{none-some, some-injective}
use Rattle.runs.specs.Moves.{Place}
use Rattle.syntax.specs.Lists.{In}
use Rattle.local_actions.proofs.public.PlacedActions.{place-true}
use Rattle.local_actions.specs.declared.action.LocalAction.{LocalAction}
use Rattle.rings.specs.FirstRing.{Awaits, IsFirstOpen, IsFirstRing, IsLastOpen, IsPartFrom, StandTogether, begins, comes_back, ends, goes_back, goes_on}
use Rattle.rings.specs.declared.partner.Partner.{Partner}
use Rattle.rings.specs.declared.ring.Seen.{Seen}
use Rattle.rings.specs.declared.ring.Seen.TheVariants.{New, OnWay, Done}
use Rattle.rings.specs.internal.FirstSearch.{ComesTo, DoneAt, EndsWith, FindsIn}
use Rattle.rings.specs.internal.Loosened.{is_marked}
use Rattle.rings.specs.internal.Search.{Apart, NextOpen, Test, behind_at, is_open, same_at, same_places, waits}
use Rattle.rings.proofs.Marked.{Before, got-other, got-same, is-done, kept-mark, mark-at, on-is-done, same-or-not}
use Rattle.rings.proofs.Places.{behind-is, behind-true, marked-some, one-place}

-- ---- marks
done-kept : (seen : List Seen) (done : List ℕ) (k : ℕ) → DoneAt seen done → k < length seen → (slice_get seen k ≡ Some Done → ⊥) → DoneAt (slice_set seen k OnWay) done
done-kept seen done k d less undone i = (
  λ e. (d i).0 (kept-mark seen k i OnWay Done less on-is-done e),
  λ m. let was : slice_get seen i ≡ Some Done = (d i).1 m in elim (same-or-not k i) [
    | inl is ↦ absurd (undone (ap (slice_get seen) is ∙ was))
    | inr apart ↦ got-other seen k i OnWay apart ∙ was
  ],
)

done-more : (seen : List Seen) (done : List ℕ) (t : ℕ) → DoneAt seen done → t < length seen → DoneAt (slice_set seen t Done) (t ∷ done)
done-more seen done t d less i = (
  λ e. elim (same-or-not t i) [
    | inl is ↦ inl (sym is)
    | inr apart ↦ inr ((d i).0 (sym (got-other seen t i Done apart) ∙ e))
  ],
  λ m. elim (same-or-not t i) [
    | inl is ↦ ap (slice_get (slice_set seen t Done)) (sym is) ∙ got-same seen t Done less
    | inr apart ↦ elim m [
      | inl is ↦ absurd (apart (sym is))
      | inr there ↦ got-other seen t i Done apart ∙ (d i).1 there
    ]
  ],
)

not-done : (seen : List Seen) (k : ℕ) → is_open (slice_get seen k) ≡ true → slice_get seen k ≡ Some Done → ⊥
not-done seen k on e = true≢false (sym on ∙ ap is_open e)

still-open : (seen : List Seen) (k : ℕ) → k < length seen → (slice_get seen k ≡ Some Done → ⊥) → is_open (slice_get seen k) ≡ true
still-open seen k less undone = let at = mark-at seen k less in ap is_open at.1 ∙ pick at.0 (λ e. undone (at.1 ∙ ap (λ (x : Seen). Some x) e))
  where
    pick : (x : Seen) → (x ≡ Done → ⊥) → is_open (Some x) ≡ true
    pick New f = refl
    pick OnWay f = refl
    pick Done f = absurd (f refl)

-- neither new nor on the way
then-done : (seen : List Seen) (done : List ℕ) (i : ℕ) → DoneAt seen done → i < length seen → (slice_get seen i ≡ Some New → ⊥) → (slice_get seen i ≡ Some OnWay → ⊥) → In i done
then-done seen done i d less new way = let at = mark-at seen i less in pick at.0 at.1
  where
    pick : (x : Seen) → slice_get seen i ≡ Some x → In i done
    pick New e = absurd (new e)
    pick OnWay e = absurd (way e)
    pick Done e = (d i).0 e

-- ---- ways
pub number-in : (xs : List ℕ) (i x : ℕ) → slice_get xs i ≡ Some x → In x xs
number-in [] i x h = none-some x h
number-in (y ∷ xs) zero x h = inl (sym (some-injective y x h))
number-in (y ∷ xs) (suc i) x h = inr (number-in xs i x h)

apart-before : (u : Test) (way : List ℕ) (j i x m : ℕ) → Apart u way → j < i → slice_get way j ≡ Some x → slice_get way i ≡ Some m → u x m ≡ true → ⊥
apart-before u [] j i x m a less here there same = none-some x here
apart-before u (y ∷ way) zero zero x m a less here there same = omega (arith, less)
apart-before u (y ∷ way) zero (suc i) x m a less here there same =
    a.0 m (number-in way i m there) (subst (λ (k : ℕ). u k m ≡ true) (sym (some-injective y x here)) same)
apart-before u (y ∷ way) (suc j) zero x m a less here there same = omega (arith, less)
apart-before u (y ∷ way) (suc j) (suc i) x m a less here there same = apart-before u way j i x m a.1 (omega (arith, less)) here there same

not-empty : (way : List ℕ) (i m : ℕ) → slice_get way i ≡ Some m → [] ≡ drop i way → ⊥
not-empty [] i m at e = none-some m at
not-empty (x ∷ way) zero m at e = cc
not-empty (x ∷ way) (suc i) m at e = not-empty way i m at e

module _ (xs : List LocalAction) (ps : List Partner) (marks : List Bool) where
  -- ---- who waits for whom, and who stand together
  awaits-true : (i j : ℕ) → waits xs ps marks i j ≡ true → Awaits xs ps marks i j
  awaits-true i j h = pick (slice_get ps i) (slice_get xs j) refl refl (and_parts (is_marked (slice_get marks i)) (behind_at (slice_get ps i) (slice_get xs j)) h).1
    where
      pick : (p : Option Partner) (y : Option LocalAction) → slice_get ps i ≡ p → slice_get xs j ≡ y → behind_at p y ≡ true → Awaits xs ps marks i j
      pick None y e f g = absurd (true≢false (sym g))
      pick (Some p) None e f g = absurd (true≢false (sym g))
      pick (Some p) (Some y) e f g = record {
        partner = p;
        other = y;
        deadlocked = marked-some (slice_get marks i) (and_parts (is_marked (slice_get marks i)) (behind_at (slice_get ps i) (slice_get xs j)) h).0;
        comes = e;
        stands = f;
        behind = behind-true p y.place g;
      }

  awaits-is : (i j : ℕ) → Awaits xs ps marks i j → waits xs ps marks i j ≡ true
  awaits-is i j a =
      and_from (is_marked (slice_get marks i)) (behind_at (slice_get ps i) (slice_get xs j)) (ap is_marked a.deadlocked)
      (ap₂ (λ (p : Option Partner) (o : Option LocalAction). behind_at p o) a.comes a.stands ∙ behind-is a.partner a.other.place a.behind)

  awaits-within : (i j : ℕ) → Awaits xs ps marks i j → j < length xs
  awaits-within i j a = slice_get_within xs j a.other a.stands

  together-true : (i j : ℕ) → same_at xs i j ≡ true → StandTogether xs i j
  together-true i j h = pick (slice_get xs i) (slice_get xs j) refl refl h
    where
      pick : (x y : Option LocalAction) → slice_get xs i ≡ x → slice_get xs j ≡ y → same_places x y ≡ true → StandTogether xs i j
      pick None y e f g = absurd (true≢false (sym g))
      pick (Some x) None e f g = absurd (true≢false (sym g))
      pick (Some x) (Some y) e f g = record { one = x; other = y; first = e; second = f; place = place-true x.place y.place g }

  together-is : (i j : ℕ) → StandTogether xs i j → same_at xs i j ≡ true
  together-is i j s =
      one-place s.other.place (slice_get xs i) (slice_get xs j)
      (ap (option_map (λ (z : LocalAction). z.place)) s.first ∙ ap (λ (a : Place). Some a) s.place) (ap (option_map (λ (z : LocalAction). z.place)) s.second)

  -- two that stand with a third stand together
  together-both : (i j k : ℕ) → StandTogether xs i k → StandTogether xs j k → StandTogether xs i j
  together-both i j k s t =
      let same : s.other ≡ t.other = some-injective s.other t.other (sym s.second ∙ t.second) in
      record { one = s.one; other = t.one; first = s.first; second = t.first; place = s.place ∙ ap (λ (z : LocalAction). z.place) same ∙ sym t.place }

  -- ---- where it goes on
  last-open : (seen : List Seen) (done : List ℕ) (i j : ℕ) → DoneAt seen done → length seen ≡ length xs → NextOpen (length xs) (waits xs ps marks) seen i (Some j)
      → IsLastOpen (Awaits xs ps marks) done i j
  last-open seen done i j d size h = record {
    waits = awaits-true i j h.1;
    undone = λ m. not-done seen j h.2 ((d j).1 m);
    last = λ k a off.
        let within : k < length xs = awaits-within i k a in
        h.3 k within (awaits-is i k a) (still-open seen k (omega (arith, within, size)) (λ e. off ((d k).0 e)));
  }

  none-open : (seen : List Seen) (done : List ℕ) (i : ℕ) → DoneAt seen done → length seen ≡ length xs → NextOpen (length xs) (waits xs ps marks) seen i None
      → (j : ℕ) → Awaits xs ps marks i j → In j done
  none-open seen done i d size h j a =
      let within : j < length xs = awaits-within i j a in
      (d j).0 (is-done seen j (omega (arith, within, size)) (h j within (awaits-is i j a)))

  -- ---- the steps of a search
  pub comes-first : (before : List ℕ) (seen now : List Seen) (start : ℕ) (way : List ℕ) → DoneAt seen before → length seen ≡ length xs → start < length xs → slice_get seen start ≡ Some New
      → ((i : ℕ) → i < start → slice_get seen i ≡ Some New → ⊥) → ((i : ℕ) → slice_get seen i ≡ Some OnWay → ⊥) → now ≡ slice_set seen start OnWay → way ≡ start ∷ []
      → ComesTo xs ps marks before now way
  comes-first before seen now start way d size within new first none set is =
      let less : start < length seen = omega (arith, within, size) in
      let undone : slice_get seen start ≡ Some Done → ⊥ = not-done seen start (ap is_open new) in
      let open_ : IsFirstOpen (length xs) before start = record {
        within = within;
        undone = λ m. undone ((d start).1 m);
        first = λ j lower. then-done seen before j d (omega (arith, lower, less)) (first j lower) (none j);
      } in
      subst (λ (l : List Seen). ComesTo xs ps marks before l way) (sym set)
      (subst (λ (z : List ℕ). ComesTo xs ps marks before (slice_set seen start OnWay) z) (sym is)
      (before, done-kept seen before start d less undone, λ ring f. begins before start ring open_ f))

  pub comes-on : (before : List ℕ) (seen now : List Seen) (t k : ℕ) (way rest longer : List ℕ) → ComesTo xs ps marks before seen way → length seen ≡ length xs → way ≡ rest ++ t ∷ []
      → NextOpen (length xs) (waits xs ps marks) seen t (Some k) → ((j : ℕ) → In j way → same_at xs j k ≡ true → ⊥) → now ≡ slice_set seen k OnWay → longer ≡ way ++ k ∷ []
      → ComesTo xs ps marks before now longer
  comes-on before seen now t k way rest longer c size at next off set is =
      let within : k < length xs = next.0 in
      subst (λ (l : List Seen). ComesTo xs ps marks before l longer) (sym set)
      (subst (λ (z : List ℕ). ComesTo xs ps marks before (slice_set seen k OnWay) z) (sym is) (
        c.0,
        done-kept seen c.0 k c.1 (omega (arith, within, size)) (not-done seen k next.2),
        λ ring f. c.2 ring (goes_on c.0 way rest t k ring at (last-open seen c.0 t k c.1 size next) (λ j i s. off j i (together-is j k s)) f),
      ))

  pub comes-less : (before : List ℕ) (seen now : List Seen) (t : ℕ) (way rest : List ℕ) → ComesTo xs ps marks before seen way → length seen ≡ length xs → way ≡ rest ++ t ∷ []
      → t < length seen → NextOpen (length xs) (waits xs ps marks) seen t None → now ≡ slice_set seen t Done → ComesTo xs ps marks before now rest
  comes-less before seen now t way rest c size at less none set =
      subst (λ (l : List Seen). ComesTo xs ps marks before l rest) (sym set) (
        t ∷ c.0,
        done-more seen c.0 t c.1 less,
        λ ring f. c.2 ring (goes_back c.0 way rest t ring at (none-open seen c.0 t c.1 size none) f),
      )

  ended : (before : List ℕ) (now : List Seen) (i m : ℕ) (way part : List ℕ) → slice_get way i ≡ Some m → part ≡ drop i way → FindsIn xs ps marks before [] part
      → EndsWith xs ps marks before now part
  ended before now i m way [] at is f = absurd (not-empty way i m at is)
  ended before now i m way (x ∷ part) at is f = f

  pub comes-round : (before : List ℕ) (seen now : List Seen) (t k m i : ℕ) (way rest part : List ℕ) → ComesTo xs ps marks before seen way → length seen ≡ length xs → way ≡ rest ++ t ∷ []
      → NextOpen (length xs) (waits xs ps marks) seen t (Some k) → Apart (same_at xs) way → slice_get way i ≡ Some m → same_at xs m k ≡ true → part ≡ drop i way
      → EndsWith xs ps marks before now part
  comes-round before seen now t k m i way rest part c size at next apart got same is =
      let there : StandTogether xs m k = together-true m k same in
      let from : IsPartFrom (StandTogether xs) way k part = record {
        index = i;
        met = m;
        at = got;
        there = there;
        first = λ j x less here s. apart-before (same_at xs) way j i x m apart less here got (together-is x m (together-both x m k s there));
        is = is;
      } in
      ended before now i m way part got is (c.2 part (comes_back c.0 way rest t k part at (last-open seen c.0 t k c.1 size next) from))

  pub comes-nowhere : (before : List ℕ) (seen : List Seen) (way ring : List ℕ) → ComesTo xs ps marks before seen way → length way ≡ 0 → ring ≡ [] → EndsWith xs ps marks before seen ring
  comes-nowhere before seen [] [] c h e = c
  comes-nowhere before seen (i ∷ way) [] c h e = absurd (omega (arith, h))
  comes-nowhere before seen way (i ∷ ring) c h e = cc

  -- ---- all searches
  pub not-begun : (seen : List Seen) → ((i : ℕ) → slice_get seen i ≡ Some Done → ⊥) → ComesTo xs ps marks [] seen []
  not-begun seen none = ([], λ i. (λ e. absurd (none i e), λ m. absurd m), λ ring f. f)

  pub goes-further : (seen now : List Seen) (ring : List ℕ) (c : ComesTo xs ps marks [] seen []) → length ring ≡ 0 → EndsWith xs ps marks c.0 now ring → ComesTo xs ps marks [] now []
  goes-further seen now [] c none h = (h.0, h.1, λ r f. c.2 r (h.2 r f))
  goes-further seen now (i ∷ ring) c none h = absurd (omega (arith, none))

  pub found-first : (seen now : List Seen) (ring : List ℕ) (c : ComesTo xs ps marks [] seen []) → (length ring ≡ 0 → ⊥) → EndsWith xs ps marks c.0 now ring → IsFirstRing xs ps marks ring
  found-first seen now [] c some h = absurd (some refl)
  found-first seen now (i ∷ ring) c some h = c.2 (i ∷ ring) h

  pub none-first : (seen : List Seen) (start : ℕ) (ring : List ℕ) → Before (length xs) (waits xs ps marks) (same_at xs) seen start → ComesTo xs ps marks [] seen [] → length xs ≤ start → ring ≡ []
      → IsFirstRing xs ps marks ring
  none-first seen start (i ∷ ring) b c all e = cc
  none-first seen start [] b c all e =
      c.2 []
      (ends c.0
      (λ i less. then-done seen c.0 i c.1 (subst (λ (k : ℕ). i < k) (sym b.searching.size) less) (λ new. b.begun i (omega (arith, less, all)) new) (λ way. b.searching.on_way i way)))
