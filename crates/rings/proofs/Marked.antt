-- What the marks of a search say, as it goes on and back.
use Rattle.std.proofs.Common.{◌≡◌, ◌⊎◌, inl, inr, ℕ, zero, suc, ◌+◌, ◌<◌, ◌≤◌, ◌==◌, List, [], ◌∷◌, ◌++◌, drop, length, Bool, true, false, Option, Some, None, slice_get, slice_set, refl, sym, ◌∙◌, ap, subst, arith, eqb-true, eq-eqb, true≢false}
use Rattle.std.proofs.lemmas.List.{length-set}
use Rattle.runs.proofs.public.Lists.{in-left, in-right, in-parts}
use Rattle.runs.proofs.public.Options.{none-some, some-injective}
use Rattle.syntax.specs.Lists.{In}
use Rattle.rings.specs.declared.ring.Seen.{Seen}
use Rattle.rings.specs.declared.ring.Seen.TheVariants.{New, OnWay, Done}
use Rattle.rings.specs.internal.Search.{Test, Ring, Apart, InNoRing, Names, Path, Searching, Keeps, Searched, is_new, is_open, count_new, NextOpen}
use Rattle.rings.proofs.Ringed.{none-through, ring-below, path-more, path-less, path-last, ring-from}

-- ---- a mark that is set
pub got-same : (l : List Seen) (i : ℕ) (v : Seen) → i < length l → slice_get (slice_set l i v) i ≡ Some v
got-same [] i v h = absurd (omega (arith, h))
got-same (x ∷ l) zero v h = refl
got-same (x ∷ l) (suc i) v h = got-same l i v (omega (arith, h))

pub got-other : (l : List Seen) (i j : ℕ) (v : Seen) → (i ≡ j → ⊥) → slice_get (slice_set l i v) j ≡ slice_get l j
got-other [] i j v h = refl
got-other (x ∷ l) zero zero v h = absurd (h refl)
got-other (x ∷ l) zero (suc j) v h = refl
got-other (x ∷ l) (suc i) zero v h = refl
got-other (x ∷ l) (suc i) (suc j) v h = got-other l i j v (λ e. h (ap suc e))

pub same-or-not : (i j : ℕ) → (i ≡ j) ⊎ (i ≡ j → ⊥)
same-or-not i j = pick (i == j) refl
  where
    pick : (b : Bool) → (i == j) ≡ b → (i ≡ j) ⊎ (i ≡ j → ⊥)
    pick true h = inl (eqb-true i j h)
    pick false h = inr (λ e. true≢false (sym (eq-eqb i j e) ∙ h))

-- a mark of another kind than the one that is set was there before
pub kept-mark : (l : List Seen) (k i : ℕ) (v x : Seen) → k < length l → (v ≡ x → ⊥) → slice_get (slice_set l k v) i ≡ Some x → slice_get l i ≡ Some x
kept-mark l k i v x less other h = elim (same-or-not k i) [
  | inl is ↦ absurd (other (some-injective v x (sym (got-same l k v less) ∙ ap (slice_get (slice_set l k v)) is ∙ h)))
  | inr apart ↦ sym (got-other l k i v apart) ∙ h
]

pub mark-at : (l : List Seen) (i : ℕ) → i < length l → (x : Seen) × (slice_get l i ≡ Some x)
mark-at [] i h = absurd (omega (arith, h))
mark-at (x ∷ l) zero h = (x, refl)
mark-at (x ∷ l) (suc i) h = mark-at l i (omega (arith, h))

pub mark-within : (l : List Seen) (i : ℕ) (x : Seen) → slice_get l i ≡ Some x → i < length l
mark-within [] i x h = none-some x h
mark-within (y ∷ l) zero x h = omega arith
mark-within (y ∷ l) (suc i) x h = let rest = mark-within l i x h in omega (arith, rest)

-- what is not open is done
pub is-done : (l : List Seen) (i : ℕ) → i < length l → is_open (slice_get l i) ≡ false → slice_get l i ≡ Some Done
is-done l i h closed = let at = mark-at l i h in at.1 ∙ ap (λ (x : Seen). Some x) (pick at.0 (sym (ap is_open at.1) ∙ closed))
  where
    pick : (x : Seen) → is_open (Some x) ≡ false → x ≡ Done
    pick New e = cc
    pick OnWay e = cc
    pick Done e = refl

-- what is open and not on the way is new
pub is-new : (l : List Seen) (i : ℕ) → is_open (slice_get l i) ≡ true → (slice_get l i ≡ Some OnWay → ⊥) → slice_get l i ≡ Some New
is-new l i more apart = pick (slice_get l i) more apart
  where
    pick : (x : Option Seen) → is_open x ≡ true → (x ≡ Some OnWay → ⊥) → x ≡ Some New
    pick (Some New) e f = refl
    pick (Some OnWay) e f = absurd (f refl)
    pick (Some Done) e f = cc
    pick None e f = cc

pub not-new : (l : List Seen) (i : ℕ) → is_new (slice_get l i) ≡ false → slice_get l i ≡ Some New → ⊥
not-new l i f e = let both : true ≡ false = sym (ap is_new e) ∙ f in true≢false both

pub was-new : (l : List Seen) (i : ℕ) → is_new (slice_get l i) ≡ true → slice_get l i ≡ Some New
was-new l i h = pick (slice_get l i) h
  where
    pick : (o : Option Seen) → is_new o ≡ true → o ≡ Some New
    pick (Some New) e = refl
    pick (Some OnWay) e = cc
    pick (Some Done) e = cc
    pick None e = cc

-- ---- how many are new
pub count-less : (l : List Seen) (k : ℕ) → slice_get l k ≡ Some New → count_new (slice_set l k OnWay) + 1 ≡ count_new l
count-less [] k h = none-some New h
count-less (New ∷ l) zero h = refl
count-less (OnWay ∷ l) zero h = cc
count-less (Done ∷ l) zero h = cc
count-less (New ∷ l) (suc k) h = ap (λ c. c + 1) (count-less l k h)
count-less (OnWay ∷ l) (suc k) h = count-less l k h
count-less (Done ∷ l) (suc k) h = count-less l k h

pub count-kept : (l : List Seen) (k : ℕ) → count_new (slice_set l k Done) ≤ count_new l
count-kept [] k = omega arith
count-kept (New ∷ l) zero = omega arith
count-kept (OnWay ∷ l) zero = omega arith
count-kept (Done ∷ l) zero = omega arith
count-kept (New ∷ l) (suc k) = let rest = count-kept l k in omega (arith, rest)
count-kept (OnWay ∷ l) (suc k) = count-kept l k
count-kept (Done ∷ l) (suc k) = count-kept l k

-- ---- none is the same as one behind it
apart-more : (u : Test) (xs : List ℕ) (k : ℕ) → Apart u xs → ((j : ℕ) → In j xs → u j k ≡ true → ⊥) → Apart u (xs ++ k ∷ [])
apart-more u [] k a off = (λ j i. absurd i, tt)
apart-more u (x ∷ xs) k a off = (
  λ j i. elim (in-parts j xs (k ∷ []) i) [
    | inl there ↦ a.0 j there
    | inr last ↦ elim last [ inl is ↦ subst (λ (m : ℕ). u x m ≡ true → ⊥) (sym is) (off x (inl refl)) | inr none ↦ absurd none ]
  ],
  apart-more u xs k a.1 (λ j i. off j (inr i)),
)

apart-less : (u : Test) (xs ys : List ℕ) → Apart u (xs ++ ys) → Apart u xs
apart-less u [] ys a = tt
apart-less u (x ∷ xs) ys a = (λ j i. a.0 j (in-left j xs ys i), apart-less u xs ys a.1)

apart-behind : (u : Test) (i : ℕ) (xs : List ℕ) → Apart u xs → Apart u (drop i xs)
apart-behind u zero xs a = a
apart-behind u (suc i) [] a = tt
apart-behind u (suc i) (x ∷ xs) a = apart-behind u i xs a.1

-- ---- a search from an action on
pub record From (n : ℕ) (w u : Test) (before seen : List Seen) (start : ℕ) (way : List ℕ) : Type 0 where
  pub searching : Searching n w u seen way
  pub keeps : Keeps before seen
  pub begun : slice_get seen start ≡ Some New → ⊥

on-is-new : OnWay ≡ New → ⊥
on-is-new e = cc

done-is-new : Done ≡ New → ⊥
done-is-new e = cc

pub on-is-done : OnWay ≡ Done → ⊥
on-is-done e = cc

done-is-on : Done ≡ OnWay → ⊥
done-is-on e = cc

module _ (n : ℕ) (w u : Test) where
  pub begins : (seen : List Seen) (start : ℕ) → Searching n w u seen [] → start < n → From n w u seen (slice_set seen start OnWay) start (start ∷ [])
  begins seen start s h =
      let less : start < length seen = subst (λ k. start < k) (sym s.size) h in
      record {
        searching = record {
          size = length-set seen start OnWay ∙ s.size;
          done = λ i e. s.done i (kept-mark seen start i OnWay Done less on-is-done e);
          on_way = λ i e. elim (same-or-not start i) [
            | inl is ↦ inl (sym is)
            | inr apart ↦ absurd (s.on_way i (sym (got-other seen start i OnWay apart) ∙ e))
          ];
          path = h;
          apart = (λ j i. absurd i, tt);
        };
        keeps = λ i e. kept-mark seen start i OnWay New less on-is-new e;
        begun = λ e. on-is-new (some-injective OnWay New (sym (got-same seen start OnWay less) ∙ e));
      }

  -- on to one for which the last waits
  pub goes-on : (before seen : List Seen) (start t k : ℕ) (rest : List ℕ) → From n w u before seen start (rest ++ t ∷ []) → k < n → w t k ≡ true
      → ((j : ℕ) → In j (rest ++ t ∷ []) → u j k ≡ true → ⊥) → From n w u before (slice_set seen k OnWay) start ((rest ++ t ∷ []) ++ k ∷ [])
  goes-on before seen start t k rest f h is off =
      let s = f.searching in
      let less : k < length seen = subst (λ j. k < j) (sym s.size) h in
      record {
        searching = record {
          size = length-set seen k OnWay ∙ s.size;
          done = λ i e. s.done i (kept-mark seen k i OnWay Done less on-is-done e);
          on_way = λ i e. elim (same-or-not k i) [
            | inl same ↦ in-right i (rest ++ t ∷ []) (k ∷ []) (inl (sym same))
            | inr apart ↦ in-left i (rest ++ t ∷ []) (k ∷ []) (s.on_way i (sym (got-other seen k i OnWay apart) ∙ e))
          ];
          path = path-more n w rest t k s.path is h;
          apart = apart-more u (rest ++ t ∷ []) k s.apart off;
        };
        keeps = λ i e. f.keeps i (kept-mark seen k i OnWay New less on-is-new e);
        begun = λ e. f.begun (kept-mark seen k start OnWay New less on-is-new e);
      }

  -- back from one that waits for none at which the search is not done
  pub goes-back : (before seen : List Seen) (start t : ℕ) (rest : List ℕ) → From n w u before seen start (rest ++ t ∷ [])
      → ((j : ℕ) → j < n → w t j ≡ true → is_open (slice_get seen j) ≡ false) → From n w u before (slice_set seen t Done) start rest
  goes-back before seen start t rest f none =
      let s = f.searching in
      let h : t < n = path-last n w rest t s.path in
      let less : t < length seen = subst (λ j. t < j) (sym s.size) h in
      let off : InNoRing n w t = none-through n w t (λ y below is. s.done y (is-done seen y (subst (λ j. y < j) (sym s.size) below) (none y below is))) in
      record {
        searching = record {
          size = length-set seen t Done ∙ s.size;
          done = λ i e. elim (same-or-not t i) [
            | inl same ↦ subst (InNoRing n w) same off
            | inr apart ↦ s.done i (sym (got-other seen t i Done apart) ∙ e)
          ];
          on_way = λ i e. elim (same-or-not t i) [
            | inl same ↦ absurd (done-is-on (some-injective Done OnWay (sym (got-same seen t Done less) ∙ ap (slice_get (slice_set seen t Done)) same ∙ e)))
            | inr apart ↦ elim (in-parts i rest (t ∷ []) (s.on_way i (sym (got-other seen t i Done apart) ∙ e))) [
              | inl there ↦ there
              | inr last ↦ elim last [ inl is ↦ absurd (apart (sym is)) | inr none ↦ absurd none ]
            ]
          ];
          path = path-less n w rest t s.path;
          apart = apart-less u rest (t ∷ []) s.apart;
        };
        keeps = λ i e. f.keeps i (kept-mark seen t i Done New less done-is-new e);
        begun = λ e. f.begun (kept-mark seen t start Done New less done-is-new e);
      }

  -- the same, by what the code holds
  pub begins-as : (seen now : List Seen) (start : ℕ) (way : List ℕ) → Searching n w u seen [] → start < n → now ≡ slice_set seen start OnWay → way ≡ start ∷ []
      → From n w u seen now start way
  begins-as seen now start way s h e f =
      subst (λ (x : List Seen). From n w u seen x start way) (sym e) (subst (λ (y : List ℕ). From n w u seen (slice_set seen start OnWay) start y) (sym f) (begins seen start s h))

  pub goes-on-as : (before seen now : List Seen) (start t k : ℕ) (old rest way : List ℕ) → From n w u before seen start old → old ≡ rest ++ t ∷ [] → k < n → w t k ≡ true
      → ((j : ℕ) → In j (rest ++ t ∷ []) → u j k ≡ true → ⊥) → now ≡ slice_set seen k OnWay → way ≡ (rest ++ t ∷ []) ++ k ∷ []
      → From n w u before now start way
  goes-on-as before seen now start t k old rest way f is h g off e y =
      subst (λ (x : List Seen). From n w u before x start way) (sym e)
      (subst (λ (z : List ℕ). From n w u before (slice_set seen k OnWay) start z) (sym y)
      (goes-on before seen start t k rest (subst (λ (z : List ℕ). From n w u before seen start z) is f) h g off))

  pub goes-back-as : (before seen now : List Seen) (start t : ℕ) (old rest : List ℕ) → From n w u before seen start old → old ≡ rest ++ t ∷ []
      → NextOpen n w seen t None → now ≡ slice_set seen t Done → From n w u before now start rest
  goes-back-as before seen now start t old rest f is none e =
      subst (λ (x : List Seen). From n w u before x start rest) (sym e)
      (goes-back before seen start t rest (subst (λ (z : List ℕ). From n w u before seen start z) is f) none)

  pub top-within : (before seen : List Seen) (start t : ℕ) (old rest : List ℕ) → From n w u before seen start old → old ≡ rest ++ t ∷ [] → t < length seen
  top-within before seen start t old rest f is =
      subst (λ k. t < k) (sym f.searching.size) (path-last n w rest t (subst (λ (z : List ℕ). Path n w z) is f.searching.path))

  -- the next one is new, where it is not on the way
  pub next-is-new : (before seen : List Seen) (start t k : ℕ) (old rest : List ℕ) → From n w u before seen start old → old ≡ rest ++ t ∷ [] → NextOpen n w seen t (Some k)
      → (In k (rest ++ t ∷ []) → ⊥) → slice_get seen k ≡ Some New
  next-is-new before seen start t k old rest f is next off =
      is-new seen k next.2 (λ e. off (subst (λ (z : List ℕ). In k z) is (f.searching.on_way k e)))

  pub told : (before seen : List Seen) (start : ℕ) (ring : List ℕ) → Ring n w ring → Apart u ring → Searched n w u before seen start ring
  told before seen start [] h a = absurd h
  told before seen start (i ∷ ring) h a = (h, a)

  -- from where the way comes to one that is the same as what its last waits for it is told, where to wait for two that are the same is
  -- the same
  pub told-from : (before seen now : List Seen) (start t k m i : ℕ) (old rest way part : List ℕ) → ((x y z : ℕ) → u y z ≡ true → w x z ≡ true → w x y ≡ true)
      → From n w u before seen start old → old ≡ rest ++ t ∷ [] → NextOpen n w seen t (Some k) → way ≡ rest ++ t ∷ [] → slice_get way i ≡ Some m → u m k ≡ true
      → part ≡ drop i way → Searched n w u before now start part
  told-from before seen now start t k m i old rest way part alike f is next same at meets e =
      let path : Path n w (rest ++ t ∷ []) = subst (λ (z : List ℕ). Path n w z) is f.searching.path in
      let apart : Apart u (rest ++ t ∷ []) = subst (λ (z : List ℕ). Apart u z) is f.searching.apart in
      let ring : Ring n w (drop i (rest ++ t ∷ [])) =
      ring-from n w rest t m i path (alike t m k meets next.1) (ap (λ (z : List ℕ). slice_get z i) (sym same) ∙ at) in
      let back : drop i (rest ++ t ∷ []) ≡ part = sym (e ∙ ap (drop i) same) in
      told before now start part (subst (λ (z : List ℕ). Ring n w z) back ring)
      (subst (λ (z : List ℕ). Apart u z) back (apart-behind u i (rest ++ t ∷ []) apart))

  -- the end of a search
  pub ends : (before seen : List Seen) (start : ℕ) (way ring : List ℕ) → From n w u before seen start way → length way ≡ 0 → ring ≡ [] → Searched n w u before seen start ring
  ends before seen start [] [] f h e = (f.searching, f.keeps, f.begun)
  ends before seen start (i ∷ way) [] f h e = absurd (omega (arith, h))
  ends before seen start way (i ∷ ring) f h e = cc

  pub names : (before seen : List Seen) (start : ℕ) (ring : List ℕ) → (length ring ≡ 0 → ⊥) → Searched n w u before seen start ring → Names n w u ring
  names before seen start [] some h = absurd (some refl)
  names before seen start (i ∷ ring) some h = h

  -- ---- all searches
  -- none of those before this index is new
  pub record Before (seen : List Seen) (start : ℕ) : Type 0 where
    pub searching : Searching n w u seen []
    pub begun : (i : ℕ) → i < start → slice_get seen i ≡ Some New → ⊥

  pub at-first : (seen : List Seen) → length seen ≡ n → ((i : ℕ) → slice_get seen i ≡ Some Done → ⊥) → ((i : ℕ) → slice_get seen i ≡ Some OnWay → ⊥) → Before seen 0
  at-first seen size none away = record {
    searching = record { size = size; done = λ i e. absurd (none i e); on_way = λ i e. absurd (away i e); path = tt; apart = tt };
    begun = λ i h e. absurd (omega (arith, h));
  }

  pub one-more : (seen : List Seen) (start next : ℕ) → Before seen start → next ≡ start + 1 → (slice_get seen start ≡ Some New → ⊥) → Before seen next
  one-more seen start next b is not = record {
    searching = b.searching;
    begun = λ i h. elim (same-or-not i start) [
      | inl same ↦ λ e. not (sym (ap (slice_get seen) same) ∙ e)
      | inr apart ↦ λ e. b.begun i (omega (arith, h, is, apart)) e
    ];
  }

  pub searched : (before seen : List Seen) (start next : ℕ) (ring : List ℕ) → Before before start → next ≡ start + 1 → length ring ≡ 0 → Searched n w u before seen start ring → Before seen next
  searched before seen start next (i ∷ ring) b is none h = absurd (omega (arith, none))
  searched before seen start next [] b is none h = record {
    searching = h.0;
    begun = λ i l. elim (same-or-not i start) [
      | inl same ↦ λ e. h.2 (sym (ap (slice_get seen) same) ∙ e)
      | inr apart ↦ λ e. b.begun i (omega (arith, l, is, apart)) (h.1 i e)
    ];
  }

  pub none-left : (seen : List Seen) (start : ℕ) (ring : List ℕ) → Before seen start → n ≤ start → ring ≡ [] → Names n w u ring
  none-left seen start (i ∷ ring) b h e = cc
  none-left seen start [] b h e = none
    where
      none : (ring : List ℕ) → Ring n w ring → ⊥
      none [] r = r
      none (i ∷ rest) r =
          let below : i < n = ring-below n w i rest r in
          let at = mark-at seen i (subst (λ k. i < k) (sym b.searching.size) below) in
          pick at.0 at.1
        where
          pick : (x : Seen) → slice_get seen i ≡ Some x → ⊥
          pick New e = let below : i < n = ring-below n w i rest r in b.begun i (omega (arith, below, h)) e
          pick OnWay e = b.searching.on_way i e
          pick Done e = b.searching.done i e (i ∷ rest) r (inl refl)
