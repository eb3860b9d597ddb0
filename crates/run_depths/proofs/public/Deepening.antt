-- Depths while they are made.
use Rattle.std.proofs.Common.{◌≡◌, ◌⊎◌, inl, inr, ℕ, zero, suc, ◌+◌, ◌-◌, ◌<◌, ◌≤◌, List, [], ◌∷◌, ◌++◌, length, get_or, take, Some, refl, sym, ◌∙◌, ap, subst, arith, length-append, max, add-one}
use Rattle.std.specs.Prelude.{slice_get}
use Rattle.std.proofs.lemmas.Bool.{cases_lt}
use Rattle.std.proofs.lemmas.Option.{slice_get-get_or, slice_get_within}
use Rattle.syntax.specs.Lists.{In}
use Rattle.runs.specs.InOrder.{InOrder}
use Rattle.runs.specs.Live.{Live, Rising}
use Rattle.runs.specs.declared.event.Event.{Event}
use Rattle.dependence.specs.Followers.{Follower, ListsFollowers, ListsLeads}
use Rattle.dependence.proofs.public.ListPlaces.{at-one, in-order-more, in-read, take-next, take-all}
use Rattle.dependence.proofs.public.Standing.{index-rises, lesser-stands}
use Rattle.runs.proofs.public.Lists.{every-in, in-left, in-right, in-parts}
use Rattle.runs.proofs.public.Options.{none-some, some-injective}
use Rattle.run_depths.specs.Depths.{AreAhead, AreBelow, AreDepths, IsBehind, IsDepth, ListsAhead, StandsAt}

-- a ticket stands at one place
pub one-place : (low next : ℕ) (l : Live) (t i j : ℕ) → Rising low l next → StandsAt l t i → StandsAt l t j → i ≡ j
one-place low next l t i j r a b =
    elim (cases_lt i j) [
      | inl low_i ↦ let self : t < t = index-rises low next l i j t t a.0 b.0 r a.1 b.1 low_i in absurd (omega arith)
      | inr up ↦ elim (cases_lt j i) [
        | inl low_j ↦ let self : t < t = index-rises low next l j i t t b.0 a.0 r b.1 a.1 low_j in absurd (omega arith)
        | inr back ↦ omega arith
      ]
    ]

-- one ticket stands at a place
pub one-ticket : (l : Live) (i t u : ℕ) → StandsAt l t i → StandsAt l u i → t ≡ u
one-ticket l i t u a b = ap (λ (y : ℕ × Event). y.0) (at-one l i (t, a.0) (u, b.0) a.1 b.1)

-- what an event follows stands before it
pub lead-before : (low next : ℕ) (l : Live) (t u i j : ℕ) → Rising low l next → Follower l t u → StandsAt l t j → StandsAt l u i → j < i
lead-before low next l t u i j r f a b = lesser-stands low next l j i t u a.0 b.0 r a.1 b.1 f.dependent.less

-- the depths that are there stay where one is put behind them
pub at-more : (depths : List ℕ) (d k : ℕ) → k < length depths → get_or (depths ++ d ∷ []) k 0 ≡ get_or depths k 0
at-more [] d k h = absurd (omega arith)
at-more (x ∷ depths) d zero h = refl
at-more (x ∷ depths) d (suc k) h = let less : k < length depths = omega arith in at-more depths d k less

pub at-end : (depths : List ℕ) (d : ℕ) → get_or (depths ++ d ∷ []) (length depths) 0 ≡ d
at-end [] d = refl
at-end (x ∷ depths) d = at-end depths d

-- so is what is a depth among them
pub behind-more : (l : Live) (depths : List ℕ) (d t x : ℕ) → ((j : ℕ) → StandsAt l t j → j < length depths) → IsBehind l depths t x → IsBehind l (depths ++ d ∷ []) t x
behind-more l depths d t x known h = (h.0, h.1, h.2 ∙ ap (λ n. n + 1) (sym (at-more depths d h.0 (known h.0 h.1))))

pub depth-more : (l : Live) (depths : List ℕ) (d u x : ℕ) → ((t j : ℕ) → Follower l t u → StandsAt l t j → j < length depths) → IsDepth l depths u x
    → IsDepth l (depths ++ d ∷ []) u x
depth-more l depths d u x known h = record {
  above = λ t j f a. let is = at-more depths d j (known t j f a) in let less = h.above t j f a in subst (λ n. n < x) (sym is) less;
  reached = elim h.reached [
    | inl none ↦ inl none
    | inr some ↦ inr (some.0, some.1, behind-more l depths d some.0 x (λ j a. known some.0 j some.1 a) some.2)
  ];
}

-- the depths of the events before index n are known
pub record KnownTo (l : Live) (depths : List ℕ) (n : ℕ) : Type 0 where
  pub size : length depths ≡ n
  pub small : AreBelow depths
  pub each : (i u : ℕ) → i < n → StandsAt l u i → IsDepth l depths u (get_or depths i 0)

pub known-none : (l : Live) → KnownTo l [] 0
known-none l = record { size = refl; small = λ k h. absurd (omega arith); each = λ i u h a. absurd (omega arith) }

below-more : (depths : List ℕ) (d : ℕ) → AreBelow depths → d ≤ length depths → AreBelow (depths ++ d ∷ [])
below-more depths d small h k less =
    elim (cases_lt k (length depths)) [
      | inl in_depths ↦ subst (λ n. n ≤ k) (sym (at-more depths d k in_depths)) (small k in_depths)
      | inr last ↦
          let size = length-append depths (d ∷ []) in
          let is : k ≡ length depths = omega arith in
          let here : get_or (depths ++ d ∷ []) k 0 ≡ d = ap (λ n. get_or (depths ++ d ∷ []) n 0) is ∙ at-end depths d in
          omega arith
    ]

-- one more
pub known-next : (low next : ℕ) (l : Live) (depths : List ℕ) (n u d : ℕ) → Rising low l next → KnownTo l depths n → StandsAt l u n → IsDepth l depths u d
    → d ≤ length depths → KnownTo l (depths ++ d ∷ []) (suc n)
known-next low next l depths n u d r known at deep small = record {
  size = let size = length-append depths (d ∷ []) in let was = known.size in omega arith;
  small = below-more depths d known.small small;
  each = λ i v less a.
      elim (cases_lt i n) [
        | inl before ↦
            subst (λ x. IsDepth l (depths ++ d ∷ []) v x) (sym (at-more depths d i (let was = known.size in omega arith)))
            (depth-more l depths d v (get_or depths i 0)
            (λ t j f b. let earlier : j < i = lead-before low next l t v i j r f b a in let was = known.size in omega arith)
            (known.each i v before a))
        | inr last ↦
            let is : i ≡ n = omega arith in
            let here : get_or (depths ++ d ∷ []) i 0 ≡ d = ap (λ k. get_or (depths ++ d ∷ []) k 0) (is ∙ sym known.size) ∙ at-end depths d in
            let same : v ≡ u = let one = subst (λ k. StandsAt l v k) is a in one-ticket l n v u one at in
            subst (λ x. IsDepth l (depths ++ d ∷ []) v x) (sym here)
            (depth-more l depths d v d
            (λ t j f b. let earlier : j < i = lead-before low next l t v i j r f b a in let was = known.size in omega arith)
            (subst (λ w. IsDepth l depths w d) (sym same) deep))
      ];
}

-- so far is known of what a loop pushes
pub known-pushed : (low next : ℕ) (l : Live) (depths shown new : List ℕ) (n u d : ℕ) → Rising low l next → KnownTo l depths n → StandsAt l u n
    → shown ≡ depths → new ≡ depths ++ d ∷ [] → IsDepth l shown u d → d ≤ length shown → KnownTo l new (n + 1)
known-pushed low next l depths shown new n u d r known at is made deep small =
    subst (λ (k : ℕ). KnownTo l new k) (sym (add-one n))
    (subst (λ (xs : List ℕ). KnownTo l xs (suc n)) (sym made)
    (known-next low next l depths n u d r known at (subst (λ (xs : List ℕ). IsDepth l xs u d) is deep) (subst (λ (xs : List ℕ). d ≤ length xs) is small)))

pub all-known : (l : Live) (depths : List ℕ) (n : ℕ) → KnownTo l depths n → n ≡ length l → AreDepths l depths
all-known l depths n known whole = record {
  size = known.size ∙ whole;
  each = λ i u a. let within = slice_get_within l i _ a.1 in known.each i u (omega arith) a;
}

-- the first numbers of a list, one more of them
pub next-of : (xs : List ℕ) (i : ℕ) → i < length xs → take (i + 1) xs ≡ take i xs ++ get_or xs i 0 ∷ []
next-of xs i h = ap (λ (k : ℕ). take k xs) (add-one i) ∙ take-next xs i (get_or xs i 0) (slice_get-get_or xs i 0 h)

pub in-next : (xs : List ℕ) (i t : ℕ) → i < length xs → In t (take (i + 1) xs) → In t (take i xs) ⊎ (t ≡ get_or xs i 0)
in-next xs i t h within =
    elim (in-parts t (take i xs) (get_or xs i 0 ∷ []) (subst (λ (ys : List ℕ). In t ys) (next-of xs i h) within)) [
      | inl before ↦ inl before
      | inr (inl here) ↦ inr here
      | inr (inr none) ↦ absurd none
    ]

pub in-still : (xs : List ℕ) (i t : ℕ) → i < length xs → In t (take i xs) → In t (take (i + 1) xs)
in-still xs i t h before = subst (λ (ys : List ℕ). In t ys) (sym (next-of xs i h)) (in-left t (take i xs) (get_or xs i 0 ∷ []) before)

pub in-here : (xs : List ℕ) (i : ℕ) → i < length xs → In (get_or xs i 0) (take (i + 1) xs)
in-here xs i h = subst (λ (ys : List ℕ). In (get_or xs i 0) ys) (sym (next-of xs i h)) (in-right (get_or xs i 0) (take i xs) (get_or xs i 0 ∷ []) (inl refl))

-- d is one more than the greatest depth of these events, and 0 where there are none
pub record DepthTo (l : Live) (depths seen : List ℕ) (d : ℕ) : Type 0 where
  pub above : (t j : ℕ) → In t seen → StandsAt l t j → get_or depths j 0 < d
  pub reached : (d ≡ 0) ⊎ ((t : ℕ) × In t seen × IsBehind l depths t d)

pub depth-none : (l : Live) (depths : List ℕ) → DepthTo l depths [] 0
depth-none l depths = record { above = λ t j none a. absurd none; reached = inl refl }

pub depth-next : (low next : ℕ) (l : Live) (depths leads : List ℕ) (i d x m : ℕ) → Rising low l next → i < length leads
    → DepthTo l depths (take i leads) d → IsBehind l depths (get_or leads i 0) x → m ≡ max d x → DepthTo l depths (take (i + 1) leads) m
depth-next low next l depths leads i d x m r h to behind is = record {
  above = λ t j within a.
      elim (in-next leads i t h within) [
        | inl before ↦ let less = to.above t j before a in omega arith
        | inr here ↦
            let same : j ≡ behind.0 = one-place low next l (get_or leads i 0) j behind.0 r (subst (λ (k : ℕ). StandsAt l k j) here a) behind.1 in
            let deep = behind.2 in
            let there : get_or depths j 0 ≡ get_or depths behind.0 0 = ap (λ (k : ℕ). get_or depths k 0) same in
            omega arith
      ];
  reached =
      elim (cases_lt d x) [
        | inl more ↦ let new : m ≡ x = omega arith in inr (get_or leads i 0, in-here leads i h, subst (λ (k : ℕ). IsBehind l depths (get_or leads i 0) k) (sym new) behind)
        | inr less ↦
            let old : m ≡ d = omega arith in
            elim to.reached [
              | inl none ↦ inl (old ∙ none)
              | inr some ↦ inr (some.0, in-still leads i some.0 h some.1, subst (λ (k : ℕ). IsBehind l depths some.0 k) (sym old) some.2)
            ]
      ];
}

pub depth-all : (l : Live) (depths leads : List ℕ) (i u d : ℕ) → ListsLeads l u leads → length leads ≤ i → DepthTo l depths (take i leads) d → IsDepth l depths u d
depth-all l depths leads i u d listed whole to =
    let all : DepthTo l depths leads d = subst (λ (xs : List ℕ). DepthTo l depths xs d) (take-all leads i whole) to in record {
      above = λ t j f a. all.above t j ((listed.exactly t).1 f) a;
      reached = elim all.reached [ inl none ↦ inl none | inr some ↦ inr (some.0, (listed.exactly some.0).0 some.1, some.2) ];
    }

-- so many events further on
pub stands-ahead : (low next : ℕ) (l : Live) (i j t u : ℕ) → Rising low l next → StandsAt l t i → StandsAt l u j → t < u → (i ≤ j) × StandsAt l u (i + (j - i))
stands-ahead low next l i j t u r a b less =
    let before : i < j = lesser-stands low next l i j t u a.0 b.0 r a.1 b.1 less in
    let back : j ≡ i + (j - i) = omega arith in
    (omega arith, subst (λ (k : ℕ). StandsAt l u k) back b)

-- how much further on than index i these events stand
pub record AheadTo (l : Live) (i : ℕ) (seen ahead : List ℕ) : Type 0 where
  pub each : (n : ℕ) → In n ahead → (u : ℕ) × In u seen × StandsAt l u (i + n)
  pub all : (u : ℕ) → In u seen → (n : ℕ) × In n ahead × StandsAt l u (i + n)
  pub ascending : InOrder ◌<◌ ahead

pub ahead-none : (l : Live) (i : ℕ) → AheadTo l i [] []
ahead-none l i = record { each = λ n none. absurd none; all = λ u none. absurd none; ascending = tt }

-- of an ascending list the numbers before a place are less than the one at it
before-next : (xs : List ℕ) (k v : ℕ) → InOrder ◌<◌ xs → k < length xs → In v (take k xs) → v < get_or xs k 0
before-next [] k v order h within = absurd (omega arith)
before-next (x ∷ xs) zero v order h within = absurd within
before-next (x ∷ xs) (suc k) v order h within =
    let less : k < length xs = omega arith in
    elim within [
      | inl here ↦ let later : x < get_or xs k 0 = every-in (◌<◌ x) xs (get_or xs k 0) order.0 (in-read xs k less) in omega arith
      | inr rest ↦ before-next xs k v order.1 less rest
    ]

pub ahead-next : (low next : ℕ) (l : Live) (i k n : ℕ) (xs ahead new : List ℕ) → Rising low l next → InOrder ◌<◌ xs → k < length xs
    → StandsAt l (get_or xs k 0) (i + n) → AheadTo l i (take k xs) ahead → new ≡ ahead ++ n ∷ [] → AheadTo l i (take (k + 1) xs) new
ahead-next low next l i k n xs ahead new rising order h at to is = subst (λ (ys : List ℕ). AheadTo l i (take (k + 1) xs) ys) (sym is) (record {
  each = λ m within.
      elim (in-parts m ahead (n ∷ []) within) [
        | inl before ↦ let old = to.each m before in (old.0, in-still xs k old.0 h old.1, old.2)
        | inr (inl here) ↦ (get_or xs k 0, in-here xs k h, subst (λ (q : ℕ). StandsAt l (get_or xs k 0) (i + q)) (sym here) at)
        | inr (inr none) ↦ absurd none
      ];
  all = λ u within.
      elim (in-next xs k u h within) [
        | inl before ↦ let old = to.all u before in (old.0, in-left old.0 ahead (n ∷ []) old.1, old.2)
        | inr here ↦ (n, in-right n ahead (n ∷ []) (inl refl), subst (λ (q : ℕ). StandsAt l q (i + n)) (sym here) at)
      ];
  ascending = in-order-more ◌<◌ ahead n to.ascending (λ m within.
      let old = to.each m within in
      let less : old.0 < get_or xs k 0 = before-next xs k old.0 order h old.1 in
      let further : i + m < i + n =
      lesser-stands low next l (i + m) (i + n) old.0 (get_or xs k 0) old.2.0 at.0 rising old.2.1 at.1 less in
      omega arith);
})

pub ahead-all : (l : Live) (i t k : ℕ) (xs ahead : List ℕ) → ListsFollowers l t xs → length xs ≤ k → AheadTo l i (take k xs) ahead → ListsAhead l i t ahead
ahead-all l i t k xs ahead listed whole to =
    let full : AheadTo l i xs ahead = subst (λ (ys : List ℕ). AheadTo l i ys ahead) (take-all xs k whole) to in record {
      each = λ n within. let one = full.each n within in (one.0, (listed.exactly one.0).0 one.1, one.2);
      all = λ u f. full.all u ((listed.exactly u).1 f);
      ascending = full.ascending;
    }

-- the rows of the events before index n
pub record RowsTo (l : Live) (rows : List (List ℕ)) (n : ℕ) : Type 0 where
  pub size : length rows ≡ n
  pub each : (i t : ℕ) (row : List ℕ) → StandsAt l t i → slice_get rows i ≡ Some row → ListsAhead l i t row

pub rows-none : (l : Live) → RowsTo l [] 0
rows-none l = record { size = refl; each = λ i t row a none. none-some row none }

get-last : (rows : List (List ℕ)) (row : List ℕ) (i : ℕ) (found : List ℕ) → slice_get (rows ++ row ∷ []) i ≡ Some found
    → (slice_get rows i ≡ Some found) ⊎ ((i ≡ length rows) × (found ≡ row))
get-last [] row zero found h = inr (refl, some-injective found row (sym h))
get-last [] row (suc i) found h = none-some found h
get-last (x ∷ rows) row zero found h = inl h
get-last (x ∷ rows) row (suc i) found h =
    elim (get-last rows row i found h) [ inl old ↦ inl old | inr new ↦ inr (ap suc new.0, new.1) ]

pub rows-next : (l : Live) (rows new : List (List ℕ)) (row : List ℕ) (n t : ℕ) → RowsTo l rows n → StandsAt l t n → ListsAhead l n t row
    → new ≡ rows ++ row ∷ [] → RowsTo l new (n + 1)
rows-next l rows new row n t to at listed is = subst (λ (xs : List (List ℕ)). RowsTo l xs (n + 1)) (sym is) (record {
  size = let whole = length-append rows (row ∷ []) in let was = to.size in omega arith;
  each = λ i u found a h.
      elim (get-last rows row i found h) [
        | inl old ↦ to.each i u found a old
        | inr last ↦
            let here : i ≡ n = last.0 ∙ to.size in
            let same : u ≡ t = one-ticket l n u t (subst (λ (k : ℕ). StandsAt l u k) here a) at in
            subst (λ (xs : List ℕ). ListsAhead l i u xs) (sym last.1)
            (subst (λ (v : ℕ). ListsAhead l i v row) (sym same) (subst (λ (k : ℕ). ListsAhead l k t row) (sym here) listed))
      ];
})

pub rows-all : (l : Live) (rows : List (List ℕ)) (n : ℕ) → RowsTo l rows n → n ≡ length l → AreAhead l rows
rows-all l rows n to whole = record { size = to.size ∙ whole; each = to.each }
