-- The places of live events in order, and the greatest depth behind those before a place.
use Rattle.std.proofs.Common.{◌≡◌, ◌⊎◌, inl, inr, ℕ, zero, suc, ◌+◌, ◌<◌, ◌≤◌, Bool, true, false, not, List, [], ◌∷◌, ◌++◌, length, get_or, take, max, None, Some, refl, sym, ◌∙◌, ap, subst, arith, add-one, length-append, true≢false, Option, Ordering, Less, Equal, Greater}
use Rattle.std.specs.Prelude.{slice_get}
use Rattle.std.specs.Cmp.{IsStrictWeakOrder}
use Rattle.std.specs.Fn.{Called, ComparesAs}
use Rattle.std.specs.List.{Contains}
use Rattle.std.specs.List.Sorted.{IsPermutation, IsSortedBy, IsPartitionedBy, IsPartitionPoint}
use Rattle.std.specs.Ordering.{is_lt}
use Rattle.std.proofs.lemmas.Bool.{cases_lt}
use Rattle.std.proofs.lemmas.Fn.{always_returns_same}
use Rattle.std.proofs.lemmas.List.Sorted.{Contains-permutation, IsPermutation-sym, ranks_by, sorted_far}
use Rattle.std.proofs.lemmas.Option.{slice_get-get_or, slice_get_within}
use denote.Param.Members.{Mut}
use denote.Ref.{Bor}
use Rattle.address.specs.Order.{order_of}
use Rattle.address.specs.Places.{Before}
use Rattle.address.specs.declared.Entry.{Entry}
use Rattle.address.specs.declared.Entry.TheVariants.{Ordered, Branch}
use Rattle.address.specs.internal.OrderLaws.{order_of-total}
use Rattle.address.proofs.public.Places.{before-end}
use Rattle.address.proofs.public.Total.{before-is-less, order-total, order-transitive}
use Rattle.syntax.specs.Lists.{In}
use Rattle.runs.specs.Events.{places}
use Rattle.runs.specs.Live.{Live}
use Rattle.runs.specs.Moves.{Place}
use Rattle.runs.specs.declared.event.Event.{Event}
use Rattle.runs.proofs.public.Lists.{in-left, in-parts, in-right}
use Rattle.runs.proofs.public.Options.{none-some, some-injective}
use Rattle.dependence.proofs.public.ListPlaces.{at-one, at-within, in-at, index-in, take-all, take-next}
use Rattle.dependence.proofs.public.Tabling.{place-is, second-in}
use Rattle.dependence.specs.internal.Forks.{is_ordered_entry}
use Rattle.run_depths.specs.Since.{IsPlaceAt, IsSince}
use Rattle.run_depths.specs.internal.Held.{AllHeld, AreReaches, CountsLess, CountsTo, GreatestBefore, GreatestOver, HoldsPlaces, IsHeld, IsHeldAt, IsHeldFor, IsOrdered, IsReach}
use Rattle.run_depths.specs.declared.held.HeldPlace.{HeldPlace}
use Rattle.run_depths.specs.declared.held.HeldPlaces.{HeldPlaces}
use Rattle.run_depths.specs.declared.held.Reach.{Reach}
use Rattle.run_depths.proofs.ForkLaws.{before-more, between-before, branch-none, ordered-some}
use Rattle.run_depths.proofs.SinceLaws.{place-at}

-- ---- the order

less-only : (o : Ordering) → is_lt o ≡ true → o ≡ Less
less-only Less h = refl
less-only Equal h = cc
less-only Greater h = cc

less-not : (o : Ordering) → is_lt o ≡ false → o ≡ Less → ⊥
less-not o other is = true≢false (sym (ap is_lt is) ∙ other)

not-less : (o : Ordering) → (o ≡ Less → ⊥) → is_lt o ≡ false
not-less Less h = absurd (h refl)
not-less Equal h = refl
not-less Greater h = refl

-- how one of the places is compared with another
abbrev less_held : HeldPlace → HeldPlace → Bool
less_held p q = is_lt (order_of p.place.now q.place.now)

held-ranks : IsStrictWeakOrder less_held
held-ranks = ranks_by order_of-total (λ (p : HeldPlace). p.place.now)

pub read-at : {X : Type 0} (xs : List X) (i : ℕ) (x : X) → i < length xs → x ≡ get_or xs i x → slice_get xs i ≡ Some x
read-at xs i x within is = slice_get-get_or xs i x within ∙ ap (λ z. Some z) (sym is)

sorted-ordered : (ps : List HeldPlace) → IsSortedBy less_held ps → IsOrdered ps
sorted-ordered ps sorted i j p q up at-i at-j =
    let within : j < length ps = slice_get_within ps j q at-j in
    let low : i < length ps = slice_get_within ps i p at-i in
    let far = sorted_far less_held held-ranks ps sorted i j p up within in
    let one : get_or ps i p ≡ p = at-one ps i (get_or ps i p) p (slice_get-get_or ps i p low) at-i in
    let other : get_or ps j p ≡ q = at-one ps j (get_or ps j p) q (slice_get-get_or ps j p within) at-j in
    less-not (order_of q.place.now p.place.now)
    (subst (λ (x : HeldPlace). less_held q x ≡ false) one (subst (λ (x : HeldPlace). less_held x (get_or ps i p) ≡ false) other far))

pub sorted-by-place : {F : Type 0} {g : Mut F (Bor HeldPlace × (Bor HeldPlace × Unit {0})) Ordering} {f : F} (ps : List HeldPlace)
    → ((lt : HeldPlace → HeldPlace → Bool) → IsStrictWeakOrder lt → ComparesAs g lt f → IsSortedBy lt ps)
    → ((a : Bor HeldPlace × (Bor HeldPlace × Unit {0})) (r : Ordering) (f' : F) → Called g f a r f' →
    (r ≡ order_of a.0.now.place.now a.1.0.now.place.now) × (f' ≡ f)) → IsOrdered ps
sorted-by-place {g = g} {f = f} ps up h =
    sorted-ordered ps
    (up less_held held-ranks
    (always_returns_same g (λ a r. is_lt r ≡ less_held a.0.now a.1.0.now) f (λ a r f' k. (ap is_lt (h a r f' k).0, (h a r f' k).1))))

-- a place is less than all behind one that it is less than
less-on : (ps : List HeldPlace) (i j : ℕ) (p q : HeldPlace) (a : Place) → IsOrdered ps → i ≤ j → slice_get ps i ≡ Some p → slice_get ps j ≡ Some q →
    order_of a p.place.now ≡ Less → order_of a q.place.now ≡ Less
less-on ps i j p q a ordered up at-i at-j less =
    elim (order-total p.place.now q.place.now) [
      | inl on ↦ order-transitive a p.place.now q.place.now less on
      | inr (inl back) ↦ absurd (ordered i j p q up at-i at-j back)
      | inr (inr same) ↦ subst (λ (b : Place). order_of a b ≡ Less) same less
    ]

less-back : (ps : List HeldPlace) (i j : ℕ) (p q : HeldPlace) (a : Place) → IsOrdered ps → i ≤ j → slice_get ps i ≡ Some p → slice_get ps j ≡ Some q →
    order_of q.place.now a ≡ Less → order_of p.place.now a ≡ Less
less-back ps i j p q a ordered up at-i at-j less =
    elim (order-total p.place.now q.place.now) [
      | inl on ↦ order-transitive p.place.now q.place.now a on less
      | inr (inl back) ↦ absurd (ordered i j p q up at-i at-j back)
      | inr (inr same) ↦ subst (λ (b : Place). order_of b a ≡ Less) (sym same) less
    ]

-- ---- searches by halves

abbrev pub is_below : Place → HeldPlace → Bool
is_below a p = is_lt (order_of p.place.now a)

abbrev pub is_up_to : Place → HeldPlace → Bool
is_up_to a p = not (is_lt (order_of a p.place.now))

not-true : (b : Bool) → not b ≡ true → b ≡ false
not-true true h = cc
not-true false h = refl

not-false : (b : Bool) → not b ≡ false → b ≡ true
not-false true h = refl
not-false false h = cc

pub below-parted : (ps : List HeldPlace) (a : Place) → IsOrdered ps → IsPartitionedBy (is_below a) ps
below-parted ps a ordered i j d up within h =
    let low : i < length ps = omega arith in
    ap is_lt
    (less-back ps i j (get_or ps i d) (get_or ps j d) a ordered up (slice_get-get_or ps i d low) (slice_get-get_or ps j d within)
    (less-only (order_of (get_or ps j d).place.now a) h))

pub up_to-parted : (ps : List HeldPlace) (a : Place) → IsOrdered ps → IsPartitionedBy (is_up_to a) ps
up_to-parted ps a ordered i j d up within h =
    let low : i < length ps = omega arith in
    ap not
    (not-less (order_of a (get_or ps i d).place.now)
    (λ less. less-not (order_of a (get_or ps j d).place.now) (not-true (is_lt (order_of a (get_or ps j d).place.now)) h)
    (less-on ps i j (get_or ps i d) (get_or ps j d) a ordered up (slice_get-get_or ps i d low) (slice_get-get_or ps j d within) less)))

at-default : (ps : List HeldPlace) (k : ℕ) (p : HeldPlace) → slice_get ps k ≡ Some p → get_or ps k p ≡ p
at-default ps k p at = at-one ps k (get_or ps k p) p (slice_get-get_or ps k p (slice_get_within ps k p at)) at

pub counted-less : (ps : List HeldPlace) (a : Place) (n : ℕ) → n ≤ length ps → IsPartitionPoint (λ p. is_below a p ≡ true) (λ p. is_below a p ≡ false) ps n →
    CountsLess ps a n
counted-less ps a n within parts = record {
  within = within;
  below = λ k p low at.
      less-only (order_of p.place.now a)
      (subst (λ (q : HeldPlace). is_below a q ≡ true) (at-default ps k p at) (parts.0 k p (omega arith) low));
  above = λ k p high at.
      less-not (order_of p.place.now a)
      (subst (λ (q : HeldPlace). is_below a q ≡ false) (at-default ps k p at) (parts.1 k p high (slice_get_within ps k p at)));
}

pub counted-to : (ps : List HeldPlace) (a : Place) (n : ℕ) → IsPartitionPoint (λ p. is_up_to a p ≡ true) (λ p. is_up_to a p ≡ false) ps n → CountsTo ps a n
counted-to ps a n parts = record {
  below = λ k p low at.
      less-not (order_of a p.place.now)
      (not-true (is_lt (order_of a p.place.now))
      (subst (λ (q : HeldPlace). is_up_to a q ≡ true) (at-default ps k p at) (parts.0 k p (omega arith) low)));
  above = λ k p high at.
      less-only (order_of a p.place.now)
      (not-false (is_lt (order_of a p.place.now))
      (subst (λ (q : HeldPlace). is_up_to a q ≡ false) (at-default ps k p at) (parts.1 k p high (slice_get_within ps k p at))));
}

-- ---- the greatest of some that stand beside one another

pub over-none : (ps : List HeldPlace) (n : ℕ) → GreatestOver ps n n 0
over-none ps n = record { above = λ k p low high at. absurd (omega arith); reached = inl refl }

pub over-one : (ps : List HeldPlace) (k : ℕ) (p : HeldPlace) → slice_get ps k ≡ Some p → GreatestOver ps k (k + 1) p.behind
over-one ps k p at = record {
  above = λ i q low high there.
      let is : i ≡ k = omega arith in
      let same : q ≡ p = at-one ps k q p (subst (λ (n : ℕ). slice_get ps n ≡ Some q) is there) at in
      let equal : q.behind ≡ p.behind = ap (λ (x : HeldPlace). x.behind) same in
      omega arith;
  reached = let low : k ≤ k = omega arith in let high : k < k + 1 = omega arith in inr (k, p, low, high, at, refl);
}

pub over-join : (ps : List HeldPlace) (low middle high x y m : ℕ) → low ≤ middle → middle ≤ high → GreatestOver ps low middle x → GreatestOver ps middle high y →
    m ≡ max y x → GreatestOver ps low high m
over-join ps low middle high x y m first second one other is = record {
  above = λ k p from to at.
      elim (cases_lt k middle) [
        | inl less ↦ let small = one.above k p from less at in omega arith
        | inr more ↦ let past : middle ≤ k = omega arith in let small = other.above k p past to at in omega arith
      ];
  reached =
      elim (cases_lt y x) [
        | inl less ↦
            let same : m ≡ x = omega arith in
            elim one.reached [
              | inl none ↦ inl (same ∙ none)
              | inr some ↦ let up = some.3 in let high_up : some.0 < high = omega arith in inr (some.0, some.1, some.2, high_up, some.4, same ∙ some.5)
            ]
        | inr more ↦
            let same : m ≡ y = omega arith in
            elim other.reached [
              | inl none ↦ inl (same ∙ none)
              | inr some ↦ let from = some.2 in let low_from : low ≤ some.0 = omega arith in inr (some.0, some.1, low_from, some.3, some.4, same ∙ some.5)
            ]
      ];
}

-- where nothing is found, or all up to the lower index was looked at
pub over-ended : (ps : List HeldPlace) (low end high d : ℕ) → end ≤ low → (low ≤ end) ⊎ (d ≡ 0) → GreatestOver ps end high d → GreatestOver ps low high d
over-ended ps low end high d past from over =
    elim from [
      | inl up ↦ let same : end ≡ low = omega arith in subst (λ (n : ℕ). GreatestOver ps n high d) same over
      | inr none ↦ record {
        above = λ k p to less at. let past_end : end ≤ k = omega arith in over.above k p past_end less at;
        reached = inl none;
      }
    ]

-- ---- entry by entry

before-none : (ps : List HeldPlace) → GreatestBefore ps [] 0
before-none ps = record { above = λ k p at before. absurd (before-end p.place.now before); reached = inl refl }

take-none : (a : Place) → [] ≡ take 0 a
take-none [] = refl
take-none (x ∷ a) = refl

pub before-start : (ps : List HeldPlace) (a : Place) → GreatestBefore ps (take 0 a) 0
before-start ps a = subst (λ (b : Place). GreatestBefore ps b 0) (take-none a) (before-none ps)

pub ordered-at : (a : Place) (k : ℕ) → is_ordered_entry (slice_get a k) ≡ true → (n : ℕ) × (slice_get a k ≡ Some (Ordered n))
ordered-at a k is = pick (slice_get a k) refl is
  where
    pick : (o : Option Entry) → slice_get a k ≡ o → is_ordered_entry o ≡ true → (n : ℕ) × (slice_get a k ≡ Some (Ordered n))
    pick None at g = absurd (true≢false (sym g))
    pick (Some (Ordered n)) at g = (n, at)
    pick (Some (Branch n)) at g = absurd (true≢false (sym g))

pub branch-at : (a : Place) (k : ℕ) → k < length a → is_ordered_entry (slice_get a k) ≡ false → (n : ℕ) × (slice_get a k ≡ Some (Branch n))
branch-at a k within is = pick (slice_get a k) refl is
  where
    pick : (o : Option Entry) → slice_get a k ≡ o → is_ordered_entry o ≡ false → (n : ℕ) × (slice_get a k ≡ Some (Branch n))
    pick None at g = let there = at-within a k within in none-some there.0 (sym at ∙ there.1)
    pick (Some (Ordered n)) at g = absurd (true≢false g)
    pick (Some (Branch n)) at g = (n, at)

next-of : (a : Place) (k : ℕ) (x : Entry) → slice_get a k ≡ Some x → take (k + 1) a ≡ take k a ++ x ∷ []
next-of a k x at = ap (λ (n : ℕ). take n a) (add-one k) ∙ take-next a k x at

pub fork-branch : (ps : List HeldPlace) (a : Place) (k n d : ℕ) → slice_get a k ≡ Some (Branch n) → GreatestBefore ps (take k a) d →
    GreatestBefore ps (take (k + 1) a) d
fork-branch ps a k n d at known =
    subst (λ (b : Place). GreatestBefore ps b d) (sym (next-of a k (Branch n) at))
    (record {
      above = λ i p is before. known.above i p is (branch-none p.place.now (take k a) n before);
      reached =
          elim known.reached [
            | inl none ↦ inl none
            | inr some ↦ inr (some.0, some.1, some.2, before-more some.1.place.now (take k a) (Branch n) some.3, some.4)
          ];
    })

pub fork-ordered : (ps : List HeldPlace) (a : Place) (k n since low high most d : ℕ) → slice_get a k ≡ Some (Ordered n) → GreatestBefore ps (take k a) since →
    CountsTo ps (take k a) low → CountsLess ps (take (k + 1) a) high → GreatestOver ps low high most → d ≡ max since most →
    GreatestBefore ps (take (k + 1) a) d
fork-ordered ps a k n since low high most d at known to less over is =
    let next = next-of a k (Ordered n) at in
    subst (λ (b : Place). GreatestBefore ps b d) (sym next)
    (record {
      above = λ i p there before.
          elim (ordered-some p.place.now (take k a) n before) [
            | inl early ↦ let small = known.above i p there early in omega arith
            | inr behind ↦
                let below : order_of p.place.now (take (k + 1) a) ≡ Less =
                subst (λ (b : Place). order_of p.place.now b ≡ Less) (sym next) (before-is-less p.place.now (take k a ++ Ordered n ∷ []) before) in
                elim (cases_lt i low) [
                  | inl early ↦ absurd (to.below i p early there behind)
                  | inr from ↦ elim (cases_lt i high) [
                    | inl inside ↦
                        let start : low ≤ i = omega arith in
                        let small = over.above i p start inside there in
                        omega arith
                    | inr past ↦ let on : high ≤ i = omega arith in absurd (less.above i p on there below)
                  ]
                ]
          ];
      reached =
          elim (cases_lt since most) [
            | inl more ↦
                let same : d ≡ most = omega arith in
                elim over.reached [
                  | inl none ↦ inl (same ∙ none)
                  | inr some ↦
                      let p = some.1.place.now in
                      let behind : order_of (take k a) p ≡ Less = to.above some.0 some.1 some.2 some.4 in
                      let below : order_of p (take k a ++ Ordered n ∷ []) ≡ Less =
                      subst (λ (b : Place). order_of p b ≡ Less) next (less.below some.0 some.1 some.3 some.4) in
                      inr (some.0, some.1, some.4, between-before p (take k a) n behind below, same ∙ some.5)
                ]
            | inr fewer ↦
                let same : d ≡ since = omega arith in
                elim known.reached [
                  | inl none ↦ inl (same ∙ none)
                  | inr some ↦ inr (some.0, some.1, some.2, before-more some.1.place.now (take k a) (Ordered n) some.3, same ∙ some.4)
                ]
          ];
    })

pub before-all : (l : Live) (depths : List ℕ) (h : HeldPlaces) (a : Place) (k d : ℕ) → length a ≤ k → GreatestBefore h.places.items (take k a) d →
    HoldsPlaces l depths h → IsSince l depths a d
before-all l depths h a k d whole known holds =
    let known_all : GreatestBefore h.places.items a d = subst (λ (b : Place). GreatestBefore h.places.items b d) (take-all a k whole) known in
    record {
      above = λ i b at before.
          let within : i < length l = slice_get_within l i (at.0, at.1) at.2 in
          let there = holds.all.all i b within at in
          let index = index-in h.places.items there.0 there.1 in
          let small = known_all.above index.0 there.0 index.1 (subst (λ (c : Place). Before c a) (sym there.2) before) in
          let behind = there.3 in
          omega arith;
      reached =
          elim known_all.reached [
            | inl none ↦ inl none
            | inr some ↦
                let held = holds.all.each some.1 (in-at h.places.items some.0 some.1 some.2) in
                inr (held.0, some.1.place.now, held.1, some.3, some.4 ∙ held.2)
          ];
    }

-- ---- all places

pub held-none : (l : Live) (depths : List ℕ) → AllHeld l depths 0 []
held-none l depths = record { each = λ p none. absurd none; all = λ i a less at. absurd (omega arith) }

pub held-more : (l : Live) (depths : List ℕ) (n t d : ℕ) (e : Event) (old new : List HeldPlace) → slice_get l n ≡ Some (t, e) →
    d ≡ get_or depths n 0 + 1 → AllHeld l depths n old → IsHeldFor e d old new → AllHeld l depths (n + 1) new
held-more l depths n t d e old new at is all more = record {
  each = λ p within.
      elim (more.each p within) [
        | inl before ↦ all.each p before
        | inr own ↦ (n, (t, e, at, own.0), own.1 ∙ is)
      ];
  all = λ i a less there.
      elim (cases_lt i n) [
        | inl low ↦
            let one = all.all i a low there in
            (one.0, more.kept one.0 one.1, one.2, one.3)
        | inr high ↦
            let index : i ≡ n = omega arith in
            let own : In a (places e) = place-at l n t e a at (subst (λ (k : ℕ). IsPlaceAt l k a) index there) in
            let one = more.all a own in
            let depth : get_or depths n 0 ≡ get_or depths i 0 = ap (λ (k : ℕ). get_or depths k 0) (sym index) in
            (one.0, one.1, one.2, one.3 ∙ is ∙ ap (λ (k : ℕ). k + 1) depth)
      ];
}

in-contains : (xs : List HeldPlace) (x : HeldPlace) → In x xs → Contains xs x
in-contains xs x within =
    let at = index-in xs x within in
    (at.0, slice_get_within xs at.0 x at.1, at-default xs at.0 x at.1)

contains-in : (xs : List HeldPlace) (x : HeldPlace) → Contains xs x → In x xs
contains-in xs x h = subst (λ (y : HeldPlace). In y xs) h.2 (in-at xs h.0 (get_or xs h.0 x) (slice_get-get_or xs h.0 x h.1))

in-moved : (xs ys : List HeldPlace) (x : HeldPlace) → IsPermutation xs ys → In x xs → In x ys
in-moved xs ys x moved within = contains-in ys x (Contains-permutation xs ys x moved (in-contains xs x within))

pub held-moved : (l : Live) (depths : List ℕ) (n : ℕ) (old new : List HeldPlace) → IsPermutation old new → AllHeld l depths n old → AllHeld l depths n new
held-moved l depths n old new moved all = record {
  each = λ p within. all.each p (in-moved new old p (IsPermutation-sym old new moved) within);
  all = λ i a less at. let one = all.all i a less at in (one.0, in-moved old new one.0 moved one.1, one.2, one.3);
}

-- ---- reaches

abbrev pub ReachesTo : List HeldPlace → ℕ → List Reach → Type 0
ReachesTo ps n rs = (length rs ≡ n) × ((i : ℕ) (r : Reach) → slice_get rs i ≡ Some r → IsReach ps (i + 1) r)

more-at : (rs : List Reach) (x r : Reach) (i : ℕ) → slice_get (rs ++ x ∷ []) i ≡ Some r → (slice_get rs i ≡ Some r) ⊎ ((i ≡ length rs) × (x ≡ r))
more-at [] x r zero at = inr (refl, some-injective x r at)
more-at [] x r (suc i) at = none-some r at
more-at (y ∷ rs) x r zero at = inl at
more-at (y ∷ rs) x r (suc i) at =
    elim (more-at rs x r i at) [
      | inl before ↦ inl before
      | inr last ↦ let here = last.0 in let up : suc i ≡ length (y ∷ rs) = omega arith in inr (up, last.1)
    ]

pub reaches-none : (ps : List HeldPlace) → ReachesTo ps 0 []
reaches-none ps = (refl, λ i r at. none-some r at)

pub reaches-next : (ps : List HeldPlace) (n : ℕ) (rs new : List Reach) (x : Reach) → ReachesTo ps n rs → x.first ≤ n → GreatestOver ps x.first (n + 1) x.most →
    new ≡ rs ++ x ∷ [] → ReachesTo ps (n + 1) new
reaches-next ps n rs new x to low over is =
    let parts = length-append rs (x ∷ []) in
    let was = to.0 in
    let size : length (rs ++ x ∷ []) ≡ n + 1 = omega arith in
    subst (λ (qs : List Reach). ReachesTo ps (n + 1) qs) (sym is) (size, λ i r at. reach-of i r at)
  where
    reach-of : (i : ℕ) (r : Reach) → slice_get (rs ++ x ∷ []) i ≡ Some r → IsReach ps (i + 1) r
    reach-of i r at =
        elim (more-at rs x r i at) [
          | inl before ↦ to.1 i r before
          | inr last ↦
              let was = to.0 in
              let here = last.0 in
              let index : n ≡ i = omega arith in
              let less : x.first < n + 1 = omega arith in
              let own : IsReach ps (n + 1) x = (less, over) in
              subst (λ (q : Reach). IsReach ps (i + 1) q) last.1 (subst (λ (k : ℕ). IsReach ps (k + 1) x) index own)
        ]

pub reaches-all : (ps : List HeldPlace) (n : ℕ) (rs : List Reach) → n ≡ length ps → ReachesTo ps n rs → AreReaches ps rs
reaches-all ps n rs whole to = record { size = to.0 ∙ whole; each = to.1 }

-- one place more, by itself or with those before
pub longer-on : (ps : List HeldPlace) (first n most behind m : ℕ) (p : HeldPlace) → first ≤ n → slice_get ps n ≡ Some p → p.behind ≡ behind →
    GreatestOver ps first n most → m ≡ max most behind → GreatestOver ps first (n + 1) m
longer-on ps first n most behind m p low at is over made =
    let up : n ≤ n + 1 = omega arith in
    over-join ps first n (n + 1) most p.behind m low up over (over-one ps n p at) (omega arith)

pub longer-anew : (ps : List HeldPlace) (n behind : ℕ) (p : HeldPlace) → slice_get ps n ≡ Some p → p.behind ≡ behind → GreatestOver ps n (n + 1) behind
longer-anew ps n behind p at is = subst (λ (d : ℕ). GreatestOver ps n (n + 1) d) is (over-one ps n p at)

-- ---- the places of an event

pub held-first : (e : Event) (d : ℕ) (old new : List HeldPlace) (p : HeldPlace) → e.second ≡ None → p.place.now ≡ e.first → p.behind ≡ d →
    new ≡ old ++ p ∷ [] → IsHeldFor e d old new
held-first e d old new p alone place depth is =
    subst (λ (ps : List HeldPlace). IsHeldFor e d old ps) (sym is)
    (record {
      each = λ q within.
          elim (in-parts q old (p ∷ []) within) [
            | inl before ↦ inl before
            | inr (inl same) ↦ inr (subst (λ (x : HeldPlace). In x.place.now (places e)) (sym same) (inl place), ap (λ (x : HeldPlace). x.behind) same ∙ depth)
            | inr (inr none) ↦ absurd none
          ];
      kept = λ q within. in-left q old (p ∷ []) within;
      all = λ a within.
          elim (place-is e a within) [
            | inl first ↦ (p, in-right p old (p ∷ []) (inl refl), place ∙ sym first, depth)
            | inr second ↦ none-some a (sym alone ∙ second)
          ];
    })

pub held-both : (e : Event) (d : ℕ) (old middle new : List HeldPlace) (p q : HeldPlace) (b : Place) → e.second ≡ Some b → p.place.now ≡ e.first →
    p.behind ≡ d → q.place.now ≡ b → q.behind ≡ d → middle ≡ old ++ p ∷ [] → new ≡ middle ++ q ∷ [] → IsHeldFor e d old new
held-both e d old middle new p q b second place depth other_place other_depth first is =
    let other : In q.place.now (places e) = second-in e q.place.now (second ∙ ap (λ (x : Place). Some x) (sym other_place)) in
    let kept_first : (x : HeldPlace) → In x middle → In x new =
    λ x within. subst (λ (ps : List HeldPlace). In x ps) (sym is) (in-left x middle (q ∷ []) within) in
    record {
      each = λ x within.
          elim (in-parts x middle (q ∷ []) (subst (λ (ps : List HeldPlace). In x ps) is within)) [
            | inl before ↦ elim (in-parts x old (p ∷ []) (subst (λ (ps : List HeldPlace). In x ps) first before)) [
              | inl early ↦ inl early
              | inr (inl same) ↦
                  inr (subst (λ (y : HeldPlace). In y.place.now (places e)) (sym same) (inl place), ap (λ (y : HeldPlace). y.behind) same ∙ depth)
              | inr (inr none) ↦ absurd none
            ]
            | inr (inl same) ↦
                inr (subst (λ (y : HeldPlace). In y.place.now (places e)) (sym same) other, ap (λ (y : HeldPlace). y.behind) same ∙ other_depth)
            | inr (inr none) ↦ absurd none
          ];
      kept = λ x within. kept_first x (subst (λ (ps : List HeldPlace). In x ps) (sym first) (in-left x old (p ∷ []) within));
      all = λ a within.
          elim (place-is e a within) [
            | inl one ↦
                (p, kept_first p (subst (λ (ps : List HeldPlace). In p ps) (sym first) (in-right p old (p ∷ []) (inl refl))), place ∙ sym one, depth)
            | inr two ↦ (
              q,
              subst (λ (ps : List HeldPlace). In q ps) (sym is) (in-right q middle (q ∷ []) (inl refl)),
              other_place ∙ some-injective b a (sym second ∙ two),
              other_depth,
            )
          ];
    }
