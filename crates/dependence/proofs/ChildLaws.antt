-- The place of a first child comes right behind the place.
use Rattle.std.proofs.Common.{◌≡◌, ◌⊎◌, inl, inr, ℕ, suc, ◌<◌, List, [], ◌∷◌, ◌++◌, length, take, drop, map, get_or, Some, None, refl, sym, ap, subst, ◌∙◌, arith, Ordering, Less, Equal, Greater}
use Rattle.std.specs.Global.{Box}
use Rattle.std.specs.Ordering.{nat_cmp, ordering_then}
use Rattle.address.specs.declared.Entry.{Entry}
use Rattle.address.specs.declared.Entry.TheVariants.{Ordered, Branch}
use Rattle.address.specs.Order.{entry_order, order_of}
use Rattle.address.specs.internal.OrderLaws.{less-not-equal, greater-not-less, greater-not-equal}
use Rattle.address.proofs.public.Total.{order-itself, order-ties, order-transitive}
use Rattle.syntax.specs.Lists.{In}
use Rattle.dependence.specs.LastEvents.{ticket_at, first_child}
use Rattle.dependence.specs.declared.branch.Seat.{Seat}
use Rattle.dependence.specs.declared.branch.Seat.TheVariants.{Event, Inner}
use Rattle.dependence.specs.internal.Search.{Splits}
use Rattle.dependence.specs.internal.Seats.{Places, way_of, AllOrdered, EndsAtBranch, seat_way, seat_places, flat, HasSeat, IsSound, IsBranch}
use Rattle.dependence.proofs.ForkLaws.{number-less}
use Rattle.dependence.proofs.LastLaws.{look-middle}
use Rattle.dependence.proofs.ListLaws.{every-in, map-in-drop, at-within, get-at, split-at}
use Rattle.dependence.proofs.SearchLaws.{rising-after, in-take-more, in-at}
use Rattle.dependence.proofs.SeatLaws.{less-differs, look-here, split-high, absent-removed, has-is}
use Rattle.dependence.proofs.WayLaws.{ordered-way, longer-way, not-both}

less-both-ways : (a b : List Entry) → order_of a b ≡ Less → order_of b a ≡ Less → ⊥
less-both-ways a b h k = less-differs a a (order-transitive a b a h k) refl

-- ---- nothing stands between a place and its first child
first-tied : (o p : Ordering) → ordering_then o p ≡ Equal → o ≡ Equal
first-tied Less p h = absurd (less-not-equal h)
first-tied Equal p h = refl
first-tied Greater p h = absurd (greater-not-equal h)

less-first : (o p : Ordering) → ordering_then o p ≡ Less → (o ≡ Less) ⊎ ((o ≡ Equal) × (p ≡ Less))
less-first Less p h = inl refl
less-first Equal p h = inr (refl, h)
less-first Greater p h = absurd (greater-not-less h)

alone-less : (x y : Entry) → entry_order x y ≡ Less → order_of (x ∷ []) (y ∷ []) ≡ Less
alone-less x y h = ap (λ (o : Ordering). ordering_then o Equal) h

alone-tied : (x y : Entry) → entry_order x y ≡ Equal → x ∷ [] ≡ y ∷ []
alone-tied x y h = order-ties (x ∷ []) (y ∷ []) (ap (λ (o : Ordering). ordering_then o Equal) h)

pub child-over : (p : List Entry) → order_of p (first_child p) ≡ Less
child-over [] = refl
child-over (x ∷ p) =
    ap (λ (o : Ordering). ordering_then o (order_of p (first_child p))) (first-tied (entry_order x x) Equal (order-itself (x ∷ [])))
    ∙ child-over p

not-under-none : (b : List Entry) → order_of b [] ≡ Less → ⊥
not-under-none [] h = less-not-equal (sym h)
not-under-none (y ∷ b) h = greater-not-less h

pub none-between : (p b : List Entry) → order_of p b ≡ Less → order_of b (first_child p) ≡ Less → ⊥
none-between [] [] low high = less-not-equal (sym low)
none-between [] (Ordered j ∷ b) low high = elim (less-first (nat_cmp j 0) (order_of b []) high) [
  | inl less ↦ let under : j < 0 = number-less j 0 less in absurd (omega arith)
  | inr tied ↦ not-under-none b tied.1
]
none-between [] (Branch j ∷ b) low high = greater-not-less high
none-between (x ∷ p) [] low high = greater-not-less low
none-between (x ∷ p) (y ∷ b) low high = elim (less-first (entry_order x y) (order_of p b) low) [
  | inl less ↦ elim (less-first (entry_order y x) (order_of b (first_child p)) high) [
    | inl more ↦ less-both-ways (x ∷ []) (y ∷ []) (alone-less x y less) (alone-less y x more)
    | inr tied ↦ less-differs (x ∷ []) (y ∷ []) (alone-less x y less) (sym (alone-tied y x tied.0))
  ]
  | inr tied ↦ elim (less-first (entry_order y x) (order_of b (first_child p)) high) [
    | inl more ↦ less-differs (y ∷ []) (x ∷ []) (alone-less y x more) (sym (alone-tied x y tied.0))
    | inr both ↦ none-between p b tied.1 both.1
  ]
]

-- ---- what stands at the first child of a place without branch numbers
pub child-ordered : (p : List Entry) → AllOrdered p → AllOrdered (first_child p)
child-ordered [] h = tt
child-ordered (Ordered i ∷ p) h = child-ordered p h
child-ordered (Branch i ∷ p) h = absurd h

pub child-way : (p : List Entry) → AllOrdered p → way_of (first_child p) ≡ first_child p
child-way p h = ordered-way (first_child p) (child-ordered p h)

module _ (ss : List Seat) (p : List Entry) (i : ℕ) (h : IsBranch ss) (split : Splits (map seat_way ss) p i) where
  under : (w : List Entry) → In w (take i (map seat_way ss)) → order_of w (first_child p) ≡ Less
  under w at = order-transitive w p (first_child p) (split.below w at) (child-over p)

  pub child-past : (n : ℕ) → n ≡ suc i → HasSeat ss i p → Splits (map seat_way ss) (first_child p) n
  child-past n is has =
      let within : i < length (map seat_way ss) = at-within (map seat_way ss) i p has in
      subst (λ (k : ℕ). Splits (map seat_way ss) (first_child p) k) (sym is)
      (record {
        within = omega arith;
        below = λ w at. elim (in-take-more (map seat_way ss) i p w has at) [
          | inl low ↦ under w low
          | inr same ↦ subst (λ (v : List Entry). order_of v (first_child p) ≡ Less) (sym same) (child-over p)
        ];
        above = λ w at low. none-between p w (rising-after (map seat_way ss) i p w h.rising has at) low;
      })

  pub child-here : (HasSeat ss i p → ⊥) → Splits (map seat_way ss) (first_child p) i
  child-here none = record {
    within = split.within;
    below = under;
    above = λ w at low.
        let t = map-in-drop seat_way w i ss at in
        none-between p w (subst (λ (v : List Entry). order_of p v ≡ Less) (sym t.2) (split-high ss p i h split none t.0 t.1)) low;
  }

module _ (ss : List Seat) (p : List Entry) (n : ℕ) (h : IsBranch ss) (ordered : AllOrdered p) where
  pub child-none : Splits (map seat_way ss) (first_child p) n → (HasSeat ss n (first_child p) → ⊥) → None ≡ ticket_at (flat ss) (first_child p)
  child-none split none =
      let way = child-way p ordered in
      sym (absent-removed ss (first_child p) n h (subst (λ (w : List Entry). Splits (map seat_way ss) w n) (sym way) split)
      (λ has. none (subst (λ (w : List Entry). HasSeat ss n w) way has))).here

  pub child-some : (s : Seat) (w : List Entry) (t : ℕ) → n < length ss → s ≡ get_or ss n s → s ≡ Event w t → w ≡ first_child p → Some t ≡ ticket_at (flat ss) (first_child p)
  child-some s w t less read is same =
      let parts : ss ≡ take n ss ++ s ∷ drop (suc n) ss = split-at ss n s (get-at ss n s less ∙ ap Some (sym read)) in
      let way : seat_way s ≡ way_of (first_child p) = ap seat_way is ∙ (same ∙ sym (child-way p ordered)) in
      sym
      (ap (λ (xs : List Seat). ticket_at (flat xs) (first_child p)) parts
      ∙ (look-middle (take n ss) (drop (suc n) ss) s (first_child p) (subst IsBranch parts h) way
      ∙ (ap (λ (x : Seat). ticket_at (seat_places x) (first_child p)) is
      ∙ subst (λ (v : List Entry). ticket_at ((w, t) ∷ []) v ≡ Some t) same (look-here w t))))

  -- a branch does not stand there
  pub inner-not-child : (s : Seat) (w : List Entry) (inner : Box Places) → n < length ss → s ≡ get_or ss n s → s ≡ Inner w inner → HasSeat ss n (first_child p) → ⊥
  inner-not-child s w inner less read is has =
      let sound : IsSound s = every-in IsSound ss s h.sound (in-at ss n s (get-at ss n s less ∙ ap Some (sym read))) in
      let way : w ≡ first_child p = ap seat_way (sym is) ∙ has-is ss n s (first_child p) less read has in
      not-both w (subst AllOrdered (sym way) (child-ordered p ordered)) (subst IsSound is sound).0

-- ---- in the branch that the place goes into
pub child-absent : (ss : List Seat) (a : List Entry) (i : ℕ) → IsBranch ss → EndsAtBranch (way_of a) → Splits (map seat_way ss) (way_of a) i → (HasSeat ss i (way_of a) → ⊥) →
    None ≡ ticket_at (flat ss) (first_child a)
child-absent ss a i h ends split none =
    let way = longer-way a (Ordered 0) ends in
    sym (absent-removed ss (first_child a) i h (subst (λ (w : List Entry). Splits (map seat_way ss) w i) (sym way) split)
    (λ has. none (subst (λ (w : List Entry). HasSeat ss i w) way has))).here
