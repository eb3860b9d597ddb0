-- The laws of branches, of the slices and ways that the code looks at.
use Rattle.std.proofs.Common.{◌≡◌, inl, inr, ℕ, zero, suc, ◌+◌, ◌*◌, ◌<◌, ◌≤◌, Bool, eqb, false, true≢false, List, [], ◌∷◌, ◌++◌, append-nil, length, take, drop, map, get_or, Some, slice_get, refl, sym, ap, subst, ◌∙◌, arith}
use Rattle.std.specs.Global.{Box}
use Rattle.address.specs.declared.Entry.{Entry}
use Rattle.syntax.specs.Lists.{In}
use Rattle.dependence.specs.LastEvents.{PutAt, Orderly}
use Rattle.dependence.specs.declared.branch.Seat.{Seat}
use Rattle.dependence.specs.declared.branch.Seat.TheVariants.{Event, Inner}
use Rattle.dependence.specs.internal.Depths.{entries-append, entries-inner}
use Rattle.dependence.specs.internal.Search.{Splits}
use Rattle.dependence.specs.internal.Seats.{Places, way_of, rest_of, ordered_of, AllOrdered, EndsAtBranch, IsWay, behind_way, seat_way, seat_places, flat, HasSeat, IsSound, IsBranch, IsMadeOf}
use Rattle.dependence.specs.internal.Sizes.{entries_of}
use Rattle.dependence.specs.internal.Walks.{Related, AddedLast, AddedInner, AddedFrom, IsGroup, IsNearer}
use Rattle.dependence.proofs.LastLaws.{absent-inner, branch-taken, each-next, near-group, from-lesser, from-seat}
use Rattle.dependence.proofs.ListLaws.{whole, get-at}
use Rattle.dependence.proofs.SearchLaws.{length-places, in-at, some-is, none-some}
use Rattle.dependence.proofs.SeatLaws.{Stands, stands-at, has-within, more-branch, more-put, split-low, split-high}
use Rattle.dependence.proofs.WayLaws.{way-twice, event-way, way-and-rest, ordered-of-way}

-- ---- ways
pub is-way : (v p a : List Entry) → v ≡ p → p ≡ way_of a → IsWay v
is-way v p a front way = subst IsWay (sym (front ∙ way)) (way-twice a)

pub begins-ordered : (v p a : List Entry) → v ≡ p → p ≡ way_of a → ordered_of v ≡ ordered_of a
begins-ordered v p a front way = ap ordered_of (front ∙ way) ∙ ordered-of-way a

one-long : {X : Type 0} (x : X) → 0 < length (x ∷ [])
one-long x = omega arith

-- ---- one event
pub event-made : (a v p held : List Entry) (n : ℕ) → held ≡ v → v ≡ p → p ≡ way_of a → AllOrdered v → IsMadeOf a n (Event held n)
event-made a v p held n same front way ordered =
    let is : held ≡ way_of a = same ∙ (front ∙ way) in
    record {
      sound = subst AllOrdered (sym same) ordered;
      way = is;
      places = ap (λ (w : List Entry). (w, n) ∷ []) (is ∙ event-way a (subst AllOrdered (front ∙ way) ordered));
    }

pub inner-made : (a v p held r q : List Entry) (n : ℕ) (box : Box Places) → held ≡ v → v ≡ p → p ≡ way_of a → r ≡ q → q ≡ rest_of a → EndsAtBranch v →
    box.value ≡ (r, n) ∷ [] → IsMadeOf a n (Inner held box)
inner-made a v p held r q n box same front way back rest ends value =
    let is : held ≡ way_of a = same ∙ (front ∙ way) in
    record {
      sound = (subst EndsAtBranch (sym same) ends, subst (λ (es : Places). 0 < length es) (sym value) (one-long {X = List Entry × ℕ} (r, n)));
      way = is;
      places =
          ap (λ (es : Places). behind_way held es) value
          ∙ ap (λ (w : List Entry). (w, n) ∷ [])
          (ap (λ (w : List Entry). w ++ r) is ∙ (ap (λ (x : List Entry). way_of a ++ x) (back ∙ rest) ∙ way-and-rest a));
    }

pub one-branch : (ss : List Seat) (s : Seat) (a : List Entry) (n : ℕ) → ss ≡ s ∷ [] → IsMadeOf a n s → IsBranch ss
one-branch ss s a n is made = subst IsBranch (sym is) (record { rising = ((λ b i. absurd i), tt); sound = (made.sound, tt) })

pub one-flat : (ss : List Seat) (s : Seat) (a : List Entry) (n : ℕ) → ss ≡ s ∷ [] → IsMadeOf a n s → flat ss ≡ (a, n) ∷ []
one-flat ss s a n is made = ap flat is ∙ (append-nil (seat_places s) ∙ made.places)

-- ---- one more among others
pub split-within : (ss xs : List Seat) (w : List Entry) (i : ℕ) → xs ≡ ss → Splits (map seat_way xs) w i → i ≤ length ss
split-within ss xs w i same split =
    let within : i ≤ length (map seat_way xs) = split.within in
    subst (λ (ys : List Seat). i ≤ length ys) same (subst (λ (k : ℕ). i ≤ k) (length-places seat_way xs) within)

module _ (ss xs ys after : List Seat) (w p a : List Entry) (i : ℕ) (s : Seat) (n : ℕ) (h : IsBranch ss) (one : xs ≡ ss) (two : ys ≡ ss) (front : w ≡ p) (way : p ≡ way_of a)
    (split : Splits (map seat_way xs) w i) (none : HasSeat ys i w → ⊥) (made : IsMadeOf a n s) (is : after ≡ take i ss ++ s ∷ drop i ss) where
  parts : IsBranch (take i ss ++ drop i ss)
  parts = subst IsBranch (sym (whole i ss)) h

  splits : Splits (map seat_way ss) (way_of a) i
  splits = subst (λ (q : List Entry). Splits (map seat_way ss) q i) (front ∙ way) (subst (λ (zs : List Seat). Splits (map seat_way zs) w i) one split)

  absent : HasSeat ss i (way_of a) → ⊥
  absent there = none (subst (λ (q : List Entry). HasSeat ys i q) (sym (front ∙ way)) (subst (λ (zs : List Seat). HasSeat zs i (way_of a)) (sym two) there))

  pub inserted-branch : IsBranch after
  inserted-branch =
      subst IsBranch (sym is)
      (more-branch (take i ss) (drop i ss) s a n parts made (split-low ss (way_of a) i splits) (split-high ss (way_of a) i h splits absent))

  pub inserted-put : PutAt (flat ss) a n (flat after)
  inserted-put =
      subst (λ (zs : List Seat). PutAt (flat ss) a n (flat zs)) (sym is)
      (subst (λ (zs : List Seat). PutAt (flat zs) a n (flat (take i ss ++ s ∷ drop i ss))) (whole i ss)
      (more-put (take i ss) (drop i ss) s a n parts made (split-low ss (way_of a) i splits) (split-high ss (way_of a) i h splits absent)))

pub in-front : {X : Type 0} (n : ℕ) (xs : List X) (x : X) → In x (take n xs) → In x xs
in-front zero xs x i = absurd i
in-front (suc n) [] x i = absurd i
in-front (suc n) (y ∷ xs) x i = elim i [ inl is ↦ inl is | inr later ↦ inr (in-front n xs x later) ]

-- ---- walks
get-dropped : (ss : List Seat) (i : ℕ) (d e : Seat) → i < length ss → get_or (drop i ss) 0 d ≡ get_or ss i e
get-dropped [] i d e h = absurd (omega arith)
get-dropped (x ∷ ss) zero d e h = refl
get-dropped (x ∷ ss) (suc i) d e h = let less : i < length ss = omega arith in get-dropped ss i d e less

-- the seat of the way is the first of those that are cut off
pub stands-behind : (ss xs behind : List Seat) (i : ℕ) (w p a : List Entry) (d : Seat) → xs ≡ ss → w ≡ p → p ≡ way_of a → HasSeat xs i w → behind ≡ drop i ss →
    Stands ss i (get_or behind 0 d) a
stands-behind ss xs behind i w p a d same front way there back =
    let within : i < length ss = subst (λ (ys : List Seat). i < length ys) same (has-within xs i w there) in
    stands-at ss xs i w p a (get_or behind 0 d) same front way there
    (ap (λ (ys : List Seat). get_or ys 0 d) back ∙ get-dropped ss i d (get_or behind 0 d) within)

pub absent-inner-as : (ss : List Seat) (w p a : List Entry) (i : ℕ) (old : List ℕ) → IsBranch ss → w ≡ p → p ≡ way_of a → Splits (map seat_way ss) w i → (HasSeat ss i w → ⊥) →
    AddedInner (flat ss) a false old old
absent-inner-as ss w p a i old h front way split none =
    absent-inner ss a i old h (subst (λ (q : List Entry). Splits (map seat_way ss) q i) (front ∙ way) split)
    (λ there. none (subst (λ (q : List Entry). HasSeat ss i q) (sym (front ∙ way)) there))

-- one walk
module _ (ss xs : List Seat) (w p a : List Entry) (i : ℕ) (before nearest nearer : List Seat) (h : IsBranch ss) (one : xs ≡ ss) (front : w ≡ p) (way : p ≡ way_of a)
    (split : Splits (map seat_way xs) w i) (is : before ≡ take i ss) (near : IsNearer before (ordered_of w) nearest nearer) where
  split-here : Splits (map seat_way ss) w i
  split-here = subst (λ (ys : List Seat). Splits (map seat_way ys) w i) one split

  split-way : Splits (map seat_way ss) (way_of a) i
  split-way = subst (λ (q : List Entry). Splits (map seat_way ss) q i) (front ∙ way) split-here

  near-way : IsNearer before (ordered_of a) nearest nearer
  near-way = subst (λ (q : List Entry). IsNearer before q nearest nearer) (begins-ordered w p a front way) near

  pub group-near : IsGroup nearest → Related (flat ss) → IsGroup nearer
  group-near group related = near-group ss a i before nearest nearer h split-way is near-way group related

  pub found-seat : (s : Seat) (v : List Entry) (old new : List ℕ) → Orderly (flat ss) a → Stands ss i s a → IsSound s → v ≡ a → AddedFrom (flat nearer) (seat_places s) v old new →
      AddedFrom (flat nearest) (flat ss) a old new
  found-seat s v old new orderly st sound place added = from-seat ss a i before nearest nearer h split-way is near-way s v old new orderly st sound place added

  pub found-none : (ys : List Seat) (old new : List ℕ) → ys ≡ ss → (HasSeat ys i w → ⊥) → Orderly (flat ss) a → AddedLast (flat nearer) old new →
      AddedFrom (flat nearest) (flat ss) a old new
  found-none ys old new two none orderly last =
      from-lesser ss a i before nearest nearer h split-way is near-way old new orderly
      (absent-inner-as ss w p a i old h front way split-here (λ there. none (subst (λ (zs : List Seat). HasSeat zs i w) (sym two) there))) last

pub item-in : (ss : List Seat) (i : ℕ) (s : Seat) → i < length ss → s ≡ get_or ss i s → In s ss
item-in ss i s less is = in-at ss i s (get-at ss i s less ∙ ap Some (sym is))

take-more : (ss : List Seat) (i : ℕ) (s : Seat) → slice_get ss i ≡ Some s → take (suc i) ss ≡ take i ss ++ s ∷ []
take-more [] zero s at = absurd (none-some s at)
take-more [] (suc i) s at = absurd (none-some s at)
take-more (x ∷ ss) zero s at = ap (λ (y : Seat). y ∷ []) (some-is x s at)
take-more (x ∷ ss) (suc i) s at = ap (λ (xs : List Seat). x ∷ xs) (take-more ss i s at)

pub each-more : (ss : List Seat) (i e : ℕ) (s : Seat) (old mid new : List ℕ) → IsBranch ss → i < length ss → s ≡ get_or ss i s → e ≡ suc i →
    AddedLast (flat (take i ss)) old mid → AddedLast (seat_places s) mid new → AddedLast (flat (take e ss)) old new
each-more ss i e s old mid new h less is next first added =
    let more : take (suc i) ss ≡ take i ss ++ s ∷ [] = take-more ss i s (get-at ss i s less ∙ ap Some (sym is)) in
    subst (λ (k : ℕ). AddedLast (flat (take k ss)) old new) (sym next)
    (subst (λ (xs : List Seat). AddedLast (flat xs) old new) (sym more)
    (each-next (take i ss) s old mid new (subst IsBranch more (branch-taken ss (suc i) h)) first added))

take-whole : (ss : List Seat) (i : ℕ) → length ss ≤ i → take i ss ≡ ss
take-whole [] zero h = refl
take-whole [] (suc i) h = refl
take-whole (x ∷ ss) zero h = absurd (omega arith)
take-whole (x ∷ ss) (suc i) h = let rest : length ss ≤ i = omega arith in ap (λ (xs : List Seat). x ∷ xs) (take-whole ss i rest)

pub each-all : (ss : List Seat) (i : ℕ) (old new : List ℕ) → length ss ≤ i → AddedLast (flat (take i ss)) old new → AddedLast (flat ss) old new
each-all ss i old new past added = subst (λ (xs : List Seat). AddedLast (flat xs) old new) (take-whole ss i past) added

-- ---- how much stands where
pub entries-dropped : (ss : List Seat) (n : ℕ) → entries_of (flat (drop n ss)) ≤ entries_of (flat ss)
entries-dropped ss zero = omega arith
entries-dropped [] (suc n) = omega arith
entries-dropped (s ∷ ss) (suc n) = omega (arith, entries-dropped ss n, entries-append (seat_places s) (flat ss))

pub entries-item : (ss : List Seat) (s : Seat) → In s ss → entries_of (seat_places s) ≤ entries_of (flat ss)
entries-item [] s i = absurd i
entries-item (x ∷ ss) s i = elim i [
  | inl is ↦ subst (λ (y : Seat). entries_of (seat_places y) ≤ entries_of (flat (x ∷ ss))) (sym is) (omega (arith, entries-append (seat_places x) (flat ss)))
  | inr later ↦ let rest = entries-item ss s later in omega (arith, rest, entries-append (seat_places x) (flat ss))
]

pub entries-fall : (s : Seat) (w : List Entry) (inner : Box Places) → s ≡ Inner w inner → IsSound s → 4 * entries_of inner.value + 3 < 4 * entries_of (seat_places s)
entries-fall s w inner is sound =
    let ends : EndsAtBranch w × (0 < length inner.value) = subst IsSound is sound in
    let less : entries_of inner.value < entries_of (behind_way w inner.value) = entries-inner w inner.value ends.0 ends.1 in
    subst (λ (x : Seat). 4 * entries_of inner.value + 3 < 4 * entries_of (seat_places x)) (sym is) (omega (arith, less))

-- ---- none, and some
pub nil-of : (ss : List Seat) → length ss ≡ 0 → ss ≡ []
nil-of [] h = refl
nil-of (s ∷ ss) h = absurd (omega arith)

pub some-of : (ss : List Seat) (b : Bool) → b ≡ eqb (length ss) 0 → b ≡ false → 0 < length ss
some-of [] b test fails = absurd (true≢false (sym test ∙ fails))
some-of (s ∷ ss) b test fails = omega arith
