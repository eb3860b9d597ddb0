-- What stands before the parallel at the end of a branch, and the branches of that parallel by their numbers.
use Rattle.std.proofs.Common.{◌≡◌, ◌⊎◌, inl, inr, ℕ, zero, suc, ◌-◌, ◌<◌, ◌≤◌, true, not, List, [], ◌∷◌, ◌++◌, length, take, drop, map, set, Some, slice_get, refl, sym, ap, subst, ◌∙◌, arith, Less}
use Rattle.std.specs.Ordering.{is_lt}
use Rattle.std.proofs.lemmas.Bool.{cases_lt}
use Rattle.address.specs.declared.Entry.{Entry}
use Rattle.address.specs.declared.Entry.TheVariants.{Ordered, Branch}
use Rattle.address.specs.Places.{Before, Apart}
use Rattle.address.specs.Order.{order_of}
use Rattle.address.proofs.public.Places.{before-end}
use Rattle.syntax.specs.Lists.{In}
use Rattle.dependence.specs.LastEvents.{Orderly}
use Rattle.dependence.specs.declared.branch.Seat.{Seat}
use Rattle.dependence.specs.declared.branch.Seat.TheVariants.{Event}
use Rattle.dependence.specs.internal.Search.{AllLess, Splits}
use Rattle.dependence.specs.internal.Seats.{way_of, ordered_of, number_of, AllOrdered, EndsAtBranch, IsWay, seat_way, flat, HasSeat, IsSound, IsBranch}
use Rattle.dependence.specs.internal.Walks.{AllBeside, IsGroupBegin, IsSorted}
use Rattle.dependence.proofs.CodeLaws.{begins-ordered, in-front}
use Rattle.dependence.proofs.ForkLaws.{less-first, less-rest, less-number}
use Rattle.dependence.proofs.LastLaws.{less-ordered, not-under-ordered, seat-at-way, seat-has, seat-in-there}
use Rattle.dependence.proofs.ListLaws.{at-map, at-within, every-in, in-either, map-in, map-in-drop, map-take, set-split, take-again}
use Rattle.dependence.proofs.SearchLaws.{all-less, in-at, in-drop-at, in-take-at, length-places, none-some, some-is, split-all, split-at}
use Rattle.dependence.proofs.SeatLaws.{Stands, has-within, order-behind, same-rising}
use Rattle.dependence.proofs.WayLaws.{all-ordered, branch-parts, not-both, ordered-of-way}

-- ---- two branches of one parallel
same-number : (v w : List Entry) → EndsAtBranch v → EndsAtBranch w → ordered_of v ≡ ordered_of w → number_of v ≡ number_of w → v ≡ w
same-number v w one two begin number =
    branch-parts v one
    ∙ (ap (λ (o : List Entry). o ++ Branch (number_of v) ∷ []) begin
    ∙ (ap (λ (n : ℕ). ordered_of w ++ Branch n ∷ []) number ∙ sym (branch-parts w two)))

less-by-number : (v w : List Entry) → EndsAtBranch v → EndsAtBranch w → ordered_of v ≡ ordered_of w → number_of v < number_of w → order_of v w ≡ Less
less-by-number v w one two begin less =
    subst (λ (x : List Entry). order_of x w ≡ Less) (sym (branch-parts v one ∙ ap (λ (o : List Entry). o ++ Branch (number_of v) ∷ []) begin))
    (subst (λ (x : List Entry). order_of (ordered_of w ++ Branch (number_of v) ∷ []) x ≡ Less) (sym (branch-parts w two))
    (order-behind (ordered_of w) (Branch (number_of v) ∷ []) (Branch (number_of w) ∷ [])
    ∙ less-first (Branch (number_of v)) (Branch (number_of w)) [] [] (less-number (number_of v) (number_of w) less)))

-- ---- how a place before another or apart from it stands to its branch
abbrev Beside : List Entry → List Entry → Type 0
Beside b a = (order_of (way_of b) (ordered_of a) ≡ Less) ⊎ ((ordered_of b ≡ ordered_of a) × EndsAtBranch (way_of b) × EndsAtBranch (way_of a))

beside-more : (i j : ℕ) (b a : List Entry) → i ≡ j → Beside b a → Beside (Ordered i ∷ b) (Ordered j ∷ a)
beside-more i j b a is h = elim h [
  | inl less ↦ inl (less-rest (Ordered i) (Ordered j) (way_of b) (ordered_of a) (ap Ordered is) less)
  | inr same ↦ inr (
    ap (λ (k : ℕ). Ordered k ∷ ordered_of b) is ∙ ap (λ (o : List Entry). Ordered j ∷ o) same.0,
    same.1,
    same.2,
  )
]

beside-before : (b a : List Entry) → Before b a → Beside b a
beside-before [] a h = absurd h
beside-before (x ∷ b) [] h = absurd (before-end (x ∷ b) h)
beside-before (Ordered i ∷ b) (Ordered j ∷ a) h = elim h [
  | inl less ↦ inl (less-first (Ordered i) (Ordered j) (way_of b) (ordered_of a) (less-number i j less))
  | inr same ↦ beside-more i j b a same.0 (beside-before b a same.1)
]
beside-before (Branch i ∷ b) (Branch j ∷ a) h = inr (refl, refl, refl)
beside-before (Ordered i ∷ b) (Branch j ∷ a) h = absurd h
beside-before (Branch i ∷ b) (Ordered j ∷ a) h = absurd h

beside-apart : (b a : List Entry) → Apart b a → Beside b a
beside-apart [] a h = absurd h
beside-apart (Ordered i ∷ b) [] h = absurd h
beside-apart (Branch i ∷ b) [] h = absurd h
beside-apart (Ordered i ∷ b) (Ordered j ∷ a) h = beside-more i j b a h.0 (beside-apart b a h.1)
beside-apart (Branch i ∷ b) (Branch j ∷ a) h = inr (refl, refl, refl)
beside-apart (Ordered i ∷ b) (Branch j ∷ a) h = absurd h
beside-apart (Branch i ∷ b) (Ordered j ∷ a) h = absurd h

stands-beside : (b a : List Entry) → Before b a ⊎ Apart b a → Beside b a
stands-beside b a h = elim h [ inl low ↦ beside-before b a low | inr apart ↦ beside-apart b a apart ]

-- ---- all seats
module _ (ss : List Seat) (a : List Entry) (h : IsBranch ss) (orderly : Orderly (flat ss) a) where
  seat-beside : (s : Seat) → In s ss →
      (order_of (seat_way s) (ordered_of a) ≡ Less) ⊎ ((ordered_of (seat_way s) ≡ ordered_of a) × EndsAtBranch (seat_way s) × EndsAtBranch (way_of a))
  seat-beside s i =
      let sound = every-in IsSound ss s h.sound i in
      let has = seat-has s sound in
      let way : way_of has.0 ≡ seat_way s = seat-at-way s has.0 has.1 sound has.2 in
      elim (stands-beside has.0 a (orderly.outside has.0 has.1 (seat-in-there ss s has.0 has.1 h i has.2))) [
        | inl less ↦ inl (subst (λ (w : List Entry). order_of w (ordered_of a) ≡ Less) way less)
        | inr same ↦ inr (
          ap ordered_of (sym way) ∙ (ordered-of-way has.0 ∙ same.0),
          subst EndsAtBranch way same.1,
          same.2,
        )
      ]

  pub all-beside : (v p : List Entry) → v ≡ p → p ≡ way_of a → AllBeside ss (ordered_of v)
  all-beside v p front way = λ s i.
      subst (λ (o : List Entry). (order_of (seat_way s) o ≡ Less) ⊎ ((ordered_of (seat_way s) ≡ o) × EndsAtBranch (seat_way s)))
      (sym (begins-ordered v p a front way))
      (elim (seat-beside s i) [ inl less ↦ inl less | inr same ↦ inr (same.0, same.1) ])

  pub event-last : (v p : List Entry) → v ≡ p → p ≡ way_of a → AllOrdered v → AllLess (map seat_way ss) (length ss) v
  event-last v p front way ordered = λ c i.
      let s = map-in seat_way c ss (in-front (length ss) (map seat_way ss) c i) in
      subst (λ (x : List Entry). order_of x v ≡ Less) (sym s.2)
      (elim (seat-beside s.0 s.1) [
        | inl less ↦ subst (λ (o : List Entry). order_of (seat_way s.0) o ≡ Less) (sym (begins-ordered v p a front way) ∙ all-ordered v ordered) less
        | inr same ↦ absurd (not-both v ordered (subst EndsAtBranch (sym (front ∙ way)) same.2))
      ])

-- ---- a seat by its index
pub at-some : (ss : List Seat) (i : ℕ) → i < length ss → (s : Seat) × (slice_get ss i ≡ Some s)
at-some [] i h = absurd (omega arith)
at-some (x ∷ ss) zero h = (x, refl)
at-some (x ∷ ss) (suc i) h = let less : i < length ss = omega arith in at-some ss i less

-- so many are less than the bound, where the last of them is
pub all-under : (ss : List Seat) (p : List Entry) (n m : ℕ) (s : Seat) → IsBranch ss → slice_get ss m ≡ Some s → n ≡ suc m → order_of (seat_way s) p ≡ Less →
    AllLess (map seat_way ss) n p
all-under ss p n m s h at some less =
    all-less (map seat_way ss) p (seat_way s) n m true h.rising (at-map seat_way ss m s at) some (sym (ap is_lt less)) refl

-- what is less than the ordered entries of a way is less than the way
pub all-less-way : (ps : List (List Entry)) (w : List Entry) (n : ℕ) → IsWay w → Splits ps (ordered_of w) n → AllLess ps n w
all-less-way ps w n is split = λ c i. subst (λ (v : List Entry). order_of c v ≡ Less) is (less-ordered c w (split.below c i))

-- a branch of the parallel
module _ (ss : List Seat) (w : List Entry) (n m : ℕ) (s : Seat) (beside : AllBeside ss (ordered_of w)) (split : Splits (map seat_way ss) (ordered_of w) n) (from : n ≤ m)
    (at : slice_get ss m ≡ Some s) (ends : EndsAtBranch w) where
  in-group : (ordered_of (seat_way s) ≡ ordered_of w) × EndsAtBranch (seat_way s)
  in-group = elim (beside s (in-at ss m s at)) [
    | inl less ↦ absurd (split.above (seat_way s) (in-drop-at n m (map seat_way ss) (seat_way s) from (at-map seat_way ss m s at)) less)
    | inr same ↦ same
  ]

  pub same-branch : number_of (seat_way s) ≡ number_of w → HasSeat ss m w
  same-branch number = at-map seat_way ss m s at ∙ ap Some (same-number (seat_way s) w in-group.1 ends in-group.0 number)

  pub lesser-branch : number_of (seat_way s) < number_of w → order_of (seat_way s) w ≡ Less
  lesser-branch less = less-by-number (seat_way s) w in-group.1 ends in-group.0 less

-- ---- in front of a seat
at-place : (ps : List (List Entry)) (i : ℕ) → i < length ps → (a : List Entry) × (slice_get ps i ≡ Some a)
at-place [] i h = absurd (omega arith)
at-place (x ∷ ps) zero h = (x, refl)
at-place (x ∷ ps) (suc i) h = let less : i < length ps = omega arith in at-place ps i less

-- what is less than a lesser bound is no more
fewer-less : (ps : List (List Entry)) (p w : List Entry) (n i : ℕ) → Splits ps w i → AllLess ps n w → n ≤ length ps → n ≤ i
fewer-less ps p w n i split under within = elim (cases_lt i n) [
  | inl more ↦
      let inside : i < length ps = omega (arith, more, within) in
      let a = at-place ps i inside in
      absurd (split.above a.0 (in-drop-at i i ps a.0 (omega arith) a.1) (under a.0 (in-take-at n i ps a.0 more a.1)))
  | inr not ↦ omega arith
]

pub fewer-lesser : (ps : List (List Entry)) (w : List Entry) (n i : ℕ) → IsWay w → Splits ps (ordered_of w) n → Splits ps w i → n ≤ i
fewer-lesser ps w n i is lesser split = fewer-less ps (ordered_of w) w n i split (all-less-way ps w n is lesser) lesser.within

take-long : {X : Type 0} (xs : List X) (i : ℕ) → i ≤ length xs → length (take i xs) ≡ i
take-long [] zero h = refl
take-long [] (suc i) h = absurd (omega arith)
take-long (x ∷ xs) zero h = refl
take-long (x ∷ xs) (suc i) h = let less : i ≤ length xs = omega arith in ap suc (take-long xs i less)

drop-taken : {X : Type 0} (n i : ℕ) (xs : List X) (x : X) → In x (drop n (take i xs)) → In x (drop n xs)
drop-taken zero i xs x h = in-front i xs x h
drop-taken (suc n) zero [] x h = absurd h
drop-taken (suc n) zero (y ∷ xs) x h = absurd h
drop-taken (suc n) (suc i) [] x h = absurd h
drop-taken (suc n) (suc i) (y ∷ xs) x h = drop-taken n i xs x h

split-taken : (ps : List (List Entry)) (p : List Entry) (n i : ℕ) → n ≤ i → i ≤ length ps → Splits ps p n → Splits (take i ps) p n
split-taken ps p n i less within split =
    let long = take-long ps i within in
    let fits : n ≤ length (take i ps) = omega (arith, long, less) in
    record {
      within = fits;
      below = λ a at. split.below a (subst (λ (qs : List (List Entry)). In a qs) (take-again ps n i fits) at);
      above = λ a at. split.above a (drop-taken n i ps a at);
    }

-- of those in front of a way as many stand before its parallel as of all
pub lesser-before : (ss xs before : List Seat) (w : List Entry) (n i : ℕ) → xs ≡ ss → before ≡ take i ss → IsWay w → Splits (map seat_way xs) (ordered_of w) n →
    Splits (map seat_way xs) w i → Splits (map seat_way before) (ordered_of w) n
lesser-before ss xs before w n i one two is lesser split =
    let ways : map seat_way before ≡ take i (map seat_way xs) = ap (map seat_way) two ∙ (map-take seat_way i ss ∙ ap (λ (ys : List Seat). take i (map seat_way ys)) (sym one)) in
    subst (λ (ps : List (List Entry)). Splits ps (ordered_of w) n) (sym ways)
    (split-taken (map seat_way xs) (ordered_of w) n i
    (fewer-lesser (map seat_way xs) w n i is lesser split) split.within lesser)

-- ---- where what a branch ends with begins
no-way : (ws : List (List Entry)) → length ws ≡ 0 → IsGroupBegin ws 0
no-way [] none = λ w at. absurd (none-some w at)
no-way (x ∷ ws) none = absurd (omega arith)

pub begin-none : (ss : List Seat) → length ss ≡ 0 → IsGroupBegin (map seat_way ss) 0
begin-none ss none = no-way (map seat_way ss) (length-places seat_way ss ∙ none)

pub sorted-none : IsSorted [] 0
sorted-none = record { branch = record { rising = tt; sound = tt }; begins = begin-none [] refl }

last-way : (ss : List Seat) (last : Seat) (w : List Entry) → slice_get ss (length ss - 1) ≡ Some last → slice_get (map seat_way ss) (length (map seat_way ss) - 1) ≡ Some w → seat_way last ≡ w
last-way ss last w at there =
    some-is (seat_way last) w
    (sym (at-map seat_way ss (length ss - 1) last at) ∙ subst (λ (k : ℕ). slice_get (map seat_way ss) (k - 1) ≡ Some w) (length-places seat_way ss) there)

pub begin-at : (ss : List Seat) (last : Seat) (n : ℕ) → slice_get ss (length ss - 1) ≡ Some last → Splits (map seat_way ss) (ordered_of (seat_way last)) n →
    IsGroupBegin (map seat_way ss) n
begin-at ss last n at split = λ w there. subst (λ (v : List Entry). Splits (map seat_way ss) (ordered_of v) n) (last-way ss last w at there) split

-- an event is that by itself
pub begin-event : (ss : List Seat) (last : Seat) (v : List Entry) (t : ℕ) → IsBranch ss → slice_get ss (length ss - 1) ≡ Some last → last ≡ Event v t →
    IsGroupBegin (map seat_way ss) (length ss - 1)
begin-event ss last v t h at is =
    let within = at-within ss (length ss - 1) last at in
    let long = length-places seat_way ss in
    let sound : IsSound last = every-in IsSound ss last h.sound (in-at ss (length ss - 1) last at) in
    let same : seat_way last ≡ ordered_of (seat_way last) =
    subst (λ (x : Seat). seat_way x ≡ ordered_of (seat_way x)) (sym is) (sym (all-ordered v (subst IsSound is sound))) in
    begin-at ss last (length ss - 1) at
    (split-at (map seat_way ss) (ordered_of (seat_way last)) (length ss - 1) h.rising (omega (arith, within, long)) (at-map seat_way ss (length ss - 1) last at ∙ ap Some same))

pub sorted-one : (ss : List Seat) (s : Seat) → ss ≡ s ∷ [] → IsBranch ss → IsSorted ss 0
sorted-one ss s is h =
    let at : slice_get ss (length ss - 1) ≡ Some s = subst (λ (xs : List Seat). slice_get xs (length xs - 1) ≡ Some s) (sym is) refl in
    let ways : map seat_way ss ≡ seat_way s ∷ [] = ap (map seat_way) is in
    record {
      branch = h;
      begins = begin-at ss s 0 at
          (record {
            within = omega arith;
            below = λ a i. absurd (subst (λ (ws : List (List Entry)). In a (take 0 ws)) ways i);
            above = λ a i less.
                elim (subst (λ (ws : List (List Entry)). In a (drop 0 ws)) ways i) [
                  | inl same ↦ not-under-ordered (seat_way s) (subst (λ (x : List Entry). order_of x (ordered_of (seat_way s)) ≡ Less) same less)
                  | inr none ↦ absurd none
                ];
          });
    }

-- ---- the same by the last way
pub group-of : (ss : List Seat) (n : ℕ) (own : List Entry) → IsGroupBegin (map seat_way ss) n → HasSeat ss (length ss - 1) own → Splits (map seat_way ss) (ordered_of own) n
group-of ss n own begins at = begins own (subst (λ (k : ℕ). slice_get (map seat_way ss) (k - 1) ≡ Some own) (sym (length-places seat_way ss)) at)

pub group-within : (ss : List Seat) (n : ℕ) (own : List Entry) → Splits (map seat_way ss) (ordered_of own) n → HasSeat ss (length ss - 1) own → n < length ss
group-within ss n own split at = elim (cases_lt n (length ss)) [
  | inl less ↦ less
  | inr not ↦
      let within : length ss - 1 < length ss = has-within ss (length ss - 1) own at in
      let inside : length ss - 1 < n = omega (arith, within, not) in
      absurd (not-under-ordered own (split.below own (in-take-at n (length ss - 1) (map seat_way ss) own inside at)))
]

-- all stand before the way, where the last one is no branch beside it
module _ (ss : List Seat) (last : Seat) (w : List Entry) (h : IsBranch ss) (is : IsWay w) (beside : AllBeside ss (ordered_of w)) (at : slice_get ss (length ss - 1) ≡ Some last)
    (not_in : ordered_of (seat_way last) ≡ ordered_of w → EndsAtBranch (seat_way last) → ⊥) where
  pub all-lesser : Splits (map seat_way ss) (ordered_of w) (length ss)
  all-lesser =
      let within = at-within ss (length ss - 1) last at in
      let less : order_of (seat_way last) (ordered_of w) ≡ Less = elim (beside last (in-at ss (length ss - 1) last at)) [
        | inl low ↦ low
        | inr same ↦ absurd (not_in same.0 same.1)
      ] in
      split-all (map seat_way ss) (ordered_of w) (length ss) (sym (length-places seat_way ss))
      (all-under ss (ordered_of w) (length ss) (length ss - 1) last h at (omega (arith, within)) less)

  pub all-lesser-way : Splits (map seat_way ss) w (length ss)
  all-lesser-way = split-all (map seat_way ss) w (length ss) (sym (length-places seat_way ss)) (all-less-way (map seat_way ss) w (length ss) is all-lesser)

-- where there are none
no-places : (ps : List (List Entry)) (p : List Entry) (n : ℕ) → n ≡ 0 → length ps ≡ 0 → Splits ps p n
no-places [] p zero same none = record { within = omega arith; below = λ a i. absurd i; above = λ a i. absurd i }
no-places [] p (suc n) same none = absurd (omega arith)
no-places (x ∷ ps) p n same none = absurd (omega arith)

pub no-seats : (ss : List Seat) (p : List Entry) → length ss ≡ 0 → Splits (map seat_way ss) p (length ss)
no-seats ss p none = no-places (map seat_way ss) p (length ss) none (length-places seat_way ss ∙ none)

pub none-past : (ss : List Seat) (w : List Entry) → HasSeat ss (length ss) w → ⊥
none-past ss w there = let less : length ss < length ss = has-within ss (length ss) w there in omega arith

-- ---- one changed
pub ways-kept : (ss : List Seat) (i : ℕ) (s t : Seat) (a : List Entry) → Stands ss i s a → seat_way t ≡ seat_way s → map seat_way (set ss i t) ≡ map seat_way ss
ways-kept ss i s t a st way =
    ap (map seat_way) (set-split ss i t st.within)
    ∙ (sym (same-rising (take i ss) (drop (suc i) ss) s t way) ∙ ap (map seat_way) (sym st.parts))

pub begin-kept : (old new : List (List Entry)) (n : ℕ) → new ≡ old → IsGroupBegin old n → IsGroupBegin new n
begin-kept old new n same begins = subst (λ (ws : List (List Entry)). IsGroupBegin ws n) (sym same) begins

-- ---- one more
map-inserted : {X Y : Type 0} (f : X → Y) (i : ℕ) (xs : List X) (x : X) → map f (take i xs ++ x ∷ drop i xs) ≡ take i (map f xs) ++ f x ∷ drop i (map f xs)
map-inserted f zero [] x = refl
map-inserted f zero (y ∷ xs) x = refl
map-inserted f (suc i) [] x = refl
map-inserted f (suc i) (y ∷ xs) x = ap (λ ys. f y ∷ ys) (map-inserted f i xs x)

length-inserted : {X : Type 0} (i : ℕ) (xs : List X) (x : X) → length (take i xs ++ x ∷ drop i xs) ≡ suc (length xs)
length-inserted zero [] x = refl
length-inserted zero (y ∷ xs) x = refl
length-inserted (suc i) [] x = refl
length-inserted (suc i) (y ∷ xs) x = ap suc (length-inserted i xs x)

take-inserted : {X : Type 0} (n i : ℕ) (xs : List X) (x : X) → n ≤ i → i ≤ length xs → take n (take i xs ++ x ∷ drop i xs) ≡ take n xs
take-inserted zero zero [] x h k = refl
take-inserted zero zero (y ∷ xs) x h k = refl
take-inserted zero (suc i) [] x h k = refl
take-inserted zero (suc i) (y ∷ xs) x h k = refl
take-inserted (suc n) zero xs x h k = absurd (omega arith)
take-inserted (suc n) (suc i) [] x h k = absurd (omega arith)
take-inserted (suc n) (suc i) (y ∷ xs) x h k =
    let less : n ≤ i = omega arith in let more : i ≤ length xs = omega arith in ap (λ ys. y ∷ ys) (take-inserted n i xs x less more)

in-back : {X : Type 0} (n : ℕ) (xs : List X) (x : X) → In x (drop n xs) → In x xs
in-back zero xs x h = h
in-back (suc n) [] x h = h
in-back (suc n) (y ∷ xs) x h = inr (in-back n xs x h)

drop-inserted : {X : Type 0} (n i : ℕ) (xs : List X) (x b : X) → n ≤ i → i ≤ length xs → In b (drop n (take i xs ++ x ∷ drop i xs)) → (b ≡ x) ⊎ In b (drop n xs)
drop-inserted zero i xs x b h k at = elim (in-either b (take i xs) (x ∷ drop i xs) at) [
  | inl low ↦ inr (in-front i xs b low)
  | inr (inl is) ↦ inl is
  | inr (inr high) ↦ inr (in-back i xs b high)
]
drop-inserted (suc n) zero xs x b h k at = absurd (omega arith)
drop-inserted (suc n) (suc i) [] x b h k at = absurd (omega arith)
drop-inserted (suc n) (suc i) (y ∷ xs) x b h k at =
    let less : n ≤ i = omega arith in let more : i ≤ length xs = omega arith in drop-inserted n i xs x b less more at

-- a way put in behind what is before its parallel
module _ (ss : List Seat) (w : List Entry) (n i : ℕ) (beside : AllBeside ss (ordered_of w)) (split : Splits (map seat_way ss) (ordered_of w) n) (less : n ≤ i)
    (within : i ≤ length (map seat_way ss)) where
  abbrev ways : List (List Entry)
  ways = take i (map seat_way ss) ++ w ∷ drop i (map seat_way ss)

  split-inserted : Splits ways (ordered_of w) n
  split-inserted = record {
    within = let long = length-inserted i (map seat_way ss) w in omega (arith, long, less, within);
    below = λ a at. split.below a (subst (λ (ps : List (List Entry)). In a ps) (take-inserted n i (map seat_way ss) w less within) at);
    above = λ a at low. elim (drop-inserted n i (map seat_way ss) w a less within at) [
      | inl is ↦ not-under-ordered w (subst (λ (x : List Entry). order_of x (ordered_of w) ≡ Less) is low)
      | inr there ↦ split.above a there low
    ];
  }

  last-begins : (v : List Entry) → In v (drop n ways) → ordered_of v ≡ ordered_of w
  last-begins v at = elim (drop-inserted n i (map seat_way ss) w v less within at) [
    | inl is ↦ ap ordered_of is
    | inr there ↦
        let s = map-in-drop seat_way v n ss there in
        elim (beside s.0 (in-back n ss s.0 s.1)) [
          | inl low ↦ absurd (split.above v there (subst (λ (x : List Entry). order_of x (ordered_of w) ≡ Less) (sym s.2) low))
          | inr same ↦ ap ordered_of s.2 ∙ same.0
        ]
  ]

  begin-ways : IsGroupBegin ways n
  begin-ways = λ v at.
      let long = length-inserted i (map seat_way ss) w in
      let from : n ≤ length ways - 1 = omega (arith, long, less, within) in
      subst (λ (p : List Entry). Splits ways p n) (sym (last-begins v (in-drop-at n (length ways - 1) ways v from at))) split-inserted

  pub begin-inserted : (after : List Seat) (s : Seat) → after ≡ take i ss ++ s ∷ drop i ss → seat_way s ≡ w → IsGroupBegin (map seat_way after) n
  begin-inserted after s is way =
      begin-kept ways (map seat_way after) n
      (ap (map seat_way) is ∙ (map-inserted seat_way i ss s ∙ ap (λ (v : List Entry). take i (map seat_way ss) ++ v ∷ drop i (map seat_way ss)) way)) begin-ways
