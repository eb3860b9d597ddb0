-- Elements at places of lists, and lists in an order.
use Rattle.std.proofs.Common.{◌≡◌, ◌≢◌, ◌↔◌, inl, inr, ℕ, zero, suc, ◌+◌, ◌<◌, ◌≤◌, List, [], ◌∷◌, ◌++◌, length, take, drop, get_or, Some, refl, sym, ◌∙◌, ap, subst, arith}
use Rattle.std.specs.Prelude.{slice_get, slice_set, Result, Ok, Err, MatchResult}
use Rattle.std.specs.List.{remove}
use Rattle.std.specs.List.Sorted.{IsSearchInRange, IsBinarySearchResult, IsNonDecreasingBy}
use Rattle.std.specs.Ordering.{nat_cmp, ordering_index}
use Rattle.std.proofs.lemmas.Cmp.{ranked}
use Rattle.std.proofs.lemmas.Bool.{cases_lt}
use Rattle.std.proofs.lemmas.Bool.Decides.{nat_tests}
use Rattle.std.proofs.lemmas.List.Sorted.{IsNonDecreasingBy-from_default}
use Rattle.std.proofs.lemmas.Option.{slice_get-get_or, slice_get_within, get_or_from_slice_get}
use Rattle.syntax.specs.Lists.{In}
use Rattle.runs.specs.InOrder.{InOrder}
use Rattle.runs.proofs.public.Lists.{in-left, in-right, in-parts, every-in, every-of}
use Rattle.runs.proofs.public.Options.{none-some, some-injective}

pub in-at : {X : Type 0} (l : List X) (i : ℕ) (x : X) → slice_get l i ≡ Some x → In x l
in-at [] i x h = none-some x h
in-at (y ∷ l) zero x h = inl (some-injective x y (sym h))
in-at (y ∷ l) (suc i) x h = inr (in-at l i x h)

pub index-in : {X : Type 0} (l : List X) (x : X) → In x l → (i : ℕ) × (slice_get l i ≡ Some x)
index-in [] x i = absurd i
index-in (y ∷ l) x i =
    elim i [
      | inl is ↦ (zero, ap (λ z. Some z) (sym is))
      | inr later ↦ let rest = index-in l x later in (suc rest.0, rest.1)
    ]

pub at-within : {X : Type 0} (l : List X) (i : ℕ) → i < length l → (x : X) × (slice_get l i ≡ Some x)
at-within [] i h = absurd (omega arith)
at-within (y ∷ l) zero h = (y, refl)
at-within (y ∷ l) (suc i) h = let less : i < length l = omega arith in at-within l i less

pub at-one : {X : Type 0} (l : List X) (i : ℕ) (x y : X) → slice_get l i ≡ Some x → slice_get l i ≡ Some y → x ≡ y
at-one l i x y a b = some-injective x y (sym a ∙ b)

-- the element that a write put there
pub set-here : {X : Type 0} (l : List X) (i : ℕ) (v : X) → i < length l → slice_get (slice_set l i v) i ≡ Some v
set-here [] i v h = absurd (omega arith)
set-here (y ∷ l) zero v h = refl
set-here (y ∷ l) (suc i) v h = let less : i < length l = omega arith in set-here l i v less

-- the others stay
pub set-other : {X : Type 0} (l : List X) (i j : ℕ) (v : X) → j ≢ i → slice_get (slice_set l i v) j ≡ slice_get l j
set-other [] i j v h = refl
set-other (y ∷ l) zero zero v h = absurd (h refl)
set-other (y ∷ l) zero (suc j) v h = refl
set-other (y ∷ l) (suc i) zero v h = refl
set-other (y ∷ l) (suc i) (suc j) v h = set-other l i j v (λ is. h (ap suc is))

-- before the index and after it
pub parts-at : {X : Type 0} (l : List X) (i : ℕ) (x : X) → slice_get l i ≡ Some x → l ≡ take i l ++ x ∷ drop (suc i) l
parts-at [] i x h = none-some x h
parts-at (y ∷ l) zero x h = ap (λ z. z ∷ l) (some-injective y x h)
parts-at (y ∷ l) (suc i) x h = ap (λ k. y ∷ k) (parts-at l i x h)

pub take-next : {X : Type 0} (l : List X) (i : ℕ) (x : X) → slice_get l i ≡ Some x → take (suc i) l ≡ take i l ++ x ∷ []
take-next [] i x h = none-some x h
take-next (y ∷ l) zero x h = ap (λ z. z ∷ []) (some-injective y x h)
take-next (y ∷ l) (suc i) x h = ap (λ k. y ∷ k) (take-next l i x h)

pub drop-next : {X : Type 0} (l : List X) (i : ℕ) (x : X) → slice_get l i ≡ Some x → drop i l ≡ x ∷ drop (suc i) l
drop-next [] i x h = none-some x h
drop-next (y ∷ l) zero x h = ap (λ z. z ∷ l) (some-injective y x h)
drop-next (y ∷ l) (suc i) x h = drop-next l i x h

pub take-all : {X : Type 0} (l : List X) (i : ℕ) → length l ≤ i → take i l ≡ l
take-all [] zero h = refl
take-all [] (suc i) h = refl
take-all (y ∷ l) zero h = absurd (omega arith)
take-all (y ∷ l) (suc i) h = let less : length l ≤ i = omega arith in ap (λ k. y ∷ k) (take-all l i less)

pub drop-all : {X : Type 0} (l : List X) (i : ℕ) → length l ≤ i → drop i l ≡ []
drop-all [] zero h = refl
drop-all [] (suc i) h = refl
drop-all (y ∷ l) zero h = absurd (omega arith)
drop-all (y ∷ l) (suc i) h = let less : length l ≤ i = omega arith in drop-all l i less

-- the places below the one that is removed keep their elements, and those above move down by one
pub removed-below : {X : Type 0} (l : List X) (i j : ℕ) → j < i → slice_get (remove l i) j ≡ slice_get l j
removed-below l zero j h = absurd (omega arith)
removed-below [] (suc i) j h = refl
removed-below (y ∷ l) (suc i) zero h = refl
removed-below (y ∷ l) (suc i) (suc j) h = let less : j < i = omega arith in removed-below l i j less

pub removed-above : {X : Type 0} (l : List X) (i j : ℕ) → i ≤ j → slice_get (remove l i) j ≡ slice_get l (suc j)
removed-above [] zero j h = refl
removed-above [] (suc i) j h = refl
removed-above (y ∷ l) zero j h = refl
removed-above (y ∷ l) (suc i) zero h = absurd (omega arith)
removed-above (y ∷ l) (suc i) (suc j) h = let less : i ≤ j = omega arith in removed-above l i j less

-- what holds of each element of a list in order
pub in-order-left : {X : Type 0} (R : X → X → Type 0) (xs ys : List X) → InOrder R (xs ++ ys) → InOrder R xs
in-order-left R [] ys o = tt
in-order-left R (x ∷ xs) ys o = (every-of (R x) xs (λ y i. every-in (R x) (xs ++ ys) y o.0 (in-left y xs ys i)), in-order-left R xs ys o.1)

pub in-order-right : {X : Type 0} (R : X → X → Type 0) (xs ys : List X) → InOrder R (xs ++ ys) → InOrder R ys
in-order-right R [] ys o = o
in-order-right R (x ∷ xs) ys o = in-order-right R xs ys o.1

pub in-order-across : {X : Type 0} (R : X → X → Type 0) (xs ys : List X) (x y : X) → InOrder R (xs ++ ys) → In x xs → In y ys → R x y
in-order-across R [] ys x y o i j = absurd i
in-order-across R (z ∷ xs) ys x y o i j =
    elim i [
      | inl is ↦ subst (λ w. R w y) (sym is) (every-in (R z) (xs ++ ys) y o.0 (in-right y xs ys j))
      | inr later ↦ in-order-across R xs ys x y o.1 later j
    ]

pub in-order-join : {X : Type 0} (R : X → X → Type 0) (xs ys : List X) → InOrder R xs → InOrder R ys → ((x y : X) → In x xs → In y ys → R x y) →
    InOrder R (xs ++ ys)
in-order-join R [] ys o p h = p
in-order-join R (x ∷ xs) ys o p h = (
  every-of (R x) (xs ++ ys) (λ y i. elim (in-parts y xs ys i) [ inl a ↦ every-in (R x) xs y o.0 a | inr a ↦ h x y (inl refl) a ]),
  in-order-join R xs ys o.1 p (λ a b i j. h a b (inr i) j),
)

pub in-order-more : {X : Type 0} (R : X → X → Type 0) (xs : List X) (v : X) → InOrder R xs → ((x : X) → In x xs → R x v) → InOrder R (xs ++ v ∷ [])
in-order-more R xs v o h = in-order-join R xs (v ∷ []) o (tt, tt) (λ x y i j. elim j [ inl is ↦ subst (R x) (sym is) (h x i) | inr none ↦ absurd none ])

-- a list in order without one of its elements is in order
pub in-order-removed : {X : Type 0} (R : X → X → Type 0) (l : List X) (i : ℕ) (x : X) → slice_get l i ≡ Some x → InOrder R l → InOrder R (remove l i)
in-order-removed R l i x is o =
    let parts : InOrder R (take i l ++ x ∷ drop (suc i) l) = subst (InOrder R) (parts-at l i x is) o in
    in-order-join R (take i l) (drop (suc i) l) (in-order-left R (take i l) (x ∷ drop (suc i) l) parts)
    (in-order-right R (take i l) (x ∷ drop (suc i) l) parts).1
    (λ a b j k. in-order-across R (take i l) (x ∷ drop (suc i) l) a b parts j (inr k))

-- what a list in order has without one of its elements
pub in-removed : (l : List ℕ) (i x u : ℕ) → slice_get l i ≡ Some x → InOrder ◌<◌ l → In u (remove l i) ↔ (In u l × (u ≡ x → ⊥))
in-removed l i x u is o =
    let parts : InOrder ◌<◌ (take i l ++ x ∷ drop (suc i) l) = subst (InOrder ◌<◌) (parts-at l i x is) o in
    let whole = sym (parts-at l i x is) in (
      (λ j. elim (in-parts u (take i l) (drop (suc i) l) j) [
        | inl a ↦
            let low : u < x = in-order-across ◌<◌ (take i l) (x ∷ drop (suc i) l) u x parts a (inl refl) in
            (subst (In u) whole (in-left u (take i l) (x ∷ drop (suc i) l) a), λ same. omega arith)
        | inr a ↦
            let high : x < u = every-in (λ y. x < y) (drop (suc i) l) u (in-order-right ◌<◌ (take i l) (x ∷ drop (suc i) l) parts).0 a in
            (subst (In u) whole (in-right u (take i l) (x ∷ drop (suc i) l) (inr a)), λ same. omega arith)
      ]),
      (λ h. elim (in-parts u (take i l) (x ∷ drop (suc i) l) (subst (In u) (parts-at l i x is) h.0)) [
        | inl a ↦ in-left u (take i l) (drop (suc i) l) a
        | inr (inl a) ↦ absurd (h.1 a)
        | inr (inr a) ↦ in-right u (take i l) (drop (suc i) l) a
      ]),
    )

-- what is greater is greater than all
rise : {X : Type 0} (key : X → ℕ) (xs : List X) (e : X) (i j : ℕ) → InOrder (λ a b. key a < key b) xs → i ≤ j → j < length xs →
    key (get_or xs i e) ≤ key (get_or xs j e)
rise key [] e i j o le less = absurd (omega arith)
rise key (x ∷ xs) e zero zero o le less = omega arith
rise key (x ∷ xs) e zero (suc j) o le less =
    let within : j < length xs = omega arith in
    let low : key x < key (get_or xs j e) = every-in (λ y. key x < key y) xs (get_or xs j e) o.0 (in-at xs j (get_or xs j e) (slice_get-get_or xs j e within)) in
    omega arith
rise key (x ∷ xs) e (suc i) zero o le less = absurd (omega arith)
rise key (x ∷ xs) e (suc i) (suc j) o le less =
    let first : i ≤ j = omega arith in let second : j < length xs = omega arith in rise key xs e i j o.1 first second

-- the comparisons with k rise along the list, as a binary search asks
comparisons-rise : {X : Type 0} (key : X → ℕ) (xs : List X) (k : ℕ) → InOrder (λ a b. key a < key b) xs →
    IsNonDecreasingBy (λ x. ordering_index (nat_cmp (key x) k)) xs
comparisons-rise key [] k o = λ i j d le less. absurd (omega arith)
comparisons-rise key (e ∷ xs) k o = IsNonDecreasingBy-from_default (λ x. ordering_index (nat_cmp (key x) k)) (e ∷ xs) e (λ i j le less.
    let up : key (get_or (e ∷ xs) i e) ≤ key (get_or (e ∷ xs) j e) = rise key (e ∷ xs) e i j o le less in
    grind (arith, nat_tests))

-- what a binary search by a key that rises finds
pub searched-by : {X : Type 0} (key : X → ℕ) (xs : List X) (k : ℕ) → InOrder (λ a b. key a < key b) xs → (r : Result ℕ ℕ) → IsSearchInRange r (length xs) →
    IsBinarySearchResult (λ x. nat_cmp (key x) k) xs r → MatchResult r (λ i. (x : X) × (slice_get xs i ≡ Some x) × (key x ≡ k)) (λ _. (x : X) → In x xs → key x ≡ k → ⊥)
searched-by key xs k o (Ok i) within equal =
    let found = at-within xs i within in (
      found.0,
      found.1,
      subst (λ x. key x ≡ k) (get_or_from_slice_get xs i found.0 found.0 found.1) (ranked _ k _ (sym (equal found.0))),
    )
searched-by key xs k o (Err at) within parted = λ x j is.
    let index = index-in xs x j in
    let p : ℕ = index.0 in
    let inside : p < length xs = slice_get_within xs p x index.1 in
    let here : get_or xs p x ≡ x = get_or_from_slice_get xs p x x index.1 in
    let split = parted (comparisons-rise key xs k o) in
    elim (cases_lt p at) [
      | inl low ↦
          let less : key (get_or xs p x) < k = ranked _ k _ (sym (split.0 p x (omega arith) low)) in
          let same : key (get_or xs p x) ≡ key x = ap key here in
          omega arith
      | inr high ↦
          let more : k < key (get_or xs p x) = ranked _ k _ (sym (split.1 p x high inside)) in
          let same : key (get_or xs p x) ≡ key x = ap key here in
          omega arith
    ]

pub in-take : {X : Type 0} (l : List X) (i : ℕ) (x : X) → In x (take i l) → In x l
in-take [] zero x j = absurd j
in-take [] (suc i) x j = absurd j
in-take (y ∷ l) zero x j = absurd j
in-take (y ∷ l) (suc i) x j = elim j [ inl is ↦ inl is | inr later ↦ inr (in-take l i x later) ]

pub in-order-take : {X : Type 0} (R : X → X → Type 0) (l : List X) (i : ℕ) → InOrder R l → InOrder R (take i l)
in-order-take R [] zero o = tt
in-order-take R [] (suc i) o = tt
in-order-take R (x ∷ l) zero o = tt
in-order-take R (x ∷ l) (suc i) o = (every-of (R x) (take i l) (λ y j. every-in (R x) l y o.0 (in-take l i y j)), in-order-take R l i o.1)

-- the element of a loop over numbers
pub in-read : (l : List ℕ) (i : ℕ) → i < length l → In (get_or l i 0) l
in-read l i less = in-at l i (get_or l i 0) (slice_get-get_or l i 0 less)

-- one more of which P does not hold
pub none-more : (P : ℕ → Type 0) (ts : List ℕ) (i : ℕ) → i < length ts → (P (get_or ts i 0) → ⊥) → ((t : ℕ) → In t (take i ts) → P t → ⊥) →
    (t : ℕ) → In t (take (i + 1) ts) → P t → ⊥
none-more P ts i less not none t j p =
    let more : i + 1 ≡ suc i = omega arith in
    let next : take (i + 1) ts ≡ take i ts ++ get_or ts i 0 ∷ [] =
    ap (λ (k : ℕ). take k ts) more ∙ take-next ts i (get_or ts i 0) (slice_get-get_or ts i 0 less) in
    elim (in-parts t (take i ts) (get_or ts i 0 ∷ []) (subst (λ (k : List ℕ). In t k) next j)) [
      | inl a ↦ none t a p
      | inr (inl a) ↦ not (subst P a p)
      | inr (inr a) ↦ a
    ]

pub got-here : {X : Type 0} (l : List X) (i : ℕ) (x d : X) → slice_get l i ≡ Some x → get_or l i d ≡ x
got-here l i x d on = get_or_from_slice_get l i x d on
