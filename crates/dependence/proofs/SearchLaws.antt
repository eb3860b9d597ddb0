-- Looking for a place by halves.
use Rattle.std.proofs.Common.{◌≡◌, ◌⊎◌, inl, inr, ℕ, zero, suc, ◌-◌, ◌<◌, ◌≤◌, Bool, true, false, List, [], ◌∷◌, length, take, drop, map, cond, get_or, Some, None, is_some, slice_get, refl, sym, ap, subst, ◌∙◌, true≢false, arith, Ordering, Less, Equal, Greater}
use Rattle.std.specs.Ordering.{is_lt, nat_cmp, ord_min}
use Rattle.address.specs.declared.Entry.{Entry}
use Rattle.address.specs.Order.{order_of}
use Rattle.address.specs.internal.OrderLaws.{less-not-equal, greater-not-less}
use Rattle.address.proofs.public.Total.{order-transitive, order-itself}
use Rattle.syntax.specs.Lists.{In}
use Rattle.dependence.specs.internal.Forks.{IsFork, Shares}
use Rattle.dependence.specs.internal.Search.{AllLess, LastNotLess, Rising, Splits}
use Rattle.dependence.proofs.ForkLaws.{number-less, number-ties, number-more, shares-back, shares-on, shares-fewer, fork-shares, between-shares}

-- ---- places by their number
pub some-is : {X : Type 0} (x y : X) → Some x ≡ Some y → x ≡ y
some-is x y e = cc

pub none-some : {X : Type 0} (x : X) → None ≡ Some x → ⊥
none-some x e = true≢false (sym (subst (λ o. false ≡ is_some o) e refl))

pub in-at : {X : Type 0} (ps : List X) (m : ℕ) (a : X) → slice_get ps m ≡ Some a → In a ps
in-at [] zero a at = absurd (none-some a at)
in-at [] (suc m) a at = absurd (none-some a at)
in-at (x ∷ ps) zero a at = inl (sym (some-is x a at))
in-at (x ∷ ps) (suc m) a at = inr (in-at ps m a at)

pub in-drop-at : (low m : ℕ) (ps : List (List Entry)) (a : List Entry) → low ≤ m → slice_get ps m ≡ Some a → In a (drop low ps)
in-drop-at zero m ps a h at = in-at ps m a at
in-drop-at (suc low) zero ps a h at = absurd (omega arith)
in-drop-at (suc low) (suc m) [] a h at = absurd (none-some a at)
in-drop-at (suc low) (suc m) (x ∷ ps) a h at = let less : low ≤ m = omega arith in in-drop-at low m ps a less at

pub in-take-at : (high m : ℕ) (ps : List (List Entry)) (a : List Entry) → m < high → slice_get ps m ≡ Some a → In a (take high ps)
in-take-at zero m ps a h at = absurd (omega arith)
in-take-at (suc high) zero [] a h at = absurd (none-some a at)
in-take-at (suc high) zero (x ∷ ps) a h at = inl (sym (some-is x a at))
in-take-at (suc high) (suc m) [] a h at = absurd (none-some a at)
in-take-at (suc high) (suc m) (x ∷ ps) a h at = let less : m < high = omega arith in inr (in-take-at high m ps a less at)

rising-before : (ps : List (List Entry)) (m : ℕ) (a b : List Entry) → Rising ps → slice_get ps m ≡ Some a → In b (take m ps) → order_of b a ≡ Less
rising-before [] zero a b r at i = absurd i
rising-before [] (suc m) a b r at i = absurd (none-some a at)
rising-before (x ∷ ps) zero a b r at i = absurd i
rising-before (x ∷ ps) (suc m) a b r at i = elim i [
  | inl is ↦ subst (λ (c : List Entry). order_of c a ≡ Less) (sym is) (r.0 a (in-at ps m a at))
  | inr later ↦ rising-before ps m a b r.1 at later
]

pub rising-after : (ps : List (List Entry)) (m : ℕ) (a b : List Entry) → Rising ps → slice_get ps m ≡ Some a → In b (drop (suc m) ps) → order_of a b ≡ Less
rising-after [] zero a b r at i = absurd i
rising-after [] (suc m) a b r at i = absurd i
rising-after (x ∷ ps) zero a b r at i = subst (λ (c : List Entry). order_of c b ≡ Less) (some-is x a at) (r.0 b i)
rising-after (x ∷ ps) (suc m) a b r at i = rising-after ps m a b r.1 at i

pub in-take-more : (ps : List (List Entry)) (m : ℕ) (a b : List Entry) → slice_get ps m ≡ Some a → In b (take (suc m) ps) → In b (take m ps) ⊎ (b ≡ a)
in-take-more [] zero a b at i = absurd i
in-take-more [] (suc m) a b at i = absurd i
in-take-more (x ∷ ps) zero a b at i = elim i [ inl is ↦ inr (is ∙ some-is x a at) | inr none ↦ absurd none ]
in-take-more (x ∷ ps) (suc m) a b at i = elim i [
  | inl is ↦ inl (inl is)
  | inr later ↦ elim (in-take-more ps m a b at later) [ inl there ↦ inl (inr there) | inr is ↦ inr is ]
]

in-drop-here : (ps : List (List Entry)) (m : ℕ) (a b : List Entry) → slice_get ps m ≡ Some a → In b (drop m ps) → (b ≡ a) ⊎ In b (drop (suc m) ps)
in-drop-here [] zero a b at i = absurd i
in-drop-here [] (suc m) a b at i = absurd i
in-drop-here (x ∷ ps) zero a b at i = elim i [ inl is ↦ inl (is ∙ some-is x a at) | inr later ↦ inr later ]
in-drop-here (x ∷ ps) (suc m) a b at i = in-drop-here ps m a b at i

-- ---- the halves
-- from `low` on and below `high` nothing is known but what all share with the bound
pub record Narrowed (ps : List (List Entry)) (p : List Entry) (low high low_shared high_shared : ℕ) : Type 0 where
  pub order : low ≤ high
  pub within : high ≤ length ps
  pub below : (a : List Entry) → In a (take low ps) → order_of a p ≡ Less
  pub above : (a : List Entry) → In a (drop high ps) → order_of a p ≡ Less → ⊥
  pub low_shares : (a : List Entry) → In a (drop low ps) → order_of a p ≡ Less → Shares low_shared a p
  pub high_shares : (a : List Entry) → In a (take high ps) → (order_of a p ≡ Less → ⊥) → Shares high_shared a p

none-behind : (ps : List (List Entry)) (n : ℕ) (a : List Entry) → n ≡ length ps → In a (drop n ps) → ⊥
none-behind [] zero a is i = i
none-behind [] (suc n) a is i = absurd (omega arith)
none-behind (x ∷ ps) zero a is i = absurd (omega arith)
none-behind (x ∷ ps) (suc n) a is i = let less : n ≡ length ps = omega arith in none-behind ps n a less i

pub narrowed-none : (ps : List (List Entry)) (p : List Entry) (high : ℕ) → high ≡ length ps → Narrowed ps p 0 high 0 0
narrowed-none ps p high is = record {
  order = omega arith;
  within = omega arith;
  below = λ a i. absurd i;
  above = λ a i less. none-behind ps high a is i;
  low_shares = λ a i less. tt;
  high_shares = λ a i more. tt;
}

pub narrowed-all : (ps : List (List Entry)) (p : List Entry) (low high s t : ℕ) → Narrowed ps p low high s t → high ≤ low → Splits ps p low
narrowed-all ps p low high s t n end =
    let same : high ≡ low = let order : low ≤ high = n.order in omega arith in
    record {
      within = let order : low ≤ high = n.order in let within : high ≤ length ps = n.within in omega arith;
      below = n.below;
      above = subst (λ (k : ℕ). (a : List Entry) → In a (drop k ps) → order_of a p ≡ Less → ⊥) same n.above;
    }

shared-either : (s t k : ℕ) (a p : List Entry) (o : Ordering) → order_of a p ≡ o → k ≤ s → k ≤ t → (order_of a p ≡ Less → Shares s a p) →
    ((order_of a p ≡ Less → ⊥) → Shares t a p) → Shares k a p
shared-either s t k a p Less is hs ht low high = shares-fewer k s a p hs (low is)
shared-either s t k a p Equal is hs ht low high = shares-fewer k t a p ht (high (λ less. less-not-equal (sym less ∙ is)))
shared-either s t k a p Greater is hs ht low high = shares-fewer k t a p ht (high (λ less. greater-not-less (sym is ∙ less)))

-- what stands between shares what both ends do
pub narrowed-shares : (ps : List (List Entry)) (p : List Entry) (low high s t m k : ℕ) (a : List Entry) → Narrowed ps p low high s t → low ≤ m → m < high → k ≤ s → k ≤ t →
    slice_get ps m ≡ Some a → Shares k a p
narrowed-shares ps p low high s t m k a n from below hs ht at =
    shared-either s t k a p (order_of a p) refl hs ht (n.low_shares a (in-drop-at low m ps a from at)) (n.high_shares a (in-take-at high m ps a below at))

less-of : (o : Ordering) → is_lt o ≡ true → o ≡ Less
less-of Less h = refl
less-of Equal h = absurd (true≢false (sym h))
less-of Greater h = absurd (true≢false (sym h))

more-of : (o : Ordering) → is_lt o ≡ false → o ≡ Less → ⊥
more-of Less h is = true≢false h
more-of Equal h is = less-not-equal (sym is)
more-of Greater h is = greater-not-less is

pub narrowed-up : (ps : List (List Entry)) (p : List Entry) (low high s t m f e : ℕ) (a : List Entry) (b : Bool) → Rising ps → Narrowed ps p low high s t → low ≤ m → m < high →
    slice_get ps m ≡ Some a → IsFork f a p → b ≡ is_lt (order_of a p) → b ≡ true → e ≡ suc m → Narrowed ps p e high f t
narrowed-up ps p low high s t m f e a b r n from under at parted test holds is =
    let less : order_of a p ≡ Less = less-of (order_of a p) (sym test ∙ holds) in
    subst (λ (k : ℕ). Narrowed ps p k high f t) (sym is)
    (record {
      order = omega arith;
      within = n.within;
      below = λ c i. elim (in-take-more ps m a c at i) [
        | inl earlier ↦ order-transitive c a p (rising-before ps m a c r at earlier) less
        | inr same ↦ subst (λ (d : List Entry). order_of d p ≡ Less) (sym same) less
      ];
      above = n.above;
      low_shares = λ c i low.
          between-shares f a c p (fork-shares f f a p parted (omega arith))
          (λ back. less-not-equal (sym (order-transitive a c a (rising-after ps m a c r at i) back) ∙ order-itself a)) low;
      high_shares = n.high_shares;
    })

pub narrowed-down : (ps : List (List Entry)) (p : List Entry) (low high s t m f : ℕ) (a : List Entry) (b : Bool) → Rising ps → Narrowed ps p low high s t → low ≤ m → m < high →
    slice_get ps m ≡ Some a → IsFork f a p → b ≡ is_lt (order_of a p) → b ≡ false → Narrowed ps p low m s f
narrowed-down ps p low high s t m f a b r n from under at parted test fails =
    let more : order_of a p ≡ Less → ⊥ = more-of (order_of a p) (sym test ∙ fails) in
    let shared : Shares f a p = fork-shares f f a p parted (omega arith) in
    record {
      order = from;
      within = let within : high ≤ length ps = n.within in omega arith;
      below = n.below;
      above = λ c i low. elim (in-drop-here ps m a c at i) [
        | inl same ↦ more (subst (λ (d : List Entry). order_of d p ≡ Less) same low)
        | inr later ↦ more (order-transitive a c p (rising-after ps m a c r at later) low)
      ];
      low_shares = n.low_shares;
      high_shares = λ c i high.
          shares-on f c a p
          (between-shares f p c a (shares-back f a p shared) high (rising-before ps m a c r at i))
          shared;
    }

-- the place that an index reads
map-read : {X : Type 0} (f : X → List Entry) (xs : List X) (m : ℕ) (d : X) → m < length xs → slice_get (map f xs) m ≡ Some (f (get_or xs m d))
map-read f [] m d h = absurd (omega arith)
map-read f (x ∷ xs) zero d h = refl
map-read f (x ∷ xs) (suc m) d h = let less : m < length xs = omega arith in map-read f xs m d less

pub place-read : {X : Type 0} (f : X → List Entry) (xs : List X) (m : ℕ) (x : X) (a : List Entry) → m < length xs → x ≡ get_or xs m x → a ≡ f x → slice_get (map f xs) m ≡ Some a
place-read f xs m x a h is place =
    map-read f xs m x h ∙ (ap (λ y. Some (f y)) (sym is) ∙ ap Some (sym place))

pub length-places : {X : Type 0} (f : X → List Entry) (xs : List X) → length (map f xs) ≡ length xs
length-places f [] = refl
length-places f (x ∷ xs) = ap suc (length-places f xs)

least-first : (s t : ℕ) (o : Ordering) → nat_cmp t s ≡ o → cond (is_lt o) t s ≤ s
least-first s t Less is = let less : t < s = number-less t s is in omega arith
least-first s t Equal is = omega arith
least-first s t Greater is = omega arith

least-second : (s t : ℕ) (o : Ordering) → nat_cmp t s ≡ o → cond (is_lt o) t s ≤ t
least-second s t Less is = omega arith
least-second s t Equal is = let same : t ≡ s = number-ties t s is in omega arith
least-second s t Greater is = let more : s < t = number-more t s is in omega arith

-- the least of both is at most each
pub min-first : (s t k : ℕ) → k ≡ ord_min nat_cmp s t → k ≤ s
min-first s t k is = subst (λ (n : ℕ). n ≤ s) (sym is) (least-first s t (nat_cmp t s) refl)

pub min-second : (s t k : ℕ) → k ≡ ord_min nat_cmp s t → k ≤ t
min-second s t k is = subst (λ (n : ℕ). n ≤ t) (sym is) (least-second s t (nat_cmp t s) refl)

-- ---- the last ones first
module _ (ps : List (List Entry)) (p a : List Entry) (n m : ℕ) (b : Bool) (r : Rising ps) (at : slice_get ps m ≡ Some a) (some : n ≡ suc m) (test : b ≡ is_lt (order_of a p))
  where
    pub all-less : b ≡ true → AllLess ps n p
    all-less holds =
        let less : order_of a p ≡ Less = less-of (order_of a p) (sym test ∙ holds) in
        subst (λ (k : ℕ). AllLess ps k p) (sym some)
        (λ c i. elim (in-take-more ps m a c at i) [
          | inl earlier ↦ order-transitive c a p (rising-before ps m a c r at earlier) less
          | inr same ↦ subst (λ (d : List Entry). order_of d p ≡ Less) (sym same) less
        ])

    pub last-not-less : b ≡ false → LastNotLess ps n p
    last-not-less fails =
        let more : order_of a p ≡ Less → ⊥ = more-of (order_of a p) (sym test ∙ fails) in
        let before : n - 1 ≡ m = omega arith in
        record {
          some = omega arith;
          above = subst (λ (k : ℕ). (c : List Entry) → In c (drop k ps) → order_of c p ≡ Less → ⊥) (sym before)
              (λ c i low. elim (in-drop-here ps m a c at i) [
                | inl same ↦ more (subst (λ (d : List Entry). order_of d p ≡ Less) same low)
                | inr later ↦ more (order-transitive a c p (rising-after ps m a c r at later) low)
              ]);
        }

pub split-all : (ps : List (List Entry)) (p : List Entry) (n : ℕ) → n ≡ length ps → AllLess ps n p → Splits ps p n
split-all ps p n is all = record { within = omega arith; below = all; above = λ a i less. none-behind ps n a is i }

pub split-last : (ps : List (List Entry)) (p : List Entry) (n m : ℕ) → n ≡ length ps → m ≡ n - 1 → LastNotLess ps n p → AllLess ps m p → Splits ps p m
split-last ps p n m is before last all = record {
  within = let some : 0 < n = last.some in omega arith;
  below = all;
  above = subst (λ (k : ℕ). (a : List Entry) → In a (drop k ps) → order_of a p ≡ Less → ⊥) (sym before) last.above;
}

-- before the place of no entries there is none
nothing-less : (a p : List Entry) → length p ≡ 0 → order_of a p ≡ Less → ⊥
nothing-less [] [] h less = less-not-equal (sym less)
nothing-less (x ∷ a) [] h less = greater-not-less less
nothing-less a (y ∷ p) h less = absurd (omega arith)

pub split-none : (ps : List (List Entry)) (p : List Entry) → length p ≡ 0 → Splits ps p 0
split-none ps p none = record { within = omega arith; below = λ a i. absurd i; above = λ a i less. nothing-less a p none less }

-- so many are less than the place that stands at an index
pub split-at : (ps : List (List Entry)) (p : List Entry) (n : ℕ) → Rising ps → n < length ps → slice_get ps n ≡ Some p → Splits ps p n
split-at ps p n r within at = record {
  within = omega arith;
  below = λ a i. rising-before ps n p a r at i;
  above = λ a i less. elim (in-drop-here ps n p a at i) [
    | inl same ↦ less-not-equal (sym (subst (λ (b : List Entry). order_of b p ≡ Less) same less) ∙ order-itself p)
    | inr later ↦ less-not-equal (sym (order-transitive p a p (rising-after ps n p a r at later) less) ∙ order-itself p)
  ];
}
