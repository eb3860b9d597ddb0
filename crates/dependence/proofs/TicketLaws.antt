-- Tickets that ascend: parts of them, one more and one less.
use Rattle.std.proofs.Common.{◌≡◌, ◌≢◌, ◌⊎◌, ◌↔◌, inl, inr, ℕ, zero, suc, ◌-◌, ◌<◌, ◌≤◌, true, false, List, [], ◌∷◌, ◌++◌, length, take, drop, get_or, set, Vec, Option, Some, None, MatchOption, refl, sym, ap, subst, ◌∙◌, ltb, arith}
use Rattle.std.specs.Global.{Global}
use Rattle.std.specs.List.{insert, remove}
use Rattle.std.specs.List.Sorted.{IsNonDecreasingBy, IsPartitionPoint}
use Rattle.std.proofs.lemmas.Bool.{ltb-true, ltb-false, cases_lt, cases_eq}
use Rattle.syntax.specs.Lists.{In}
use Rattle.dependence.specs.internal.Tickets.{Ascends, AllBelow, LastNotBelow, Parts, LastBelow, FirstFrom, rows_of, AllAscend}
use Rattle.dependence.specs.LastEvents.{Uses, LastUse, FirstUse}
use Rattle.dependence.specs.declared.uses.UseTable.{UseTable}

-- ---- elements of lists
pub in-left : {X : Type 0} (x : X) (xs ys : List X) → In x xs → In x (xs ++ ys)
in-left x [] ys i = absurd i
in-left x (y ∷ xs) ys i = elim i [ inl is ↦ inl is | inr later ↦ inr (in-left x xs ys later) ]

pub in-right : {X : Type 0} (x : X) (xs ys : List X) → In x ys → In x (xs ++ ys)
in-right x [] ys i = i
in-right x (y ∷ xs) ys i = inr (in-right x xs ys i)

pub in-either : {X : Type 0} (x : X) (xs ys : List X) → In x (xs ++ ys) → In x xs ⊎ In x ys
in-either x [] ys i = inr i
in-either x (y ∷ xs) ys i = elim i [
  | inl is ↦ inl (inl is)
  | inr later ↦ elim (in-either x xs ys later) [ inl here ↦ inl (inr here) | inr there ↦ inr there ]
]

pub parts-join : {X : Type 0} (n : ℕ) (xs : List X) → take n xs ++ drop n xs ≡ xs
parts-join zero xs = refl
parts-join (suc n) [] = refl
parts-join (suc n) (x ∷ xs) = ap (λ k. x ∷ k) (parts-join n xs)

pub in-parted : {X : Type 0} (x : X) (n : ℕ) (xs : List X) → In x xs → In x (take n xs) ⊎ In x (drop n xs)
in-parted x n xs i = in-either x (take n xs) (drop n xs) (subst (In x) (sym (parts-join n xs)) i)

pub of-taken : {X : Type 0} (x : X) (n : ℕ) (xs : List X) → In x (take n xs) → In x xs
of-taken x n xs i = subst (In x) (parts-join n xs) (in-left x (take n xs) (drop n xs) i)

pub of-dropped : {X : Type 0} (x : X) (n : ℕ) (xs : List X) → In x (drop n xs) → In x xs
of-dropped x n xs i = subst (In x) (parts-join n xs) (in-right x (take n xs) (drop n xs) i)

-- what stands at a place
pub at-in : {X : Type 0} (xs : List X) (i : ℕ) (d : X) → i < length xs → In (get_or xs i d) xs
at-in [] i d h = absurd (omega arith)
at-in (x ∷ xs) zero d h = inl refl
at-in (x ∷ xs) (suc i) d h = let less : i < length xs = omega arith in inr (at-in xs i d less)

at-taken : {X : Type 0} (x : X) (n : ℕ) (xs : List X) (d : X) → In x (take n xs) → (k : ℕ) × (k < n) × (get_or xs k d ≡ x)
at-taken x zero xs d i = absurd i
at-taken x (suc n) [] d i = absurd i
at-taken x (suc n) (y ∷ xs) d i = elim i [
  | inl is ↦ (zero, omega arith, sym is)
  | inr later ↦ let k = at-taken x n xs d later in (suc k.0, (let less : k.0 < n = k.1 in omega arith), k.2)
]

at-dropped : {X : Type 0} (x : X) (n : ℕ) (xs : List X) (d : X) → In x (drop n xs) → (k : ℕ) × (n ≤ k) × (k < length xs) × (get_or xs k d ≡ x)
at-dropped x zero [] d i = absurd i
at-dropped x zero (y ∷ xs) d i = elim i [
  | inl is ↦ (zero, omega arith, omega arith, sym is)
  | inr later ↦ let k = at-dropped x zero xs d later in (suc k.0, omega arith, (let less : k.0 < length xs = k.2 in omega arith), k.3)
]
at-dropped x (suc n) [] d i = absurd i
at-dropped x (suc n) (y ∷ xs) d i =
    let k = at-dropped x n xs d i in
    (suc k.0, (let le : n ≤ k.0 = k.1 in omega arith), (let less : k.0 < length xs = k.2 in omega arith), k.3)

pub dropped-at : {X : Type 0} (n k : ℕ) (xs : List X) (d : X) → n ≤ k → k < length xs → In (get_or xs k d) (drop n xs)
dropped-at zero k xs d h less = at-in xs k d less
dropped-at (suc n) zero xs d h less = absurd (omega arith)
dropped-at (suc n) (suc k) [] d h less = absurd (omega arith)
dropped-at (suc n) (suc k) (x ∷ xs) d h less = let le : n ≤ k = omega arith in let low : k < length xs = omega arith in dropped-at n k xs d le low

pub taken-at : {X : Type 0} (n k : ℕ) (xs : List X) (d : X) → k < n → k < length xs → In (get_or xs k d) (take n xs)
taken-at zero k xs d h less = absurd (omega arith)
taken-at (suc n) k [] d h less = absurd (omega arith)
taken-at (suc n) zero (x ∷ xs) d h less = inl refl
taken-at (suc n) (suc k) (x ∷ xs) d h less = let le : k < n = omega arith in let low : k < length xs = omega arith in inr (taken-at n k xs d le low)

pub drop-short : {X : Type 0} (n : ℕ) (xs : List X) → length xs ≤ n → drop n xs ≡ []
drop-short zero [] h = refl
drop-short zero (x ∷ xs) h = absurd (omega arith)
drop-short (suc n) [] h = refl
drop-short (suc n) (x ∷ xs) h = let less : length xs ≤ n = omega arith in drop-short n xs less

pub drop-at : {X : Type 0} (n : ℕ) (xs : List X) (d : X) → n < length xs → drop n xs ≡ get_or xs n d ∷ drop (suc n) xs
drop-at n [] d h = absurd (omega arith)
drop-at zero (x ∷ xs) d h = refl
drop-at (suc n) (x ∷ xs) d h = let less : n < length xs = omega arith in drop-at n xs d less

-- ---- what ascends
pub ascends-left : (xs ys : List ℕ) → Ascends (xs ++ ys) → Ascends xs
ascends-left [] ys h = tt
ascends-left (x ∷ xs) ys h = (λ u i. h.0 u (in-left u xs ys i), ascends-left xs ys h.1)

pub ascends-right : (xs ys : List ℕ) → Ascends (xs ++ ys) → Ascends ys
ascends-right [] ys h = h
ascends-right (x ∷ xs) ys h = ascends-right xs ys h.1

pub ascends-across : (xs ys : List ℕ) (t u : ℕ) → Ascends (xs ++ ys) → In t xs → In u ys → t < u
ascends-across [] ys t u h i j = absurd i
ascends-across (x ∷ xs) ys t u h i j = elim i [
  | inl is ↦ subst (λ (v : ℕ). v < u) (sym is) (h.0 u (in-right u xs ys j))
  | inr later ↦ ascends-across xs ys t u h.1 later j
]

pub ascends-join : (xs ys : List ℕ) → Ascends xs → Ascends ys → ((t u : ℕ) → In t xs → In u ys → t < u) → Ascends (xs ++ ys)
ascends-join [] ys h k up = k
ascends-join (x ∷ xs) ys h k up = (
  λ u i. elim (in-either u xs ys i) [ inl a ↦ h.0 u a | inr b ↦ up x u (inl refl) b ],
  ascends-join xs ys h.1 k (λ t u i j. up t u (inr i) j),
)

not-falling : (ts : List ℕ) (i j d : ℕ) → Ascends ts → i ≤ j → j < length ts → get_or ts i d ≤ get_or ts j d
not-falling [] i j d h le less = absurd (omega arith)
not-falling (t ∷ ts) zero zero d h le less = omega arith
not-falling (t ∷ ts) zero (suc j) d h le less =
    let low : j < length ts = omega arith in
    let up : t < get_or ts j d = h.0 (get_or ts j d) (at-in ts j d low) in
    omega arith
not-falling (t ∷ ts) (suc i) zero d h le less = absurd (omega arith)
not-falling (t ∷ ts) (suc i) (suc j) d h le less = let l : i ≤ j = omega arith in let k : j < length ts = omega arith in not-falling ts i j d h.1 l k

pub non-decreasing : (ts : List ℕ) → Ascends ts → IsNonDecreasingBy (λ (t : ℕ). t) ts
non-decreasing ts h = λ i j d le less. not-falling ts i j d h le less

-- ---- how many are less
pub parts-point : (ts : List ℕ) (bound n : ℕ) → n ≤ length ts → IsPartitionPoint (λ t. ltb t bound ≡ true) (λ t. ltb t bound ≡ false) ts n → Parts ts bound n
parts-point ts bound n within h = record {
  within = within;
  below = λ t i. let k = at-taken t n ts 0 i in subst (λ (u : ℕ). u < bound) k.2 (ltb-true (get_or ts k.0 0) bound (h.0 k.0 0 (omega arith) k.1));
  above = λ t i. let k = at-dropped t n ts 0 i in subst (λ (u : ℕ). bound ≤ u) k.3 (ltb-false (get_or ts k.0 0) bound (h.1 k.0 0 k.1 k.2));
}

-- the last ones first
module _ (ts : List ℕ) (bound n m : ℕ) (h : Ascends ts) (some : n ≡ suc m) (within : n ≤ length ts) where
  pub all-below : get_or ts m 0 < bound → AllBelow ts n bound
  all-below less = λ t i.
      let k = at-taken t n ts 0 i in
      let le : k.0 ≤ m = (let l : k.0 < n = k.1 in omega arith) in
      let low : m < length ts = omega arith in
      let up : get_or ts k.0 0 ≤ get_or ts m 0 = not-falling ts k.0 m 0 h le low in
      let one : get_or ts k.0 0 ≡ t = k.2 in
      omega arith

  pub last-not-below : bound ≤ get_or ts m 0 → LastNotBelow ts n bound
  last-not-below more =
      let before : n - 1 ≡ m = omega arith in
      record {
        some = omega arith;
        above = subst (λ (k : ℕ). (t : ℕ) → In t (drop k ts) → bound ≤ t) (sym before) (λ t i.
            let k = at-dropped t m ts 0 i in
            let up : get_or ts m 0 ≤ get_or ts k.0 0 = not-falling ts m k.0 0 h k.1 k.2 in
            let one : get_or ts k.0 0 ≡ t = k.3 in
            omega arith);
      }

pub parts-all : (ts : List ℕ) (bound : ℕ) → AllBelow ts (length ts) bound → Parts ts bound (length ts)
parts-all ts bound all = record {
  within = omega arith;
  below = all;
  above = λ t i. absurd (subst (In t) (drop-short (length ts) ts (omega arith)) i);
}

pub parts-last : (ts : List ℕ) (bound : ℕ) → LastNotBelow ts (length ts) bound → AllBelow ts (length ts - 1) bound → Parts ts bound (length ts - 1)
parts-last ts bound last all = record { within = omega arith; below = all; above = last.above }

-- a ticket is among these where it stands behind the lesser ones
pub among-at : (ts : List ℕ) (ticket n : ℕ) → Ascends ts → Parts ts ticket n → n < length ts → In ticket ts → get_or ts n 0 ≡ ticket
among-at ts ticket n h p less i =
    let low : ticket ≤ get_or ts n 0 = p.above (get_or ts n 0) (dropped-at n n ts 0 (omega arith) less) in
    elim (in-parted ticket n ts i) [
      | inl a ↦ let l : ticket < ticket = p.below ticket a in absurd (omega arith)
      | inr b ↦
          let k = at-dropped ticket n ts 0 b in
          let up : get_or ts n 0 ≤ get_or ts k.0 0 = not-falling ts n k.0 0 h k.1 k.2 in
          let one : get_or ts k.0 0 ≡ ticket = k.3 in
          omega arith
    ]

pub not-among : (ts : List ℕ) (ticket n : ℕ) → Parts ts ticket n → length ts ≤ n → In ticket ts → ⊥
not-among ts ticket n p short i = elim (in-parted ticket n ts i) [
  | inl a ↦ let l : ticket < ticket = p.below ticket a in omega arith
  | inr b ↦ absurd (subst (In ticket) (drop-short n ts short) b)
]

pub among-within : (ts : List ℕ) (ticket n : ℕ) → Parts ts ticket n → In ticket ts → n < length ts
among-within ts ticket n p i = elim (cases_lt n (length ts)) [ inl less ↦ less | inr short ↦ absurd (not-among ts ticket n p short i) ]

-- ---- one more, and one less
module _ (ts : List ℕ) (ticket n : ℕ) (h : Ascends ts) (p : Parts ts ticket n) where
  whole : Ascends (take n ts ++ drop n ts)
  whole = subst Ascends (sym (parts-join n ts)) h

  pub put-ascends : (In ticket ts → ⊥) → Ascends (insert ts n ticket)
  put-ascends absent =
      ascends-join (take n ts) (ticket ∷ drop n ts) (ascends-left (take n ts) (drop n ts) whole) (
        λ u i.
            let low : ticket ≤ u = p.above u i in
            elim (cases_lt ticket u) [
              | inl less ↦ less
              | inr le ↦ let is : u ≡ ticket = omega arith in absurd (absent (subst (λ (v : ℕ). In v ts) is (of-dropped u n ts i)))
            ],
        ascends-right (take n ts) (drop n ts) whole,
      )
      (λ t u i j. let low : t < ticket = p.below t i in elim j [
        | inl is ↦ subst (λ (v : ℕ). t < v) (sym is) low
        | inr later ↦ let up : ticket ≤ u = p.above u later in omega arith
      ])

  pub put-in : (t : ℕ) → In t (insert ts n ticket) ↔ (In t ts ⊎ (t ≡ ticket))
  put-in t = (
    λ i. elim (in-either t (take n ts) (ticket ∷ drop n ts) i) [
      | inl a ↦ inl (of-taken t n ts a)
      | inr (inl is) ↦ inr is
      | inr (inr b) ↦ inl (of-dropped t n ts b)
    ],
    λ k. elim k [
      | inl i ↦ elim (in-parted t n ts i) [
        | inl a ↦ in-left t (take n ts) (ticket ∷ drop n ts) a
        | inr b ↦ in-right t (take n ts) (ticket ∷ drop n ts) (inr b)
      ]
      | inr is ↦ in-right t (take n ts) (ticket ∷ drop n ts) (inl is)
    ],
  )

  module _ (inside : In ticket ts) where
    split-at : take n ts ++ ticket ∷ drop (suc n) ts ≡ ts
    split-at =
        let less = among-within ts ticket n p inside in
        let is = among-at ts ticket n h p less inside in
        ap (λ (k : List ℕ). take n ts ++ k) (ap (λ (t : ℕ). t ∷ drop (suc n) ts) (sym is) ∙ sym (drop-at n ts 0 less)) ∙ parts-join n ts

    parted : Ascends (take n ts ++ ticket ∷ drop (suc n) ts)
    parted = subst Ascends (sym split-at) h

    behind : Ascends (ticket ∷ drop (suc n) ts)
    behind = ascends-right (take n ts) (ticket ∷ drop (suc n) ts) parted

    pub gone-ascends : Ascends (remove ts n)
    gone-ascends =
        ascends-join (take n ts) (drop (suc n) ts) (ascends-left (take n ts) (ticket ∷ drop (suc n) ts) parted) behind.1
        (λ t u i j. ascends-across (take n ts) (ticket ∷ drop (suc n) ts) t u parted i (inr j))

    pub gone-in : (t : ℕ) → In t (remove ts n) ↔ (In t ts × (t ≡ ticket → ⊥))
    gone-in t = (
      λ i. elim (in-either t (take n ts) (drop (suc n) ts) i) [
        | inl a ↦ (of-taken t n ts a, λ is. let low : t < ticket = p.below t a in omega arith)
        | inr b ↦ (of-dropped t (suc n) ts b, λ is. let up : ticket < t = behind.0 t b in omega arith)
      ],
      λ k. elim (in-either t (take n ts) (ticket ∷ drop (suc n) ts) (subst (In t) (sym split-at) k.0)) [
        | inl a ↦ in-left t (take n ts) (drop (suc n) ts) a
        | inr (inl is) ↦ absurd (k.1 is)
        | inr (inr b) ↦ in-right t (take n ts) (drop (suc n) ts) b
      ],
    )

pub gone-absent : (ts : List ℕ) (ticket t : ℕ) → (In ticket ts → ⊥) → In t ts ↔ (In t ts × (t ≡ ticket → ⊥))
gone-absent ts ticket t absent = (λ i. (i, λ is. absent (subst (λ (v : ℕ). In v ts) is i)), λ k. k.0)

pub put-there : (ts : List ℕ) (ticket t : ℕ) → In ticket ts → In t ts ↔ (In t ts ⊎ (t ≡ ticket))
put-there ts ticket t inside = (λ i. inl i, λ k. elim k [ inl i ↦ i | inr is ↦ subst (λ (v : ℕ). In v ts) (sym is) inside ])

-- ---- the last, the first, and those between
pub none-less : (ts : List ℕ) (below t : ℕ) → Parts ts below 0 → In t ts → t < below → ⊥
none-less ts below t p i less = let up : below ≤ t = p.above t i in omega arith

pub last-less : (ts : List ℕ) (below n : ℕ) → Ascends ts → Parts ts below n → 0 < n → LastBelow ts below (get_or ts (n - 1) 0)
last-less ts below n h p some =
    let within : n ≤ length ts = p.within in
    let low : n - 1 < n = omega arith in
    let inside : n - 1 < length ts = omega arith in
    record {
      inside = at-in ts (n - 1) 0 inside;
      less = p.below (get_or ts (n - 1) 0) (taken-at n (n - 1) ts 0 low inside);
      last = λ u i less. elim (in-parted u n ts i) [
        | inl a ↦
            let k = at-taken u n ts 0 a in
            let le : k.0 ≤ n - 1 = (let l : k.0 < n = k.1 in omega arith) in
            subst (λ (v : ℕ). v ≤ get_or ts (n - 1) 0) k.2 (not-falling ts k.0 (n - 1) 0 h le inside)
        | inr b ↦ let up : below ≤ u = p.above u b in absurd (omega arith)
      ];
    }

pub first-least : (ts : List ℕ) (from n t : ℕ) → Ascends ts → Parts ts from n → n < length ts → t ≡ get_or ts n t → (u : ℕ) → In u ts → from ≤ u → t ≤ u
first-least ts from n t h p less is u i low = elim (in-parted u n ts i) [
  | inl a ↦ let up : u < from = p.below u a in absurd (omega arith)
  | inr b ↦ let k = at-dropped u n ts t b in
      let le : get_or ts n t ≤ get_or ts k.0 t = not-falling ts n k.0 t h k.1 k.2 in
      let one : get_or ts k.0 t ≡ u = k.3 in
      let here : t ≡ get_or ts n t = is in
      omega arith
]

pub first-less : (ts : List ℕ) (from below n t : ℕ) → Ascends ts → Parts ts from n → n < length ts → t ≡ get_or ts n t → t < below → FirstFrom ts from below t
first-less ts from below n t h p less is low = record {
  inside = subst (λ (v : ℕ). In v ts) (sym is) (at-in ts n t less);
  starts = subst (λ (v : ℕ). from ≤ v) (sym is) (p.above (get_or ts n t) (dropped-at n n ts t (omega arith) less));
  less = low;
  first = λ u i le _. first-least ts from n t h p less is u i le;
}

pub none-from : (ts : List ℕ) (from n t : ℕ) → Parts ts from n → length ts ≤ n → In t ts → from ≤ t → ⊥
none-from ts from n t p short i le = elim (in-parted t n ts i) [
  | inl a ↦ let up : t < from = p.below t a in omega arith
  | inr b ↦ absurd (subst (In t) (drop-short n ts short) b)
]

-- those behind the lesser ones, and of them the lesser ones
pub later-ascends : (ts : List ℕ) (n : ℕ) → Ascends ts → Ascends (drop n ts)
later-ascends ts n h = ascends-right (take n ts) (drop n ts) (subst Ascends (sym (parts-join n ts)) h)

pub between-in : (ts : List ℕ) (from below n m t : ℕ) → Parts ts from n → Parts (drop n ts) below m → In t (take m (drop n ts)) ↔ (In t ts × (from ≤ t) × (t < below))
between-in ts from below n m t p q = (
  λ i. let here = of-taken t m (drop n ts) i in (of-dropped t n ts here, p.above t here, q.below t i),
  λ k. elim (in-parted t n ts k.0) [
    | inl a ↦ let up : t < from = p.below t a in let low : from ≤ t = k.1 in absurd (omega arith)
    | inr b ↦ elim (in-parted t m (drop n ts) b) [
      | inl inside ↦ inside
      | inr far ↦ let up : below ≤ t = q.above t far in let low : t < below = k.2 in absurd (omega arith)
    ]
  ],
)

-- ---- rows of tickets
pub row-is : (rows : List (Vec ℕ Global)) (i : ℕ) (row : Vec ℕ Global) → i < length rows → row ≡ get_or rows i row → get_or (rows_of rows) i [] ≡ row.items
row-is [] i row less is = absurd (omega arith)
row-is (r ∷ rows) zero row less is = ap (λ (v : Vec ℕ Global). v.items) (sym is)
row-is (r ∷ rows) (suc i) row less is = let low : i < length rows = omega arith in row-is rows i row low is

pub row-past : (rows : List (Vec ℕ Global)) (i : ℕ) → length rows ≤ i → get_or (rows_of rows) i [] ≡ []
row-past [] i h = refl
row-past (r ∷ rows) zero h = absurd (omega arith)
row-past (r ∷ rows) (suc i) h = let low : length rows ≤ i = omega arith in row-past rows i low

pub row-set : (rows : List (Vec ℕ Global)) (i : ℕ) (row : Vec ℕ Global) → i < length rows → get_or (rows_of (set rows i row)) i [] ≡ row.items
row-set [] i row less = absurd (omega arith)
row-set (r ∷ rows) zero row less = refl
row-set (r ∷ rows) (suc i) row less = let low : i < length rows = omega arith in row-set rows i row low

pub row-other : (rows : List (Vec ℕ Global)) (i x : ℕ) (row : Vec ℕ Global) → x ≢ i → get_or (rows_of (set rows i row)) x [] ≡ get_or (rows_of rows) x []
row-other [] i x row differs = refl
row-other (r ∷ rows) zero zero row differs = absurd (differs refl)
row-other (r ∷ rows) zero (suc x) row differs = refl
row-other (r ∷ rows) (suc i) zero row differs = refl
row-other (r ∷ rows) (suc i) (suc x) row differs = row-other rows i x row (λ is. differs (ap suc is))

-- one more row without tickets
pub row-added : (rows : List (Vec ℕ Global)) (row : Vec ℕ Global) (x : ℕ) → row.items ≡ [] → get_or (rows_of (rows ++ row ∷ [])) x [] ≡ get_or (rows_of rows) x []
row-added [] row zero none = none
row-added [] row (suc x) none = refl
row-added (r ∷ rows) row zero none = refl
row-added (r ∷ rows) row (suc x) none = row-added rows row x none

module _ (rows : List (Vec ℕ Global)) (i : ℕ) (row : Vec ℕ Global) (less : i < length rows) (all : AllAscend rows) where
  pub row-ascends : row ≡ get_or rows i row → Ascends row.items
  row-ascends is = subst Ascends (row-is rows i row less is) (all i)

  module _ (after : Vec ℕ Global) where
    pub set-ascends : Ascends after.items → AllAscend (set rows i after)
    set-ascends h x = elim (cases_eq x i) [
      | inl is ↦ subst (λ (y : ℕ). Ascends (get_or (rows_of (set rows i after)) y [])) (sym is) (subst Ascends (sym (row-set rows i after less)) h)
      | inr differs ↦ subst Ascends (sym (row-other rows i x after differs)) (all x)
    ]

    module _ (is : row ≡ get_or rows i row) (ticket : ℕ) where
      pub use-put : ((t : ℕ) → In t after.items ↔ (In t row.items ⊎ (t ≡ ticket))) → (x t : ℕ) → Uses (rows_of (set rows i after)) x t ↔ (Uses (rows_of rows) x t ⊎ ((x ≡ i) × (t ≡ ticket)))
      unfolding Uses
      use-put put x t = elim (cases_eq x i) [
        | inl here ↦
            let now : get_or (rows_of (set rows i after)) x [] ≡ after.items = ap (λ (y : ℕ). get_or (rows_of (set rows i after)) y []) here ∙ row-set rows i after less in
            let was : get_or (rows_of rows) x [] ≡ row.items = ap (λ (y : ℕ). get_or (rows_of rows) y []) here ∙ row-is rows i row less is in (
              λ u. elim ((put t).0 (subst (In t) now u)) [ inl old ↦ inl (subst (In t) (sym was) old) | inr one ↦ inr (here, one) ],
              λ k. subst (In t) (sym now) ((put t).1 (elim k [ inl u ↦ inl (subst (In t) was u) | inr both ↦ inr both.1 ])),
            )
        | inr differs ↦
            let same = row-other rows i x after differs in
            (λ u. inl (subst (In t) same u), λ k. elim k [ inl u ↦ subst (In t) (sym same) u | inr both ↦ absurd (differs both.0) ])
      ]

      pub use-gone : ((t : ℕ) → In t after.items ↔ (In t row.items × (t ≡ ticket → ⊥))) → (x t : ℕ) → Uses (rows_of (set rows i after)) x t ↔ (Uses (rows_of rows) x t × (((x ≡ i) × (t ≡ ticket)) → ⊥))
      unfolding Uses
      use-gone gone x t = elim (cases_eq x i) [
        | inl here ↦
            let now : get_or (rows_of (set rows i after)) x [] ≡ after.items = ap (λ (y : ℕ). get_or (rows_of (set rows i after)) y []) here ∙ row-set rows i after less in
            let was : get_or (rows_of rows) x [] ≡ row.items = ap (λ (y : ℕ). get_or (rows_of rows) y []) here ∙ row-is rows i row less is in (
              λ u. let k = (gone t).0 (subst (In t) now u) in (subst (In t) (sym was) k.0, λ both. k.1 both.1),
              λ k. subst (In t) (sym now) ((gone t).1 (subst (In t) was k.0, λ one. k.1 (here, one))),
            )
        | inr differs ↦
            let same = row-other rows i x after differs in
            (λ u. (subst (In t) same u, λ both. differs both.0), λ k. subst (In t) (sym same) k.0)
      ]

      pub use-same : after.items ≡ row.items → (x t : ℕ) → Uses (rows_of (set rows i after)) x t ↔ Uses (rows_of rows) x t
      unfolding Uses
      use-same same x t = elim (cases_eq x i) [
        | inl here ↦
            let now : get_or (rows_of (set rows i after)) x [] ≡ get_or (rows_of rows) x [] =
            ap (λ (y : ℕ). get_or (rows_of (set rows i after)) y []) here ∙ row-set rows i after less ∙ same
            ∙ sym (row-is rows i row less is) ∙ ap (λ (y : ℕ). get_or (rows_of rows) y []) (sym here) in
            (λ u. subst (In t) now u, λ u. subst (In t) (sym now) u)
        | inr differs ↦ let other = row-other rows i x after differs in (λ u. subst (In t) other u, λ u. subst (In t) (sym other) u)
      ]

-- past the rows none is taken
pub use-past : (rows : List (Vec ℕ Global)) (i ticket x t : ℕ) → length rows ≤ i → Uses (rows_of rows) x t ↔ (Uses (rows_of rows) x t × (((x ≡ i) × (t ≡ ticket)) → ⊥))
unfolding Uses
use-past rows i ticket x t short = (
  λ u. (u, λ both. subst (In t) (row-past rows i short) (subst (λ (y : ℕ). In t (get_or (rows_of rows) y [])) both.0 u)),
  λ k. k.0,
)

-- the same list under another name
pub same-parts : (here ts : List ℕ) (bound n : ℕ) → here ≡ ts → Parts here bound n → Parts ts bound n
same-parts here ts bound n is p = subst (λ (k : List ℕ). Parts k bound n) is p

pub same-among : (here ts : List ℕ) (P : Type 0) (t : ℕ) → here ≡ ts → In t ts ↔ P → In t here ↔ P
same-among here ts P t is told = (λ i. told.0 (subst (In t) is i), λ k. subst (In t) (sym is) (told.1 k))

-- ---- what a row tells of its number
module _ (table : UseTable) (x : ℕ) (here : List ℕ) (is : here ≡ get_or table x []) where
  pub last-of : (r : Option ℕ) (below : ℕ) → MatchOption r ((t : ℕ) → In t here → t < below → ⊥) (LastBelow here below) →
      MatchOption r ((t : ℕ) → Uses table x t → t < below → ⊥) (LastUse table x below)
  unfolding Uses
  last-of None below none = λ t u less. none t (subst (In t) (sym is) u) less
  last-of (Some t) below found = record {
    uses = subst (In t) is found.inside;
    less = found.less;
    last = λ u used less. found.last u (subst (In u) (sym is) used) less;
  }

  pub first-of : (r : Option ℕ) (from below : ℕ) → MatchOption r ((t : ℕ) → In t here → from ≤ t → t < below → ⊥) (FirstFrom here from below) →
      MatchOption r ((t : ℕ) → Uses table x t → from ≤ t → t < below → ⊥) (FirstUse table x from below)
  unfolding Uses
  first-of None from below none = λ t u up less. none t (subst (In t) (sym is) u) up less
  first-of (Some t) from below found = record {
    uses = subst (In t) is found.inside;
    starts = found.starts;
    less = found.less;
    first = λ u used up less. found.first u (subst (In u) (sym is) used) up less;
  }

-- the same uses, under rows that hold the same
pub uses-alike : (old new : UseTable) → ((x : ℕ) → get_or new x [] ≡ get_or old x []) → (x t : ℕ) → Uses new x t ↔ Uses old x t
unfolding Uses
uses-alike old new same x t = (λ u. subst (In t) (same x) u, λ u. subst (In t) (sym (same x)) u)

pub put-alike : (old mid new : UseTable) (n ticket : ℕ) → ((x : ℕ) → get_or mid x [] ≡ get_or old x []) →
    ((x t : ℕ) → Uses new x t ↔ (Uses mid x t ⊎ ((x ≡ n) × (t ≡ ticket)))) → (x t : ℕ) → Uses new x t ↔ (Uses old x t ⊎ ((x ≡ n) × (t ≡ ticket)))
unfolding Uses
put-alike old mid new n ticket same put x t =
    let alike = uses-alike old mid same x t in (
      λ u. elim ((put x t).0 u) [ inl was ↦ inl (alike.0 was) | inr is ↦ inr is ],
      λ k. (put x t).1 (elim k [ inl was ↦ inl (alike.1 was) | inr is ↦ inr is ]),
    )

pub refused-alike : (old mid new : UseTable) → ((x : ℕ) → get_or mid x [] ≡ get_or old x []) → ((x t : ℕ) → Uses new x t ↔ Uses mid x t) → (x t : ℕ) → Uses new x t ↔ Uses old x t
unfolding Uses
refused-alike old mid new same put x t =
    let alike = uses-alike old mid same x t in
    (λ u. alike.0 ((put x t).0 u), λ u. (put x t).1 (alike.1 u))

-- ---- one more behind all
take-long : {X : Type 0} (n : ℕ) (xs : List X) → length xs ≤ n → take n xs ≡ xs
take-long zero [] h = refl
take-long zero (x ∷ xs) h = absurd (omega arith)
take-long (suc n) [] h = refl
take-long (suc n) (x ∷ xs) h = let less : length xs ≤ n = omega arith in ap (λ k. x ∷ k) (take-long n xs less)

pub insert-last : {X : Type 0} (xs : List X) (n : ℕ) (x : X) → n ≡ length xs → xs ++ x ∷ [] ≡ insert xs n x
insert-last xs n x is =
    ap (λ k. k ++ x ∷ []) (sym (take-long n xs (omega arith))) ∙ ap (λ k. take n xs ++ x ∷ k) (sym (drop-short n xs (omega arith)))
