-- The counts of blocks: what they say of places, and what an edit of one place leaves.
use Rattle.std.proofs.Common.{◌≡◌, ◌≢◌, Bool, cond, filter, ℕ, zero, suc, ◌+◌, ◌-◌, ◌*◌, ◌/◌, ◌<◌, ◌≤◌, List, [], ◌∷◌, ◌++◌, length, Option, Some, None, refl, sym, ap, subst, ◌∙◌, inl, inr, arith, length-append}
use Rattle.std.specs.Prelude.{slice_get, slice_set, is_some, ◌⊎◌}
use Rattle.std.proofs.lemmas.Bool.{cases_lt, cases_eq}
use Rattle.indexmap.specs.IndexMap.{set_value_at}
use Rattle.slots.specs.Places.{Places, put_before, filled, rank, RiseFrom, Counted}
use Rattle.slots.proofs.public.PlaceLaws.{none-some, some-is, add_here, rank-whole, rank-rises, rank-span, rank-next, rank-full, rank-changed, rank-taken-before, rank-taken-behind, rank-pushed, rank-past, length-edited}

length-written : (ns : List ℕ) (i v : ℕ) → length (slice_set ns i v) ≡ length ns
length-written [] i v = refl
length-written (n ∷ ns) zero v = refl
length-written (n ∷ ns) (suc i) v = ap suc (length-written ns i v)

pub written-here : (ns : List ℕ) (i v m n : ℕ) → slice_get ns i ≡ Some n → slice_get (slice_set ns i v) i ≡ Some m → m ≡ v
written-here [] i v m n h e = none-some n h
written-here (k ∷ ns) zero v m n h e = sym (some-is v m e)
written-here (k ∷ ns) (suc i) v m n h e = written-here ns i v m n h e

pub written-other : (ns : List ℕ) (i j v : ℕ) → j ≢ i → slice_get (slice_set ns i v) j ≡ slice_get ns j
written-other [] i j v h = refl
written-other (n ∷ ns) zero zero v h = absurd (h refl)
written-other (n ∷ ns) zero (suc j) v h = refl
written-other (n ∷ ns) (suc i) zero v h = refl
written-other (n ∷ ns) (suc i) (suc j) v h = written-other ns i j v (λ is. h (ap suc is))

-- where items are still to come, blocks are
pub block-left : {X : Type 0} (ps : Places X) (counts : List ℕ) (b : ℕ) → Counted ps counts → rank ps (64 * b) < length (filled ps) → b < length counts
block-left ps counts b c h = elim (cases_lt b (length counts)) [
  | inl less ↦ less
  | inr high ↦
      let all = c.all in
      let past : length ps ≤ 64 * b = omega arith in
      let whole = rank-whole ps (64 * b) past in
      absurd (omega arith)
]

-- another item at a place
pub counted-changed : {X : Type 0} (ps : Places X) (counts : List ℕ) (i t : ℕ) (x y : X) → slice_get ps i ≡ Some (t, Some x) → Counted ps counts →
    Counted (set_value_at ps i (Some y)) counts
counted-changed ps counts i t x y h c = record {
  blocks = λ b n at.
      rank-changed ps i t x y (64 * b + 64) h ∙ c.blocks b n at ∙ ap (λ (k : ℕ). k + n) (sym (rank-changed ps i t x y (64 * b) h));
  all = let size = length-edited ps i (Some y) in let all = c.all in omega arith;
}

-- an item less
pub counted-taken : {X : Type 0} (ps : Places X) (counts : List ℕ) (i t : ℕ) (x : X) (n : ℕ) → slice_get ps i ≡ Some (t, Some x) → slice_get counts (i / 64) ≡ Some n →
    Counted ps counts → Counted (set_value_at ps i None) (slice_set counts (i / 64) (n - 1))
counted-taken ps counts i t x n h at c = record {
  blocks = λ b m is. elim (cases_eq b (i / 64)) [
    | inl same ↦
        let value : m ≡ n - 1 = written-here counts (i / 64) (n - 1) m n at (subst (λ (k : ℕ). slice_get (slice_set counts (i / 64) (n - 1)) k ≡ Some m) same is) in
        let told = c.blocks b n (subst (λ (k : ℕ). slice_get counts k ≡ Some n) (sym same) at) in
        let low : 64 * b ≤ i = omega arith in
        let high : i < 64 * b + 64 = omega arith in
        let before = rank-taken-before ps i (64 * b) low in
        let behind = rank-taken-behind ps i t x (64 * b + 64) h high in
        let up = rank-rises (set_value_at ps i None) (64 * b) (64 * b + 64) (omega arith) in
        omega arith
    | inr other ↦
        let told = c.blocks b m (sym (written-other counts (i / 64) b (n - 1) other) ∙ is) in
        elim (cases_lt b (i / 64)) [
          | inl less ↦
              let one = rank-taken-before ps i (64 * b) (omega arith) in
              let two = rank-taken-before ps i (64 * b + 64) (omega arith) in
              omega arith
          | inr more ↦
              let past : i / 64 < b = strictly (i / 64) b more other in
              let one = rank-taken-behind ps i t x (64 * b) h (omega arith) in
              let two = rank-taken-behind ps i t x (64 * b + 64) h (omega arith) in
              omega arith
        ]
  ];
  all = let size = length-edited ps i None in let all = c.all in let told = length-written counts (i / 64) (n - 1) in omega arith;
}
  where
    strictly : (a b : ℕ) → a ≤ b → b ≢ a → a < b
    strictly a b le other = elim (cases_eq b a) [ inl is ↦ absurd (other is) | inr differs ↦ omega arith ]

-- an item more
pub counted-pushed : {X : Type 0} (ps : Places X) (counts : List ℕ) (t : ℕ) (x : X) (n : ℕ) → slice_get counts (length ps / 64) ≡ Some n → length ps < 64 * length counts →
    Counted ps counts → Counted (ps ++ (t, Some x) ∷ []) (slice_set counts (length ps / 64) (n + 1))
counted-pushed ps counts t x n at room c = record {
  blocks = λ b m is.
      let all = rank-whole ps in
      elim (cases_eq b (length ps / 64)) [
        | inl same ↦
            let value : m ≡ n + 1 = written-here counts (length ps / 64) (n + 1) m n at (subst (λ (k : ℕ). slice_get (slice_set counts (length ps / 64) (n + 1)) k ≡ Some m) same is) in
            let told = c.blocks b n (subst (λ (k : ℕ). slice_get counts k ≡ Some n) (sym same) at) in
            let low : 64 * b ≤ length ps = omega arith in
            let high : length ps < 64 * b + 64 = omega arith in
            let before = rank-pushed ps (t, Some x) (64 * b) low in
            let behind : rank (ps ++ (t, Some x) ∷ []) (64 * b + 64) ≡ suc (length (filled ps)) = rank-past ps (t, Some x) (64 * b + 64) high in
            let whole = all (64 * b + 64) (omega arith) in
            omega arith
        | inr other ↦
            let told = c.blocks b m (sym (written-other counts (length ps / 64) b (n + 1) other) ∙ is) in
            elim (cases_lt b (length ps / 64)) [
              | inl less ↦
                  let one = rank-pushed ps (t, Some x) (64 * b) (omega arith) in
                  let two = rank-pushed ps (t, Some x) (64 * b + 64) (omega arith) in
                  omega arith
              | inr more ↦
                  let past : length ps / 64 < b = strictly (length ps / 64) b more other in
                  let one : rank (ps ++ (t, Some x) ∷ []) (64 * b) ≡ suc (length (filled ps)) = rank-past ps (t, Some x) (64 * b) (omega arith) in
                  let two : rank (ps ++ (t, Some x) ∷ []) (64 * b + 64) ≡ suc (length (filled ps)) = rank-past ps (t, Some x) (64 * b + 64) (omega arith) in
                  let three = all (64 * b) (omega arith) in
                  let four = all (64 * b + 64) (omega arith) in
                  omega arith
            ]
      ];
  all = let size = length-append ps ((t, Some x) ∷ []) in let told = length-written counts (length ps / 64) (n + 1) in omega arith;
}
  where
    strictly : (a b : ℕ) → a ≤ b → b ≢ a → a < b
    strictly a b le other = elim (cases_eq b a) [ inl is ↦ absurd (other is) | inr differs ↦ omega arith ]

-- an empty place less at the end
pub rank-cut : {X : Type 0} (ps : Places X) (t j : ℕ) → rank (ps ++ (t, None) ∷ []) j ≡ rank ps j
rank-cut ps t j = elim (cases_lt (length ps) j) [
  | inl past ↦ rank-past ps (t, None) j past ∙ sym (rank-whole ps j (omega arith))
  | inr within ↦ rank-pushed ps (t, None) j within
]

pub counted-cut : {X : Type 0} (ps : Places X) (counts : List ℕ) (t : ℕ) → Counted (ps ++ (t, None) ∷ []) counts → Counted ps counts
counted-cut ps counts t c = record {
  blocks = λ b n at. sym (rank-cut ps t (64 * b + 64)) ∙ c.blocks b n at ∙ ap (λ (k : ℕ). k + n) (rank-cut ps t (64 * b));
  all = let size = length-append ps ((t, None) ∷ []) in let all = c.all in omega arith;
}

pub filled-cut : {X : Type 0} (ps : Places X) (t : ℕ) → filled (ps ++ (t, None) ∷ []) ≡ filled ps
filled-cut [] t = refl
filled-cut (p ∷ ps) t = ap (put_before p.0 p.1) (filled-cut ps t)

-- one more block, of no places yet
pub counted-wider : {X : Type 0} (ps : Places X) (counts more : List ℕ) → more ≡ counts ++ 0 ∷ [] → Counted ps counts → Counted ps more
counted-wider ps counts more is c = subst (λ (k : List ℕ). Counted ps k) (sym is) record {
  blocks = λ b n at. elim (cases_lt b (length counts)) [
    | inl less ↦ c.blocks b n (sym (left counts 0 b less) ∙ at)
    | inr high ↦
        let all = c.all in
        let one = rank-whole ps (64 * b) (omega arith) in
        let two = rank-whole ps (64 * b + 64) (omega arith) in
        let none : n ≡ 0 = zero-there counts b n high at in
        omega arith
  ];
  all = let size = length-append counts (0 ∷ []) in let all = c.all in omega arith;
}
  where
    left : (ns : List ℕ) (v i : ℕ) → i < length ns → slice_get (ns ++ v ∷ []) i ≡ slice_get ns i
    left [] v i h = absurd (omega arith)
    left (n ∷ ns) v zero h = refl
    left (n ∷ ns) v (suc i) h = let less : i < length ns = omega arith in left ns v i less

    zero-there : (ns : List ℕ) (i n : ℕ) → length ns ≤ i → slice_get (ns ++ 0 ∷ []) i ≡ Some n → n ≡ 0
    zero-there [] zero n h e = sym (some-is 0 n e)
    zero-there [] (suc i) n h e = none-some n e
    zero-there (m ∷ ns) zero n h e = absurd (omega arith)
    zero-there (m ∷ ns) (suc i) n h e = let less : length ns ≤ i = omega arith in zero-there ns i n less e

-- ---- no place is empty any more
abbrev pub is_filled : {X : Type 0} → ℕ × Option X → Bool
is_filled p = is_some p.1

pub filled-kept : {X : Type 0} (ps : Places X) → filled (filter is_filled ps) ≡ filled ps
filled-kept [] = refl
filled-kept {X = X} (p ∷ ps) = by p.0 p.1 (filled-kept ps)
  where
    by : (t : ℕ) (o : Option X) → filled (filter is_filled ps) ≡ filled ps → filled (cond (is_some o) ((t, o) ∷ filter is_filled ps) (filter is_filled ps)) ≡ put_before t o (filled ps)
    by t None rest = rest
    by t (Some x) rest = ap (λ k. (t, x) ∷ k) rest

pub full-kept : {X : Type 0} (ps : Places X) → length (filled (filter is_filled ps)) ≡ length (filter is_filled ps)
full-kept [] = refl
full-kept {X = X} (p ∷ ps) = by p.0 p.1 (full-kept ps)
  where
    by : (t : ℕ) (o : Option X) → length (filled (filter is_filled ps)) ≡ length (filter is_filled ps) →
        length (filled (cond (is_some o) ((t, o) ∷ filter is_filled ps) (filter is_filled ps))) ≡ length (cond (is_some o) ((t, o) ∷ filter is_filled ps) (filter is_filled ps))
    by t None rest = rest
    by t (Some x) rest = ap suc rest

rise-lower : {X : Type 0} (low high : ℕ) (ps : Places X) → low ≤ high → RiseFrom high ps → RiseFrom low ps
rise-lower low high [] h r = tt
rise-lower low high (p ∷ ps) h r = let first = r.0 in (omega arith, r.1)

pub rise-kept : {X : Type 0} (low : ℕ) (ps : Places X) → RiseFrom low ps → RiseFrom low (filter is_filled ps)
rise-kept low [] r = tt
rise-kept {X = X} low (p ∷ ps) r = by p.0 p.1 r.0 (rise-kept (suc p.0) ps r.1)
  where
    by : (t : ℕ) (o : Option X) → low ≤ t → RiseFrom (suc t) (filter is_filled ps) → RiseFrom low (cond (is_some o) ((t, o) ∷ filter is_filled ps) (filter is_filled ps))
    by t None first rest = rise-lower low (suc t) (filter is_filled ps) (omega arith) rest
    by t (Some x) first rest = (first, rest)

pub none-empty : {X : Type 0} (ps : Places X) (i t : ℕ) → slice_get (filter is_filled ps) i ≡ Some (t, None) → ⊥
none-empty [] i t h = none-some (t, None) h
none-empty {X = X} (p ∷ ps) i t h = by p.0 p.1 i h (λ j e. none-empty ps j t e)
  where
    by : (u : ℕ) (o : Option X) (i : ℕ) → slice_get (cond (is_some o) ((u, o) ∷ filter is_filled ps) (filter is_filled ps)) i ≡ Some (t, None) →
        ((j : ℕ) → slice_get (filter is_filled ps) j ≡ Some (t, None) → ⊥) → ⊥
    by u None i e rest = rest i e
    by u (Some x) zero e rest = none-some x (sym (ap (λ (q : ℕ × Option X). q.1) (some-is (u, Some x) (t, None) e)))
    by u (Some x) (suc i) e rest = rest i e

pub counted-full : {X : Type 0} (ps : Places X) (counts : List ℕ) → length (filled ps) ≡ length ps → length ps ≤ 64 * length counts →
    ((b n : ℕ) → slice_get counts b ≡ Some n → ((64 * b + 64 ≤ length ps) × (n ≡ 64)) ⊎ ((length ps < 64 * b + 64) × (n ≡ length ps - 64 * b))) → Counted ps counts
counted-full ps counts full all told = record {
  blocks = λ b n at. elim (told b n at) [
    | inl whole ↦
        let fits = whole.0 in
        let value = whole.1 in
        let one = rank-full ps (64 * b) full (omega arith) in
        let two = rank-full ps (64 * b + 64) full (omega arith) in
        omega arith
    | inr part ↦
        let fits = part.0 in
        let value = part.1 in
        let two = rank-whole ps (64 * b + 64) (omega arith) in
        elim (cases_lt (length ps) (64 * b)) [
          | inl past ↦ let one = rank-whole ps (64 * b) (omega arith) in omega arith
          | inr within ↦ let one = rank-full ps (64 * b) full within in omega arith
        ]
  ];
  all = all;
}

-- what a place says where no place is empty
pub full-at : {X : Type 0} (ps : Places X) (i : ℕ) (p : ℕ × Option X) → length (filled ps) ≡ length ps → slice_get ps i ≡ Some p → i < length ps → (x : X) × (p.1 ≡ Some x)
full-at {X = X} ps i p full at less =
    let one = rank-full ps i full (omega arith) in
    let two = rank-full ps (suc i) full (omega arith) in
    by p.1 (rank-next ps i p at) one two
  where
    by : (o : Option X) → rank ps (suc i) ≡ add_here o (rank ps i) → rank ps i ≡ i → rank ps (suc i) ≡ suc i → (x : X) × (o ≡ Some x)
    by None next a b = absurd (omega arith)
    by (Some x) next a b = (x, refl)

-- a block that has an item is told so
pub block-some : {X : Type 0} (ps : Places X) (counts : List ℕ) (i t : ℕ) (x : X) (n : ℕ) → slice_get ps i ≡ Some (t, Some x) → slice_get counts (i / 64) ≡ Some n →
    Counted ps counts → 1 ≤ n
block-some ps counts i t x n h at c =
    let told = c.blocks (i / 64) n at in
    let next : rank ps (suc i) ≡ suc (rank ps i) = rank-next ps i (t, Some x) h in
    let low = rank-rises ps (64 * (i / 64)) i (omega arith) in
    let high = rank-rises ps (suc i) (64 * (i / 64) + 64) (omega arith) in
    omega arith

-- and no more than it has places
pub block-most : {X : Type 0} (ps : Places X) (counts : List ℕ) (b n : ℕ) → slice_get counts b ≡ Some n → Counted ps counts → n ≤ 64
block-most ps counts b n at c =
    let told = c.blocks b n at in
    let span = rank-span ps (64 * b) 64 in
    omega arith
