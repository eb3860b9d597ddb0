-- For how many an action waits, as marks are taken away.
use Rattle.std.proofs.Common.{◌≡◌, ◌⊎◌, inl, inr, ℕ, zero, suc, ◌+◌, ◌<◌, ◌≤◌, ◌==◌, List, [], ◌∷◌, ◌++◌, length, Bool, true, false, ◌&&◌, ◌||◌, Some, slice_get, slice_set, slice_index, slice_index_or, refl, sym, ◌∙◌, ap, ap₂, subst, arith, true≢false, get_or-set_other, get_or-set_same}
use Rattle.std.proofs.lemmas.Bool.{and_from, cases_Bool, cases_eq, cases_lt, eqb-true, eq-eqb}
use Rattle.std.proofs.lemmas.List.{length-append, length-set}
use Rattle.runs.proofs.public.Lists.{in-left, in-right}
use Rattle.syntax.specs.Lists.{In}
use Rattle.dependence.specs.LastEvents.{Uses, LastUse}
use Rattle.dependence.specs.declared.uses.UseTable.{UseTable}
use Rattle.rings.specs.internal.Loosened.{is_marked}
use Rattle.rings.specs.internal.Tally.{Adds, Counted, Loosens, Lowered, Moved, OneMore, Puts, counts_for, edge, has, one, tally, times, total}

-- ---- marks at their indexes
pub bool-same : (l : List Bool) (i : ℕ) (v : Bool) → i < length l → slice_get (slice_set l i v) i ≡ Some v
bool-same [] i v h = absurd (omega (arith, h))
bool-same (x ∷ l) zero v h = refl
bool-same (x ∷ l) (suc i) v h = bool-same l i v (omega (arith, h))

pub bool-other : (l : List Bool) (i j : ℕ) (v : Bool) → (i ≡ j → ⊥) → slice_get (slice_set l i v) j ≡ slice_get l j
bool-other [] i j v h = refl
bool-other (x ∷ l) zero zero v h = absurd (h refl)
bool-other (x ∷ l) zero (suc j) v h = refl
bool-other (x ∷ l) (suc i) zero v h = refl
bool-other (x ∷ l) (suc i) (suc j) v h = bool-other l i j v (λ e. h (ap suc e))

-- ---- rows, as tests
or-parts : (a b : Bool) → (a || b) ≡ true → (a ≡ true) ⊎ (b ≡ true)
or-parts true b h = inl refl
or-parts false b h = inr h

or-left : (a b : Bool) → a ≡ true → (a || b) ≡ true
or-left true b h = refl
or-left false b h = cc

or-right : (a b : Bool) → b ≡ true → (a || b) ≡ true
or-right true b h = refl
or-right false b h = h

has-in : (xs : List ℕ) (i : ℕ) → has xs i ≡ true → In i xs
has-in [] i h = cc
has-in (x ∷ xs) i h = elim (or-parts (i == x) (has xs i) h) [ inl here ↦ inl (eqb-true i x here) | inr later ↦ inr (has-in xs i later) ]

in-has : (xs : List ℕ) (i : ℕ) → In i xs → has xs i ≡ true
in-has [] i h = absurd h
in-has (x ∷ xs) i (inl is) = or-left (i == x) (has xs i) (eq-eqb i x is)
in-has (x ∷ xs) i (inr h) = or-right (i == x) (has xs i) (in-has xs i h)

pub edge-used : (table : UseTable) (j i : ℕ) → edge table j i ≡ true → Uses table j i
unfolding Uses
edge-used table j i h = has-in (slice_index_or table j []) i h

pub used-edge : (table : UseTable) (j i : ℕ) → Uses table j i → edge table j i ≡ true
unfolding Uses
used-edge table j i u = in-has (slice_index_or table j []) i u

pub no-edge : (table : UseTable) (j i : ℕ) → edge table j i ≡ false → Uses table j i → ⊥
no-edge table j i off u = true≢false (sym (used-edge table j i u) ∙ off)

-- ---- how many pass a test
one-zero : (b : Bool) → one b ≡ 0 → b ≡ false
one-zero true h = absurd (omega (arith, h))
one-zero false h = refl

pub tally-zero : (f : ℕ → Bool) (n : ℕ) → tally f n ≡ 0 → (j : ℕ) → j < n → f j ≡ false
tally-zero f zero h j less = absurd (omega (arith, less))
tally-zero f (suc n) h j less =
    let both : tally f n + one (f n) ≡ 0 = h in
    elim (cases_eq j n) [
      | inl same ↦ ap f same ∙ one-zero (f n) (omega (arith, both))
      | inr apart ↦ tally-zero f n (omega (arith, both)) j (omega (arith, less, apart))
    ]

pub tally-some : (f : ℕ → Bool) (n : ℕ) → (tally f n ≡ 0 → ⊥) → (j : ℕ) × (j < n) × (f j ≡ true)
tally-some f zero h = absurd (h refl)
tally-some f (suc n) h = elim (cases_Bool (f n)) [
  | inl on ↦ (n, omega arith, on)
  | inr off ↦
      let last : one (f n) ≡ 0 = ap one off in
      let rest = tally-some f n (λ z. h (let sum : tally f n + one (f n) ≡ 0 = omega (arith, z, last) in sum)) in
      let less : rest.0 < n = rest.1 in
      (rest.0, omega (arith, less), rest.2)
]

pub tally-same : (f g : ℕ → Bool) (n : ℕ) → ((j : ℕ) → j < n → f j ≡ g j) → tally f n ≡ tally g n
tally-same f g zero h = refl
tally-same f g (suc n) h =
    ap₂ (λ (a b : ℕ). a + b) (tally-same f g n (λ j less. h j (omega (arith, less)))) (ap one (h n (omega arith)))

tally-less : (f g : ℕ → Bool) (n k : ℕ) → k < n → f k ≡ false → ((j : ℕ) → (j ≡ k → ⊥) → f j ≡ g j) → tally g n ≡ tally f n + one (g k)
tally-less f g zero k less off same = absurd (omega (arith, less))
tally-less f g (suc n) k less off same = elim (cases_eq k n) [
  | inl is ↦
      let before : tally f n ≡ tally g n = tally-same f g n (λ j below. same j (λ e. omega (arith, e, is, below))) in
      let last : one (f n) ≡ 0 = ap (λ (i : ℕ). one (f i)) (sym is) ∙ ap one off in
      let here : one (g k) ≡ one (g n) = ap (λ (i : ℕ). one (g i)) is in
      omega (arith, before, last, here)
  | inr apart ↦
      let rest : tally g n ≡ tally f n + one (g k) = tally-less f g n k (omega (arith, less, apart)) off same in
      let last : one (f n) ≡ one (g n) = ap one (same n (λ e. apart (sym e))) in
      omega (arith, rest, last)
]

-- ---- one more
pub one-more : (index value : ℕ) (less more : List ℕ) → index < length less → value ≡ slice_index less index + 1 → more ≡ slice_set less index value → OneMore index less more
one-more index value less more within is set = record {
  here = ap (λ (l : List ℕ). slice_index l index) set ∙ get_or-set_same less index value 0 within ∙ is;
  others = λ i apart. ap (λ (l : List ℕ). slice_index l i) set ∙ get_or-set_other less index i value 0 apart;
  size = ap (λ (l : List ℕ). length l) set ∙ length-set less index value;
}

pub one-less : (index value : ℕ) (more less : List ℕ) → index < length more → slice_index more index ≡ value + 1 → less ≡ slice_set more index value → OneMore index less more
one-less index value more less within is set = record {
  here = is ∙ ap (λ (k : ℕ). k + 1) (sym here);
  others = λ i apart. sym (ap (λ (l : List ℕ). slice_index l i) set ∙ get_or-set_other more index i value 0 apart);
  size = sym (ap (λ (l : List ℕ). length l) set ∙ length-set more index value);
}
  where
    here : slice_index less index ≡ value
    here = ap (λ (l : List ℕ). slice_index l index) set ∙ get_or-set_same more index value 0 within

total-same : (xs ys : List ℕ) → length xs ≡ length ys → ((i : ℕ) → slice_index xs i ≡ slice_index ys i) → total xs ≡ total ys
total-same [] [] size h = refl
total-same [] (y ∷ ys) size h = absurd (omega (arith, size))
total-same (x ∷ xs) [] size h = absurd (omega (arith, size))
total-same (x ∷ xs) (y ∷ ys) size h = ap₂ (λ (a b : ℕ). a + b) (h 0) (total-same xs ys (omega (arith, size)) (λ i. h (suc i)))

pub total-more : (index : ℕ) (less more : List ℕ) → index < length less → OneMore index less more → total more ≡ total less + 1
total-more index [] more within h = absurd (omega (arith, within))
total-more index (x ∷ less) [] within h = let size : 0 ≡ length (x ∷ less) = h.size in absurd (omega (arith, size))
total-more zero (x ∷ less) (y ∷ more) within h =
    let here : y ≡ x + 1 = h.here in
    let size : length (y ∷ more) ≡ length (x ∷ less) = h.size in
    let rest : total more ≡ total less = total-same more less (omega (arith, size)) (λ i. h.others (suc i) (λ e. omega (arith, e))) in
    omega (arith, here, rest)
total-more (suc index) (x ∷ less) (y ∷ more) within h =
    let here : y ≡ x = h.others 0 (λ e. omega (arith, e)) in
    let size : length (y ∷ more) ≡ length (x ∷ less) = h.size in
    let rest : total more ≡ total less + 1 =
    total-more index less more (omega (arith, within))
    (record { here = h.here; others = λ i apart. h.others (suc i) (λ e. apart (omega (arith, e))); size = omega (arith, size) }) in
    omega (arith, here, rest)

-- ---- those in a row, from a number on
pub record MovedFrom (edges : UseTable) (j below : ℕ) (more less : List ℕ) : Type 0 where
  pub moved : (i : ℕ) → below ≤ i → Uses edges j i → slice_index more i ≡ slice_index less i + 1
  pub others : (i : ℕ) → (below ≤ i → Uses edges j i → ⊥) → slice_index more i ≡ slice_index less i
  pub size : length more ≡ length less

pub moved-none : (edges : UseTable) (j below : ℕ) (xs : List ℕ) → below ≡ length xs → ((i : ℕ) → Uses edges j i → i < length xs) → MovedFrom edges j below xs xs
moved-none edges j below xs all within = record {
  moved = λ i up u. let less : i < length xs = within i u in absurd (omega (arith, less, up, all));
  others = λ i none. refl;
  size = refl;
}

module _ (edges : UseTable) (j row below found : ℕ) (same : row ≡ j) (last : LastUse edges row below found) where
  used : Uses edges j found
  used = subst (λ (k : ℕ). Uses edges k found) same last.uses

  under : found < below
  under = last.less

  from-below : (i : ℕ) → (i ≡ found → ⊥) → found ≤ i → Uses edges j i → below ≤ i
  from-below i apart up u = elim (cases_lt i below) [
    | inl less ↦
        let down : i ≤ found = last.last i (subst (λ (k : ℕ). Uses edges k i) (sym same) u) less in
        absurd (apart (omega (arith, up, down)))
    | inr more ↦ more
  ]

  not-found : (i : ℕ) → (found ≤ i → Uses edges j i → ⊥) → i ≡ found → ⊥
  not-found i none e = none (omega (arith, e)) (subst (λ (k : ℕ). Uses edges j k) (sym e) used)

  not-yet : (i : ℕ) → (found ≤ i → Uses edges j i → ⊥) → below ≤ i → Uses edges j i → ⊥
  not-yet i none up u = none (omega (arith, up, under)) u

  not-below : (i : ℕ) → i ≡ found → below ≤ i → Uses edges j i → ⊥
  not-below i e up u = omega (arith, e, up, under)

  -- counted once more
  pub raised : (old mid new : List ℕ) → MovedFrom edges j below mid old → OneMore found mid new → MovedFrom edges j found new old
  raised old mid new h o = record {
    moved = λ i up u. elim (cases_eq i found) [
      | inl e ↦ ap (slice_index new) e ∙ o.here ∙ ap (λ (k : ℕ). k + 1) (ap (slice_index mid) (sym e) ∙ h.others i (not-below i e))
      | inr apart ↦ o.others i apart ∙ h.moved i (from-below i apart up u) u
    ];
    others = λ i none. o.others i (not-found i none) ∙ h.others i (not-yet i none);
    size = o.size ∙ h.size;
  }

  -- counted once less
  pub lowered : (old mid new : List ℕ) → MovedFrom edges j below old mid → OneMore found new mid → MovedFrom edges j found old new
  lowered old mid new h o = record {
    moved = λ i up u. elim (cases_eq i found) [
      | inl e ↦ h.others i (not-below i e) ∙ ap (slice_index mid) e ∙ o.here ∙ ap (λ (k : ℕ). slice_index new k + 1) (sym e)
      | inr apart ↦ h.moved i (from-below i apart up u) u ∙ ap (λ (k : ℕ). k + 1) (o.others i apart)
    ];
    others = λ i none. h.others i (not-yet i none) ∙ o.others i (not-found i none);
    size = h.size ∙ o.size;
  }

  pub still-there : (old mid : List ℕ) → MovedFrom edges j below old mid → slice_index mid found ≡ slice_index old found
  still-there old mid h = sym (h.others found (not-below found refl))

pub moved-all : (edges : UseTable) (j row below : ℕ) (more less : List ℕ) → row ≡ j → ((i : ℕ) → Uses edges row i → i < below → ⊥) → MovedFrom edges j below more less → Moved edges j more less
moved-all edges j row below more less same none h = record {
  moved = λ i u. h.moved i (from i u) u;
  others = λ i no. h.others i (λ up u. no u);
  size = h.size;
}
  where
    from : (i : ℕ) → Uses edges j i → below ≤ i
    from i u = elim (cases_lt i below) [
      | inl under ↦ absurd (none i (subst (λ (k : ℕ). Uses edges k i) (sym same) u) under)
      | inr over ↦ over
    ]

-- ---- what is put into the list of what is looked at later
-- those that wait in a row, from a number on
pub record AddsFrom (waiters : UseTable) (limit g below : ℕ) (todo new : List ℕ) : Type 0 where
  pub kept : (i : ℕ) → In i todo → In i new
  pub added : (i : ℕ) → below ≤ i → Uses waiters g i → i < limit → In i new
  pub size : length new + below ≤ length todo + limit

pub adds-none : (waiters : UseTable) (limit g : ℕ) (todo : List ℕ) → AddsFrom waiters limit g limit todo todo
adds-none waiters limit g todo = record {
  kept = λ i h. h;
  added = λ i up u less. absurd (omega (arith, up, less));
  size = omega arith;
}

pub adds-more : (waiters : UseTable) (limit g row below found : ℕ) (todo mid new : List ℕ) → row ≡ g → LastUse waiters row below found → new ≡ mid ++ found ∷ []
    → AddsFrom waiters limit g below todo mid → AddsFrom waiters limit g found todo new
adds-more waiters limit g row below found todo mid new same last is h =
    let down : found < below = last.less in
    let so_far : length mid + below ≤ length todo + limit = h.size in
    let size : length new ≡ length mid + 1 = ap (λ (l : List ℕ). length l) is ∙ length-append mid (found ∷ []) in
    record {
      kept = λ i k. put i (h.kept i k);
      added = λ i up u less. elim (cases_eq i found) [
        | inl e ↦ subst (λ (l : List ℕ). In i l) (sym is) (in-right i mid (found ∷ []) (inl e))
        | inr apart ↦ put i (h.added i (from-below waiters g row below found same last i apart up u) u less)
      ];
      size = omega (arith, down, so_far, size);
    }
  where
    put : (i : ℕ) → In i mid → In i new
    put i k = subst (λ (l : List ℕ). In i l) (sym is) (in-left i mid (found ∷ []) k)

pub adds-all : (waiters : UseTable) (limit g row below : ℕ) (todo new : List ℕ) → row ≡ g → ((i : ℕ) → Uses waiters row i → i < below → ⊥)
    → AddsFrom waiters limit g below todo new → Adds waiters limit g todo new
adds-all waiters limit g row below todo new same none h =
    let so_far : length new + below ≤ length todo + limit = h.size in
    record {
      kept = h.kept;
      added = λ i u less. elim (cases_lt i below) [
        | inl under ↦ absurd (none i (subst (λ (k : ℕ). Uses waiters k i) (sym same) u) under)
        | inr over ↦ h.added i over u less
      ];
      size = omega (arith, so_far);
    }

pub puts-none : (waiters : UseTable) (limit : ℕ) (counts todo : List ℕ) → Puts waiters limit counts counts todo todo
puts-none waiters limit counts todo = record { kept = λ i h. h; put = λ i h. inl h; less = omega arith }

pub puts-both : (waiters : UseTable) (limit : ℕ) (a b c t u v : List ℕ) → Puts waiters limit a b t u → Puts waiters limit b c u v → Puts waiters limit a c t v
puts-both waiters limit a b c t u v h g =
    let first : times (total b) limit + length u ≤ times (total a) limit + length t = h.less in
    let second : times (total c) limit + length v ≤ times (total b) limit + length u = g.less in
    record {
      kept = λ i k. g.kept i (h.kept i k);
      put = λ n z. elim (g.put n z) [ inl y ↦ elim (h.put n y) [ inl x ↦ inl x | inr k ↦ inr (λ i w l. g.kept i (k i w l)) ] | inr k ↦ inr k ];
      less = omega (arith, first, second);
    }

one-time : (n m limit : ℕ) → m ≡ n + 1 → times m limit ≡ times n limit + limit
one-time n m limit is = let next : m ≡ suc n = omega (arith, is) in ap (λ (k : ℕ). times k limit) next

-- those of a row that came to nothing are put
pub puts-one : (waiters : UseTable) (limit index : ℕ) (less more todo new : List ℕ) → index < length less → OneMore index less more → Adds waiters limit index todo new
    → Puts waiters limit more less todo new
puts-one waiters limit index less more todo new within o adds =
    let paid : times (total more) limit ≡ times (total less) limit + limit = one-time (total less) (total more) limit (total-more index less more within o) in
    let size : length new ≤ length todo + limit = adds.size in
    record {
      kept = adds.kept;
      put = λ g z. elim (cases_eq g index) [
        | inl e ↦ inr (λ i u l. adds.added i (subst (λ (k : ℕ). Uses waiters k i) e u) l)
        | inr apart ↦ inl (o.others g apart ∙ z)
      ];
      less = omega (arith, paid, size);
    }

-- those of one that did not are not
pub puts-not : (waiters : UseTable) (limit index : ℕ) (less more todo : List ℕ) → index < length less → OneMore index less more → (slice_index less index ≡ 0 → ⊥)
    → Puts waiters limit more less todo todo
puts-not waiters limit index less more todo within o some =
    let paid : times (total more) limit ≡ times (total less) limit + limit = one-time (total less) (total more) limit (total-more index less more within o) in
    record {
      kept = λ i k. k;
      put = λ g z. elim (cases_eq g index) [
        | inl e ↦ absurd (some (ap (slice_index less) (sym e) ∙ z))
        | inr apart ↦ inl (o.others g apart ∙ z)
      ];
      less = omega (arith, paid);
    }

-- ---- all counts
pub count-none : (edges : UseTable) (counts : List ℕ) → ((i : ℕ) → slice_index counts i ≡ 0) → (i : ℕ) → slice_index counts i ≡ tally (λ (j : ℕ). edge edges j i) 0
count-none edges counts zeros i = zeros i

pub count-more : (edges : UseTable) (number next : ℕ) (old new : List ℕ) → next ≡ number + 1 → Moved edges number new old
    → ((i : ℕ) → slice_index old i ≡ tally (λ (j : ℕ). edge edges j i) number) → (i : ℕ) → slice_index new i ≡ tally (λ (j : ℕ). edge edges j i) next
count-more edges number next old new step m h i =
    let more : suc number ≡ next = omega (arith, step) in
    subst (λ (k : ℕ). slice_index new i ≡ tally (λ (j : ℕ). edge edges j i) k) more (pick (edge edges number i) refl)
  where
    pick : (b : Bool) → edge edges number i ≡ b → slice_index new i ≡ tally (λ (j : ℕ). edge edges j i) (suc number)
    pick true e =
        let up : slice_index new i ≡ slice_index old i + 1 = m.moved i (edge-used edges number i e) in
        let was : slice_index old i ≡ tally (λ (j : ℕ). edge edges j i) number = h i in
        let last : one (edge edges number i) ≡ 1 = ap one e in
        omega (arith, up, was, last)
    pick false e =
        let up : slice_index new i ≡ slice_index old i = m.others i (no-edge edges number i e) in
        let was : slice_index old i ≡ tally (λ (j : ℕ). edge edges j i) number = h i in
        let last : one (edge edges number i) ≡ 0 = ap one e in
        omega (arith, up, was, last)

-- ---- a mark that is taken away
-- who waits for one that is marked is counted
pub counts-some : (edges : UseTable) (n : ℕ) (marks : List Bool) (counts : List ℕ) (k i : ℕ) → Counted edges n marks counts → k < n → is_marked (slice_get marks k) ≡ true → Uses edges k i
    → 1 ≤ slice_index counts i
counts-some edges n marks counts k i c less on u = elim (cases_eq (slice_index counts i) 0) [
  | inl none ↦
      let off : counts_for edges marks i k ≡ false = tally-zero (counts_for edges marks i) n (sym (c i) ∙ none) k less in
      absurd (true≢false (sym (and_from (is_marked (slice_get marks k)) (edge edges k i) on (used-edge edges k i u)) ∙ off))
  | inr some ↦ omega (arith, some)
]

pub count-less : (edges : UseTable) (n k : ℕ) (marks cleared : List Bool) (counts new : List ℕ) → k < n → k < length marks → is_marked (slice_get marks k) ≡ true → cleared ≡ slice_set marks k false
    → Moved edges k counts new → Counted edges n marks counts → Counted edges n cleared new
count-less edges n k marks cleared counts new less within on set m c i =
    let down : tally (counts_for edges marks i) n ≡ tally (counts_for edges cleared i) n + one (counts_for edges marks i k) =
    tally-less (counts_for edges cleared i) (counts_for edges marks i) n k less off same in
    let was : slice_index counts i ≡ tally (counts_for edges marks i) n = c i in
    pick (edge edges k i) refl down was
  where
    off : counts_for edges cleared i k ≡ false
    off = ap (λ (b : Bool). b && edge edges k i) (ap (λ (l : List Bool). is_marked (slice_get l k)) set ∙ ap is_marked (bool-same marks k false within))

    same : (j : ℕ) → (j ≡ k → ⊥) → counts_for edges cleared i j ≡ counts_for edges marks i j
    same j apart =
        ap (λ (b : Bool). b && edge edges j i) (ap (λ (l : List Bool). is_marked (slice_get l j)) set ∙ ap is_marked (bool-other marks k j false (λ e. apart (sym e))))

    pick : (b : Bool) → edge edges k i ≡ b → tally (counts_for edges marks i) n ≡ tally (counts_for edges cleared i) n + one (counts_for edges marks i k)
        → slice_index counts i ≡ tally (counts_for edges marks i) n → slice_index new i ≡ tally (counts_for edges cleared i) n
    pick true e down was =
        let up : slice_index counts i ≡ slice_index new i + 1 = m.moved i (edge-used edges k i e) in
        let last : one (counts_for edges marks i k) ≡ 1 = ap₂ (λ (a b : Bool). one (a && b)) on e in
        omega (arith, down, was, up, last)
    pick false e down was =
        let up : slice_index counts i ≡ slice_index new i = m.others i (no-edge edges k i e) in
        let last : one (counts_for edges marks i k) ≡ 0 = ap₂ (λ (a b : Bool). one (a && b)) on e in
        omega (arith, down, was, up, last)

-- ---- marks of a row that are taken away, from a number on
pub record LoosensFrom (edges beside waiters : UseTable) (j below : ℕ) (marks left : List Bool) (before after todo new : List ℕ) : Type 0 where
  pub upto : below ≤ length marks
  pub size : length left ≡ length marks
  pub cleared : (i : ℕ) → below ≤ i → Uses beside j i → is_marked (slice_get left i) ≡ false
  pub others : (i : ℕ) → (below ≤ i → Uses beside j i → ⊥) → is_marked (slice_get left i) ≡ is_marked (slice_get marks i)
  pub counted : Counted edges (length marks) left after
  pub counts : length after ≡ length before
  pub puts : Puts waiters (length marks) before after todo new

pub loosens-none : (edges beside waiters : UseTable) (j below : ℕ) (marks : List Bool) (counts todo : List ℕ) → below ≡ length marks → ((i : ℕ) → Uses beside j i → i < length marks)
    → Counted edges (length marks) marks counts → LoosensFrom edges beside waiters j below marks marks counts counts todo todo
loosens-none edges beside waiters j below marks counts todo all within c = record {
  upto = omega (arith, all);
  size = refl;
  cleared = λ i up u. let less : i < length marks = within i u in absurd (omega (arith, less, up, all));
  others = λ i none. refl;
  counted = c;
  counts = refl;
  puts = puts-none waiters (length marks) counts todo;
}

module _ (edges beside waiters : UseTable) (j row below found : ℕ) (marks mid : List Bool) (before counts todo between : List ℕ) (same : row ≡ j) (last : LastUse beside row below found)
    (h : LoosensFrom edges beside waiters j below marks mid before counts todo between) where
  down : found < below
  down = last.less

  upto-marks : below ≤ length marks
  upto-marks = h.upto

  pub found-within : found < length mid
  found-within = let size : length mid ≡ length marks = h.size in omega (arith, down, upto-marks, size)

  pub found-counted : found < length marks
  found-counted = omega (arith, down, upto-marks)

  -- it was not marked
  pub loosens-on : is_marked (slice_get mid found) ≡ false → LoosensFrom edges beside waiters j found marks mid before counts todo between
  loosens-on off = record {
    upto = omega (arith, down, upto-marks);
    size = h.size;
    cleared = λ i up u. elim (cases_eq i found) [
      | inl e ↦ ap (λ (k : ℕ). is_marked (slice_get mid k)) e ∙ off
      | inr apart ↦ h.cleared i (from-below beside j row below found same last i apart up u) u
    ];
    others = λ i none. h.others i (not-yet beside j row below found same last i none);
    counted = h.counted;
    counts = h.counts;
    puts = h.puts;
  }

  -- its mark is taken away
  pub loosens-more : (cleared : List Bool) (after new : List ℕ) → is_marked (slice_get mid found) ≡ true → cleared ≡ slice_set mid found false → Lowered edges waiters (length marks) found counts after between new
      → LoosensFrom edges beside waiters j found marks cleared before after todo new
  loosens-more cleared after new on set l = record {
    upto = omega (arith, down, upto-marks);
    size = ap (λ (b : List Bool). length b) set ∙ length-set mid found false ∙ h.size;
    cleared = λ i up u. elim (cases_eq i found) [
      | inl e ↦
          ap (λ (k : ℕ). is_marked (slice_get cleared k)) e ∙ ap (λ (b : List Bool). is_marked (slice_get b found)) set ∙ ap is_marked (bool-same mid found false found-within)
      | inr apart ↦ other i apart ∙ h.cleared i (from-below beside j row below found same last i apart up u) u
    ];
    others = λ i none. other i (not-found beside j row below found same last i none) ∙ h.others i (not-yet beside j row below found same last i none);
    counted = count-less edges (length marks) found mid cleared counts after found-counted found-within on set l.moved h.counted;
    counts = sym l.moved.size ∙ h.counts;
    puts = puts-both waiters (length marks) before counts after todo between new h.puts l.puts;
  }
    where
      other : (i : ℕ) → (i ≡ found → ⊥) → is_marked (slice_get cleared i) ≡ is_marked (slice_get mid i)
      other i apart = ap (λ (b : List Bool). is_marked (slice_get b i)) set ∙ ap is_marked (bool-other mid found i false (λ e. apart (sym e)))

pub loosens-all : (edges beside waiters : UseTable) (j row below : ℕ) (marks cleared : List Bool) (before after todo new : List ℕ) → row ≡ j → ((i : ℕ) → Uses beside row i → i < below → ⊥)
    → LoosensFrom edges beside waiters j below marks cleared before after todo new → Loosens edges beside waiters j marks cleared before after todo new
loosens-all edges beside waiters j row below marks cleared before after todo new same none h = record {
  size = h.size;
  cleared = λ i u. h.cleared i (from i u) u;
  others = λ i no. h.others i (λ up u. no u);
  counted = h.counted;
  counts = h.counts;
  puts = h.puts;
}
  where
    from : (i : ℕ) → Uses beside j i → below ≤ i
    from i u = elim (cases_lt i below) [
      | inl under ↦ absurd (none i (subst (λ (k : ℕ). Uses beside k i) (sym same) u) under)
      | inr over ↦ over
    ]
