-- Lines in order: one more, one less.
use Rattle.std.proofs.Common.{◌≡◌, ℕ, suc, ◌==◌, ◌<◌, ◌≤◌, List, [], ◌∷◌, Bool, true, false, cond, length, refl, sym, ◌∙◌, ap, subst, arith}
use Rattle.std.specs.Prelude.{nat_lt, filter, insert}
use Rattle.std.proofs.lemmas.Bool.{ltb-true}
use Rattle.std.proofs.lemmas.Bool.Decides.{nat_tests}
use Rattle.syntax.specs.Lists.{Every}
use Rattle.system.specs.Expression.{is_in}
use Rattle.runs.specs.InOrder.{InOrder}
use Rattle.runs.proofs.public.Lists.{every-in, every-map}
use Rattle.machine.specs.Breakpoints.{with_line}
use Rattle.machine.specs.internal.Sorting.{lesser_count}
use Rattle.runs.proofs.public.ReadTests.{is-in}

-- a line that is set is set once
pub with-there : (n : ℕ) (l : List ℕ) → InOrder ◌<◌ l → is_in n l ≡ true → l ≡ with_line n l
with-there n [] order there = cc
with-there n (m ∷ l) order there = by-less (nat_lt m n) refl (λ h. with-there n l order.1 h)
  where
    by-same : (b : Bool) → (m == n) ≡ b → nat_lt m n ≡ false → m ∷ l ≡ cond b (m ∷ l) (n ∷ m ∷ l)
    by-same true is past = refl
    by-same false is past =
        let later : is_in n l ≡ true = behind there in
        let above : m < n = every-in (λ k. m < k) l n order.0 (is-in n l later) in
        absurd (grind (arith, nat_tests))
      where
        behind : cond (n == m) true (is_in n l) ≡ true → is_in n l ≡ true
        behind h = pick (n == m) refl h
          where
            pick : (c : Bool) → (n == m) ≡ c → cond c true (is_in n l) ≡ true → is_in n l ≡ true
            pick true e g = absurd (grind (arith, nat_tests))
            pick false e g = g

    by-less : (b : Bool) → nat_lt m n ≡ b → (is_in n l ≡ true → l ≡ with_line n l) → m ∷ l ≡ cond b (m ∷ with_line n l) (cond (m == n) (m ∷ l) (n ∷ m ∷ l))
    by-less true is on = ap (λ k. m ∷ k) (on (behind there))
      where
        behind : cond (n == m) true (is_in n l) ≡ true → is_in n l ≡ true
        behind h = pick (n == m) refl h
          where
            pick : (c : Bool) → (n == m) ≡ c → cond c true (is_in n l) ≡ true → is_in n l ≡ true
            pick true e g = absurd (grind (arith, nat_tests))
            pick false e g = g
    by-less false is on = by-same (m == n) refl is

-- one that is not is put behind the lesser ones
with-new : (n : ℕ) (l : List ℕ) → is_in n l ≡ false → insert l (lesser_count n l) n ≡ with_line n l
with-new n [] new = refl
with-new n (m ∷ l) new = by-head (n == m) refl (λ h. with-new n l h) new
  where
    by-less : (b : Bool) → (m == n) ≡ false → insert l (lesser_count n l) n ≡ with_line n l →
        insert (m ∷ l) (cond b (suc (lesser_count n l)) 0) n ≡ cond b (m ∷ with_line n l) (cond (m == n) (m ∷ l) (n ∷ m ∷ l))
    by-less true other on = ap (λ k. m ∷ k) on
    by-less false other on = rw other refl

    by-head : (c : Bool) → (n == m) ≡ c → (is_in n l ≡ false → insert l (lesser_count n l) n ≡ with_line n l) → cond c true (is_in n l) ≡ false → insert (m ∷ l) (lesser_count n (m ∷ l)) n ≡ with_line n (m ∷ l)
    by-head true e on g = cc
    by-head false e on g = by-less (nat_lt m n) (grind (arith, nat_tests)) (on g)

-- what holds of all and of the line holds of both
every-with : (P : ℕ → Type 0) (n : ℕ) (l : List ℕ) → P n → Every P l → Every P (with_line n l)
every-with P n [] here all = (here, tt)
every-with P n (m ∷ l) here all = by-less (nat_lt m n) (every-with P n l here all.1)
  where
    by-same : (b : Bool) → Every P (cond b (m ∷ l) (n ∷ m ∷ l))
    by-same true = all
    by-same false = (here, all)

    by-less : (b : Bool) → Every P (with_line n l) → Every P (cond b (m ∷ with_line n l) (cond (m == n) (m ∷ l) (n ∷ m ∷ l)))
    by-less true rest = (all.0, rest)
    by-less false rest = by-same (m == n)

-- the order stays with one more
ordered-with : (n : ℕ) (l : List ℕ) → InOrder ◌<◌ l → InOrder ◌<◌ (with_line n l)
ordered-with n [] order = (tt, tt)
ordered-with n (m ∷ l) order = by-less (nat_lt m n) refl (ordered-with n l order.1)
  where
    by-same : (b : Bool) → (m == n) ≡ b → nat_lt m n ≡ false → InOrder ◌<◌ (cond b (m ∷ l) (n ∷ m ∷ l))
    by-same true is past = order
    by-same false is past =
        let below : n < m = grind (arith, nat_tests) in
        ((below, every-map (λ k. m < k) (λ k. n < k) l (λ k h. omega arith) order.0), order)

    by-less : (b : Bool) → nat_lt m n ≡ b → InOrder ◌<◌ (with_line n l) → InOrder ◌<◌ (cond b (m ∷ with_line n l) (cond (m == n) (m ∷ l) (n ∷ m ∷ l)))
    by-less true is rest = (every-with (λ k. m < k) n l (ltb-true m n is) order.0, rest)
    by-less false is rest = by-same (m == n) refl is

every-filter : (P : ℕ → Type 0) (p : ℕ → Bool) (l : List ℕ) → Every P l → Every P (filter p l)
every-filter P p [] all = tt
every-filter P p (m ∷ l) all = pick (p m) (every-filter P p l all.1)
  where
    pick : (b : Bool) → Every P (filter p l) → Every P (cond b (m ∷ filter p l) (filter p l))
    pick true rest = (all.0, rest)
    pick false rest = rest

-- and with some less
pub ordered-filter : (p : ℕ → Bool) (l : List ℕ) → InOrder ◌<◌ l → InOrder ◌<◌ (filter p l)
ordered-filter p [] order = tt
ordered-filter p (m ∷ l) order = pick (p m) (ordered-filter p l order.1)
  where
    pick : (b : Bool) → InOrder ◌<◌ (filter p l) → InOrder ◌<◌ (cond b (m ∷ filter p l) (filter p l))
    pick true rest = (every-filter (λ k. m < k) p l order.0, rest)
    pick false rest = rest

count-within : (n : ℕ) (l : List ℕ) → lesser_count n l ≤ length l
count-within n [] = omega arith
count-within n (m ∷ l) = pick (nat_lt m n) (count-within n l)
  where
    pick : (b : Bool) → lesser_count n l ≤ length l → cond b (suc (lesser_count n l)) 0 ≤ length (m ∷ l)
    pick true h = omega arith
    pick false h = omega arith

-- the same, of the lists of the code
pub place-within : (n place : ℕ) (slice items : List ℕ) → place ≡ lesser_count n slice → slice ≡ items → place ≤ length items
place-within n place slice items is same = let within = count-within n items in
    subst (λ (k : ℕ). k ≤ length items) (sym (is ∙ ap (lesser_count n) same)) within

pub put-line : (n place : ℕ) (slice items new : List ℕ) → is_in n items ≡ false → place ≡ lesser_count n slice → slice ≡ items →
    new ≡ insert items place n → new ≡ with_line n items
put-line n place slice items new out is same after =
    after ∙ ap (λ k. insert items k n) (is ∙ ap (lesser_count n) same) ∙ with-new n items out

pub put-ordered : (n : ℕ) (items new : List ℕ) → InOrder ◌<◌ items → new ≡ with_line n items → InOrder ◌<◌ new
put-ordered n items new order is = subst (λ (k : List ℕ). InOrder ◌<◌ k) (sym is) (ordered-with n items order)

pub room-left : (size most : ℕ) (b : Bool) → b ≡ (size == most) → b ≡ false → size ≤ most → size < most
room-left size most b is off within = grind (arith, nat_tests)
