-- Each step at the queue of branch numbers keeps its rule.
use Rattle.std.proofs.Common.{eq-eqb, ne_eqb, ◌≡◌, ℕ, zero, suc, ◌+◌, ◌-◌, ◌<◌, ◌≤◌, ◌==◌, if◌then◌else◌, Bool, List, [], ◌∷◌, ◌++◌, length, set, refl, ap, sym, ◌∙◌, subst, arith, length-append}
use mathlib.Core.Logic.{dite}
use native.Mathlib.Decide.{ℕ_discrete}
use mathlib.Core.Option.{some, some-injective, some-ne-none}
use lib.ListN.{get_elem?}
use Rattle.crossbeam_queue.specs.Fifo.{Pushes, Pops, Forks, Learns}
use Rattle.object_workers.specs.Dealt.{Dealt, hand, range, times, total}
use Rattle.object_workers.specs.declared.queue.Hand.{Hand}

module _ {X : Type 0} (f : X → ℕ) where
  -- one element changes
  pub total_set : (xs : List X) (i : ℕ) (v w : X) → get_elem? xs i ≡ some v → total f (set xs i w) + f v ≡ total f xs + f w
  total_set [] i v w at = absurd (some-ne-none v (sym at))
  total_set (x ∷ xs) zero v w at = let e = ap f (some-injective x v at) in omega arith
  total_set (x ∷ xs) (suc i) v w at = let e = total_set xs i v w at in omega arith

  -- each element counts
  pub total_at : (xs : List X) (i : ℕ) (v : X) → get_elem? xs i ≡ some v → f v ≤ total f xs
  total_at [] i v at = absurd (some-ne-none v (sym at))
  total_at (x ∷ xs) zero v at = let e = ap f (some-injective x v at) in omega arith
  total_at (x ∷ xs) (suc i) v at = let e = total_at xs i v at in omega arith

  -- one element more at the end
  pub total_end : (xs : List X) (w : X) → total f (xs ++ w ∷ []) ≡ total f xs + f w
  total_end [] w = omega arith
  total_end (x ∷ xs) w = let e = total_end xs w in omega arith

pub times_end : (x y : ℕ) (xs : List ℕ) → times x (xs ++ y ∷ []) ≡ times x xs + (if x == y then 1 else 0)
times_end x y [] = omega arith
times_end x y (z ∷ xs) = let e = times_end x y xs in omega arith

-- a number counts at itself
pub times_here : (x : ℕ) (xs : List ℕ) → times x (x ∷ xs) ≡ 1 + times x xs
times_here x xs = ap (λ (b : Bool). (if b then 1 else 0) + times x xs) (eq-eqb x x refl)

-- what stands in a range lies in it
pub in_range : (x from count : ℕ) → 0 < times x (range from count) → x < from + count
in_range x from zero there = absurd (omega arith)
in_range x from (suc count) there =
    dite (ℕ_discrete x from)
    (λ e. omega arith)
    (λ ne.
    let there_else : 0 < 0 + times x (range (suc from) count) = subst (λ (b : Bool). 0 < (if b then 1 else 0) + times x (range (suc from) count)) (ne_eqb x from ne) there in
    let rest = in_range x (suc from) count (omega arith) in
    omega arith)

pub range_length : (from count : ℕ) → length (range from count) ≡ count
range_length from zero = refl
range_length from (suc count) = ap suc (range_length (suc from) count)

-- at the start one has all numbers
pub begins : (count : ℕ) → Dealt count [] (hand (range 0 count) ∷ [])
begins count = record { once = λ x. omega arith; many = let l = range_length 0 count in omega arith }

-- a number goes from one's hands into the queue
pub gives_one : (count room id : ℕ) (v : Hand) (x : ℕ) (rest : List ℕ) → v.numbers ≡ x ∷ rest → Pushes (Dealt count) room id v x (λ w. v.numbers ≡ x ∷ w.numbers)
gives_one count room id v x rest is items views less h at =
    let w = hand rest in (
      w,
      record {
        once = λ y.
            let a = total_set (λ u. times y u.numbers) views id v w at in
            let b = ap (times y) is in
            let c = times_end y x items in
            let d = h.once y in
            omega arith;
        many =
            let a = total_set (λ u. length u.numbers) views id v w at in
            let b = ap length is in
            let c = length-append items (x ∷ []) in
            let d = h.many in
            omega arith;
      },
      is,
    )

-- a number comes from the queue into one's hands
pub takes_one : (count id : ℕ) (v : Hand) → Pops (Dealt count) id v (λ x w. (w.numbers ≡ x ∷ v.numbers) × (x < count))
takes_one count id v x items views h at =
    let w = hand (x ∷ v.numbers) in (
      w,
      record {
        once = λ y.
            let a = total_set (λ u. times y u.numbers) views id v w at in
            let d = h.once y in
            omega arith;
        many =
            let a = total_set (λ u. length u.numbers) views id v w at in
            let d = h.many in
            omega arith;
      },
      (refl, (let below = in_range x 0 count (let a = times_here x items in let d = h.once x in omega arith) in omega arith)),
    )

-- a worker comes with empty hands
pub comes_one : (count id : ℕ) (v : Hand) → Forks (Dealt count) id v v (hand [])
comes_one count id v items views h at =
    record {
      once = λ y.
          let a = total_set (λ u. times y u.numbers) views id v v at in
          let b = total_end (λ u. times y u.numbers) (set views id v) (hand []) in
          let d = h.once y in
          omega arith;
      many =
          let a = total_set (λ u. length u.numbers) views id v v at in
          let b = total_end (λ u. length u.numbers) (set views id v) (hand []) in
          let d = h.many in
          omega arith;
    }

-- the queue and one's hands have at most all numbers
pub has_room : (count id : ℕ) (v : Hand) → Learns (Dealt count) id v (λ items. length items + length v.numbers ≤ count)
has_room count id v items views h at = let a = total_at (λ u. length u.numbers) views id v at in let d = h.many in omega arith

abbrev tail : List ℕ → List ℕ
tail [] = []
tail (x ∷ xs) = xs

next-range : (n m : ℕ) (v w : List ℕ) → v ≡ range n (suc m) → v ≡ n ∷ w → w ≡ range (n + 1) m
next-range n m v w all one = sym (ap tail one) ∙ ap tail all ∙ ap (λ k. range k m) (omega arith)

-- the next number is dealt
pub deal_next : (n b : ℕ) (v w : List ℕ) → n < b → v ≡ range n (b - n) → v ≡ n ∷ w → w ≡ range (n + 1) (b - (n + 1))
deal_next n b v w less all one =
    let e : b - n ≡ suc (b - (n + 1)) = omega arith in next-range n (b - (n + 1)) v w (all ∙ ap (range n) e) one

-- no number is left
pub all_dealt : (n b : ℕ) (v : Hand) → b ≤ n → v.numbers ≡ range n (b - n) → v ≡ hand []
all_dealt n b v past all = let e : b - n ≡ 0 = omega arith in ap hand (all ∙ ap (range n) e)
