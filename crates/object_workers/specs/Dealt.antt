-- The rule of the queue of branch numbers.
use Rattle.std.specs.Prelude.{◌≡◌, ℕ, zero, suc, ◌+◌, ◌==◌, if◌then◌else◌, List, [], ◌∷◌, length}
use Rattle.object_workers.specs.declared.queue.Hand.{Hand}

-- these numbers in one's hands
abbrev pub hand : List ℕ → Hand
hand numbers = record { numbers = numbers }

-- so many numbers, from this one on
abbrev pub range : ℕ → ℕ → List ℕ
range from zero = []
range from (suc count) = from ∷ range (suc from) count

-- how often x stands in the list
abbrev pub times : ℕ → List ℕ → ℕ
times x [] = 0
times x (y ∷ ys) = (if x == y then 1 else 0) + times x ys

-- a number of each of these, added up
abbrev pub total : {X : Type 0} → (X → ℕ) → List X → ℕ
total f [] = 0
total f (x ∷ xs) = f x + total f xs

-- the queue and the hands have, together, each number below the count once, and no other
pub record Dealt (count : ℕ) (items : List ℕ) (views : List Hand) : Type 0 where
  pub once : (x : ℕ) → times x items + total (λ v. times x v.numbers) views ≡ times x (range 0 count)
  pub many : length items + total (λ v. length v.numbers) views ≡ count
