-- The greatest count of a list's numbers.
use Rattle.std.proofs.Common.{◌≡◌, ℕ, zero, suc, ◌≤◌, List, [], ◌∷◌, Some, slice_get, inl, inr, refl, eq-eqb, le_trans, le_refl}
use Rattle.std.proofs.Math.Nat.{le-max_left, le-max_right}
use Rattle.syntax.specs.Lists.{In}
use Rattle.sharing_rule.specs.Measure.{most, only}

-- the count of an element is at most the greatest
pub most_in : (f : ℕ → ℕ) (x : ℕ) (xs : List ℕ) → In x xs → f x ≤ most f xs
most_in f x [] h = elim h [ ]
most_in f x (y ∷ ys) (inl e) = rw e (le-max_left (f y) (most f ys))
most_in f x (y ∷ ys) (inr h) = le_trans (most_in f x ys h) (le-max_right (f y) (most f ys))

-- the count of the element at a place is at most the greatest
pub most_at : (f : ℕ → ℕ) (x : ℕ) (xs : List ℕ) (k : ℕ) → slice_get xs k ≡ Some x → f x ≤ most f xs
most_at f x [] k h = cc
most_at f x (y ∷ ys) zero h = let e : y ≡ x = cc in rw (← e) (le-max_left (f y) (most f ys))
most_at f x (y ∷ ys) (suc k) h = le_trans (most_at f x ys k h) (le-max_right (f y) (most f ys))

-- a number that is asked for counts
pub only_same : (n c : ℕ) → only n c c ≡ n
only_same n c = rw (eq-eqb c c refl) refl

-- an equal number counts
pub only_least : (n c d : ℕ) → d ≡ c → n ≤ only n c d
only_least n c d e = rw e (rw (only_same n c) (le_refl n))

-- an element of the list counts
pub most_least : (x : ℕ) (xs : List ℕ) → In x xs → 1 ≤ most (only 1 x) xs
most_least x xs h = le_trans (only_least 1 x x refl) (most_in (only 1 x) x xs h)
