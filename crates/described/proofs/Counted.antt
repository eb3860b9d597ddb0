-- The line of an offset is how many lines begin at it or before.
use Rattle.std.proofs.Common.{◌≡◌, ℕ, zero, suc, ◌+◌, ◌<◌, ◌≤◌, ◌==◌, leb, Bool, true, false, cond, List, [], ◌∷◌, length, take, refl, ap, sym, ◌∙◌, arith, get_or, count_by}
use Rattle.std.specs.List.Sorted.{IsNonDecreasingBy, IsPartitionPoint}
use Rattle.std.proofs.lemmas.List.Sums.{sum_by-cons}
use Rattle.source_places.specs.Places.{line_end}
use Rattle.described.specs.Lines.{line_at}
use Rattle.described.specs.internal.Starts.{starts_behind, line_starts}

-- ---- a count, element by element

count_cons : (p : ℕ → Bool) (x : ℕ) (xs : List ℕ) → count_by p (x ∷ xs) ≡ cond (p x) 1 0 + count_by p xs
count_cons p x xs = sum_by-cons (λ y. cond (p y) 1 0) x xs

one_more : (p : ℕ → Bool) (x : ℕ) (xs : List ℕ) (n : ℕ) → p x ≡ true → count_by p xs ≡ n → count_by p (x ∷ xs) ≡ 1 + n
one_more p x xs n passes h = count_cons p x xs ∙ (ap (λ b. cond b 1 0 + count_by p xs) passes ∙ ap (λ m. 1 + m) h)

no_more : (p : ℕ → Bool) (x : ℕ) (xs : List ℕ) (n : ℕ) → p x ≡ false → count_by p xs ≡ n → count_by p (x ∷ xs) ≡ n
no_more p x xs n fails h =
    let same : 0 + count_by p xs ≡ count_by p xs = omega arith in
    count_cons p x xs ∙ (ap (λ b. cond b 1 0 + count_by p xs) fails ∙ (same ∙ h))

-- where the first i pass and the others do not, i pass
pub count_at_point : (p : ℕ → Bool) (xs : List ℕ) (i : ℕ) → i ≤ length xs → IsPartitionPoint (λ y. p y ≡ true) (λ y. p y ≡ false) xs i → count_by p xs ≡ i
count_at_point p [] zero within point = refl
count_at_point p [] (suc i) within point = absurd (omega (arith, within))
count_at_point p (x ∷ xs) zero within point =
    no_more p x xs 0 (point.1 0 0 (omega arith) (omega arith))
    (count_at_point p xs zero (omega arith) (λ k d low high. absurd (omega (arith, high)), λ k d low high. point.1 (suc k) d (omega arith) (omega (arith, high))))
count_at_point p (x ∷ xs) (suc i) within point =
    let rest : count_by p xs ≡ i =
    count_at_point p xs i (omega (arith, within)) (λ k d low high. point.0 (suc k) d (omega arith) (omega (arith, high)), λ k d low high. point.1 (suc k) d (omega (arith, low)) (omega (arith, high))) in
    let here : count_by p (x ∷ xs) ≡ 1 + i = one_more p x xs i (point.0 0 0 (omega arith) (omega arith)) rest in
    omega (arith, here)

-- ---- each start is behind what stands before it

above_if : (t : Bool) (k : ℕ) (xs : List ℕ) → ((i d : ℕ) → i < length xs → k + 1 < get_or xs i d)
    → (i d : ℕ) → i < length (cond t ((k + 1) ∷ xs) xs) → k < get_or (cond t ((k + 1) ∷ xs) xs) i d
above_if true k xs h zero d lt = omega arith
above_if true k xs h (suc i) d lt = let m : k + 1 < get_or xs i d = h i d (omega (arith, lt)) in omega (arith, m)
above_if false k xs h i d lt = let m : k + 1 < get_or xs i d = h i d lt in omega (arith, m)

above : (bs : List ℕ) (k i d : ℕ) → i < length (starts_behind k bs) → k < get_or (starts_behind k bs) i d
above [] k i d lt = absurd (omega (arith, lt))
above (b ∷ bs) k i d lt = above_if (b == line_end) k (starts_behind (k + 1) bs) (above bs (k + 1)) i d lt

-- a first element below all others of a list that rises
rises_with : (x : ℕ) (xs : List ℕ) → ((i d : ℕ) → i < length xs → x < get_or xs i d) → IsNonDecreasingBy (λ y. y) xs → IsNonDecreasingBy (λ y. y) (x ∷ xs)
rises_with x xs low h zero zero d le lt = omega arith
rises_with x xs low h zero (suc j) d le lt = let m : x < get_or xs j d = low j d (omega (arith, lt)) in omega (arith, m)
rises_with x xs low h (suc i) zero d le lt = absurd (omega (arith, le))
rises_with x xs low h (suc i) (suc j) d le lt = h i j d (omega (arith, le)) (omega (arith, lt))

rises_if : (t : Bool) (k : ℕ) (xs : List ℕ) → ((i d : ℕ) → i < length xs → k + 1 < get_or xs i d)
    → IsNonDecreasingBy (λ y. y) xs → IsNonDecreasingBy (λ y. y) (cond t ((k + 1) ∷ xs) xs)
rises_if true k xs low h = rises_with (k + 1) xs low h
rises_if false k xs low h = h

rises : (bs : List ℕ) (k : ℕ) → IsNonDecreasingBy (λ y. y) (starts_behind k bs)
rises [] k = λ i j d le lt. absurd (omega (arith, lt))
rises (b ∷ bs) k = rises_if (b == line_end) k (starts_behind (k + 1) bs) (above bs (k + 1)) (rises bs (k + 1))

-- the starts rise
pub starts_rise : (source : List ℕ) → IsNonDecreasingBy (λ y. y) (line_starts source)
starts_rise source = rises_with 0 (starts_behind 0 source) (above source 0) (rises source 0)

-- ---- how many there are

abbrev at_most : ℕ → ℕ → Bool
at_most offset s = leb s offset

-- none at an offset that is not behind
none_if : (t : Bool) (k offset : ℕ) (xs : List ℕ) → offset ≤ k → count_by (at_most offset) xs ≡ 0 → count_by (at_most offset) (cond t ((k + 1) ∷ xs) xs) ≡ 0
none_if true k offset xs le h = no_more (at_most offset) (k + 1) xs 0 (grind (arith, le)) h
none_if false k offset xs le h = h

none : (bs : List ℕ) (k offset : ℕ) → offset ≤ k → count_by (at_most offset) (starts_behind k bs) ≡ 0
none [] k offset le = refl
none (b ∷ bs) k offset le = none_if (b == line_end) k offset (starts_behind (k + 1) bs) le (none bs (k + 1) offset (omega (arith, le)))

one_if : (t : Bool) (k offset n : ℕ) (xs : List ℕ) → k < offset → count_by (at_most offset) xs ≡ n
    → count_by (at_most offset) (cond t ((k + 1) ∷ xs) xs) ≡ cond t 1 0 + n
one_if true k offset n xs lt h = one_more (at_most offset) (k + 1) xs n (grind (arith, lt)) h
one_if false k offset n xs lt h = omega (arith, h)

counted : (bs : List ℕ) (k n offset : ℕ) → offset ≡ k + n → count_by (at_most offset) (starts_behind k bs) ≡ count_by (λ b. b == line_end) (take n bs)
counted [] k zero offset e = refl
counted [] k (suc n) offset e = refl
counted (b ∷ bs) k zero offset e = none (b ∷ bs) k offset (omega (arith, e))
counted (b ∷ bs) k (suc n) offset e =
    one_if (b == line_end) k offset (count_by (λ c. c == line_end) (take n bs)) (starts_behind (k + 1) bs) (omega (arith, e))
    (counted bs (k + 1) n offset (omega (arith, e)))
    ∙ sym (count_cons (λ c. c == line_end) b (take n bs))

-- as many starts are at most an offset as its line says
pub starts_counted : (source : List ℕ) (offset : ℕ) → count_by (at_most offset) (line_starts source) ≡ line_at source offset
starts_counted source offset =
    let rest = counted source 0 offset offset (omega arith) in
    let all : count_by (at_most offset) (line_starts source) ≡ 1 + count_by (λ b. b == line_end) (take offset source) =
    one_more (at_most offset) 0 (starts_behind 0 source) (count_by (λ b. b == line_end) (take offset source)) (grind arith) rest in
    omega (arith, all)
