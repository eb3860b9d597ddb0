-- Where a name is parted.
use Rattle.std.proofs.Common.{◌≡◌, ◌<◌, ℕ, zero, suc, List, [], ◌∷◌, length, get_or, take, drop, true, false, refl, ap, sym, arith}
use Rattle.std.proofs.lemmas.Grind.{common_steps}
use Rattle.dap_views.specs.Named.{has_colon, own_in, prefix_in}

-- no `:` is among them
none-colon : (xs : List ℕ) → ((i : ℕ) → i < length xs → get_or xs i 0 ≡ 58 → ⊥) → has_colon xs ≡ false
none-colon [] h = refl
none-colon (x ∷ xs) h =
    let first : x ≡ 58 → ⊥ = h 0 (omega arith) in
    let rest = none-colon xs (λ i low. h (suc i) (omega arith)) in grind (arith, common_steps)

-- one is
some-colon : (xs : List ℕ) (k : ℕ) → k < length xs → get_or xs k 0 ≡ 58 → has_colon xs ≡ true
some-colon [] k h at = absurd (omega arith)
some-colon (x ∷ xs) zero h at = let is : x ≡ 58 = at in rw is
some-colon (x ∷ xs) (suc k) h at = let rest = some-colon xs k (omega arith) at in grind (arith, common_steps)

prefix-none : (xs : List ℕ) → has_colon xs ≡ false → prefix_in xs ≡ []
prefix-none [] h = refl
prefix-none (x ∷ xs) h = rw h

own-none : (xs : List ℕ) → has_colon xs ≡ false → own_in xs ≡ xs
own-none [] h = refl
own-none (x ∷ xs) h = rw h

pub prefix_nowhere : (xs : List ℕ) → ((i : ℕ) → i < length xs → get_or xs i 0 ≡ 58 → ⊥) → [] ≡ prefix_in xs
prefix_nowhere xs h = sym (prefix-none xs (none-colon xs h))

pub own_nowhere : (xs : List ℕ) → ((i : ℕ) → i < length xs → get_or xs i 0 ≡ 58 → ⊥) → xs ≡ own_in xs
own_nowhere xs h = sym (own-none xs (none-colon xs h))

-- the last is at k
pub prefix_at : (xs : List ℕ) (k : ℕ) → k < length xs → get_or xs k 0 ≡ 58 → ((i : ℕ) → k < i → i < length xs → get_or xs i 0 ≡ 58 → ⊥)
    → take (suc k) xs ≡ prefix_in xs
prefix_at [] k h at last = absurd (omega arith)
prefix_at (x ∷ xs) zero h at last =
    let is : x ≡ 58 = at in
    let none = prefix-none xs (none-colon xs (λ i low. last (suc i) (omega arith) (omega arith))) in rw (is, none)
prefix_at (x ∷ xs) (suc k) h at last =
    let some : has_colon (x ∷ xs) ≡ true = some-colon (x ∷ xs) (suc k) h at in
    let rest = prefix_at xs k (omega arith) at (λ i high low. last (suc i) (omega arith) (omega arith)) in rw some (ap (λ (ys : List ℕ). x ∷ ys) rest)

pub own_at : (xs : List ℕ) (k : ℕ) → k < length xs → get_or xs k 0 ≡ 58 → ((i : ℕ) → k < i → i < length xs → get_or xs i 0 ≡ 58 → ⊥)
    → drop (suc k) xs ≡ own_in xs
own_at [] k h at last = absurd (omega arith)
own_at (x ∷ xs) zero h at last =
    let is : x ≡ 58 = at in
    let none = own-none xs (none-colon xs (λ i low. last (suc i) (omega arith) (omega arith))) in rw (is, none)
own_at (x ∷ xs) (suc k) h at last =
    let some : has_colon (x ∷ xs) ≡ true = some-colon (x ∷ xs) (suc k) h at in
    let rest = own_at xs k (omega arith) at (λ i high low. last (suc i) (omega arith) (omega arith)) in rw some rest
