-- Numbers below 2^64 and their texts.
use Rattle.std.proofs.Common.{◌≡◌, ℕ, ◌<◌, ◌≤◌, ◌^◌, List, [], ◌∷◌, length, sym, ap, ◌∙◌, arith, Bool, false, eqb}
use Rattle.std.specs.Fmt.{decimal}
use Rattle.std.specs.Char.{digit_value}
use Rattle.std.specs.Str.Parse.{AllDigits}
use Rattle.std.proofs.lemmas.Bool.Decides.{nat_tests}
use Rattle.std.proofs.lemmas.Fmt.{decimal_injective}
use Rattle.decimal.specs.Reading.{Reads, IsNoNumber}
use Rattle.elaborate.specs.internal.CutAt.{Lacks}

-- what is not empty has a first
pub not_empty : (n : ℕ) (r : Bool) → r ≡ eqb n 0 → r ≡ false → 0 < n
not_empty n r e h = grind (arith, nat_tests)

-- a text of digits has no space
pub digits_without : (ds : List ℕ) → AllDigits 10 ds → Lacks 32 ds
digits_without [] h = tt
digits_without (d ∷ ds) h = (λ e. let low : digit_value d < 10 = h.0 in grind (arith, nat_tests), digits_without ds h.1)

-- numbers with one text are equal
pub one_number : (ds : List ℕ) (m n : ℕ) → Reads ds m → Reads ds n → m ≡ n
one_number ds m n h k = decimal_injective m n h.0 k.0 (h.1 ∙ sym k.1)

-- a text that is not empty is not the empty list
pub not_nil : (text : List ℕ) (r : Bool) → r ≡ eqb (length text) 0 → r ≡ false → text ≡ [] → ⊥
not_nil text r e h n = let e0 : 0 < length text = not_empty (length text) r e h in omega (arith, e0, ap length n)

-- no number up to 65,536 has the text of a larger one
pub no_syncs-large : (ds : List ℕ) (number : ℕ) → Reads ds number → 65536 < number → (n : ℕ) → n ≤ 65536 → decimal n ≡ ds → ⊥
no_syncs-large ds number r large n small e =
    let below : n < 2 ^ 64 = omega (arith, small) in omega (arith, one_number ds n number (below, e) r, small, large)

-- nor the text of no number
pub no_syncs-none : (ds : List ℕ) → IsNoNumber ds → (n : ℕ) → n ≤ 65536 → decimal n ≡ ds → ⊥
no_syncs-none ds none n small e = let below : n < 2 ^ 64 = omega (arith, small) in none n (below, e)
