-- Numbers below powers of two: what the operations on words need of their bits.
use Rattle.std.proofs.Common.{◌≡◌, ℕ, suc, ◌+◌, ◌-◌, ◌*◌, ◌%◌, ◌/◌, ◌^◌, ◌<◌, ◌≤◌, inl, inr, max, bit_and, arith, ◌∙◌, ap, sym}
use Rattle.std.proofs.lemmas.Bool.{cases_lt}
use Rattle.std.proofs.lemmas.Nat.{pow_pos, pow-add, and_mask, pow_below, and-not}
use Rattle.std.proofs.lemmas.Nat.Bits.{ones_shr, and_pow}
use Rattle.std.specs.Int.{bit_at}
use Rattle.std.proofs.Math.Nat.{le-max_left, le-max_right, mod-eq_of_lt, add-mod_right, suc-mul, mul-add-mod_self_right, add-mul, mul-div_cancel}
use Rattle.std.proofs.Math.Pow.{pow_mono}

-- a number of v bits fits the wider of the widths v and w
pub below_max_left : (x v w : ℕ) → x < 2 ^ v → x < 2 ^ max v w
below_max_left x v w h = let wider : 2 ^ v ≤ 2 ^ max v w = pow_mono (le-max_left v w) in omega arith

-- a number of w bits fits the wider of the widths v and w
pub below_max_right : (x v w : ℕ) → x < 2 ^ w → x < 2 ^ max v w
below_max_right x v w h = let wider : 2 ^ w ≤ 2 ^ max v w = pow_mono (le-max_right v w) in omega arith

-- one bit more doubles the numbers
pub pow-succ_twice : (w : ℕ) → 2 ^ (w + 1) ≡ 2 ^ w + 2 ^ w
pow-succ_twice w = omega (arith, pow-add 2 w 1)

-- a sum fits one bit more than the wider operand
pub sum_fits : (x y v w : ℕ) → x < 2 ^ v → y < 2 ^ w → x + y < 2 ^ (max v w + 1)
sum_fits x y v w hx hy =
    omega (arith, below_max_left x v w hx, below_max_right y v w hy, pow-succ_twice (max v w))

-- the ones of a width, as a shift of all 64 makes them
pub ones_by_shift : (w : ℕ) → w ≤ 64 → 18446744073709551615 / 2 ^ (64 - w) + 1 ≡ 2 ^ w
ones_by_shift w h =
    let shifted : 18446744073709551615 / 2 ^ (64 - w) ≡ 2 ^ (64 - (64 - w)) - 1 = ones_shr 64 (64 - w) (omega arith) in
    let back : 64 - (64 - w) ≡ w = omega arith in
    let power : 2 ^ (64 - (64 - w)) ≡ 2 ^ w = ap (λ k. 2 ^ k) back in
    omega (arith, pow_pos w)

-- to keep the ones of a width is to take the rest of a division by its power
pub and-ones : (x m w : ℕ) → m + 1 ≡ 2 ^ w → bit_and x m ≡ x % 2 ^ w
and-ones x m w h =
    let mask : m ≡ 2 ^ w - 1 = omega arith in
    ap (λ k. bit_and x k) mask ∙ and_mask x w

-- a difference that is not below zero, modulo m
pub difference_whole : (a b m : ℕ) → a < m → b ≤ a → (a + (m - b)) % m ≡ a - b
difference_whole a b m h within =
    let turned : a + (m - b) ≡ (a - b) + m = omega arith in
    let small : a - b < m = omega arith in
    ap (λ k. k % m) turned ∙ add-mod_right (a - b) m ∙ mod-eq_of_lt small

-- a difference below zero wraps once
pub difference_wrapped : (a b m : ℕ) → b ≤ m → a < b → (a + (m - b)) % m ≡ a + (m - b)
difference_wrapped a b m h below =
    let small : a + (m - b) < m = omega arith in
    mod-eq_of_lt small

-- to take b from g + 1 blocks of m is to take it from the last of them
blocks_less : (a b g m : ℕ) → b ≤ m → a + ((g * m + m) - b) ≡ g * m + (a + (m - b))
blocks_less a b g m h = omega arith

-- a difference that wraps at 64 bits, cut to w of them, wraps at w bits
pub difference_cut : (a b w : ℕ) → a < 2 ^ w → b < 2 ^ w → w ≤ 64 → (a + (18446744073709551616 - b)) % 18446744073709551616 % 2 ^ w ≡ (a + (2 ^ w - b)) % 2 ^ w
difference_cut a b w ha hb h =
    let wide : 2 ^ w ≤ 18446744073709551616 = pow_mono {i = w} {j = 64} h in
    elim (cases_lt a b) [
      | inl below ↦
          let g : ℕ = 2 ^ (64 - w) - 1 in
          let some : 1 ≤ 2 ^ (64 - w) = pow_pos (64 - w) in
          let whole : (64 - w) + w ≡ 64 = omega arith in
          let blocks : 2 ^ (64 - w) * 2 ^ w ≡ 18446744073709551616 = sym (pow-add 2 (64 - w) w) ∙ ap (λ k. 2 ^ k) whole in
          let more : 2 ^ (64 - w) ≡ suc g = omega arith in
          let split : 18446744073709551616 ≡ g * 2 ^ w + 2 ^ w = sym blocks ∙ ap (λ k. k * 2 ^ w) more ∙ suc-mul g (2 ^ w) in
          ap (λ k. k % 2 ^ w) (difference_wrapped a b 18446744073709551616 (omega arith) below)
          ∙ ap (λ k. (a + (k - b)) % 2 ^ w) split
          ∙ ap (λ k. k % 2 ^ w) (blocks_less a b g (2 ^ w) (omega arith))
          ∙ mul-add-mod_self_right g (2 ^ w) (a + (2 ^ w - b))
      | inr within ↦
          let small : a - b < 2 ^ w = omega arith in
          ap (λ k. k % 2 ^ w) (difference_whole a b 18446744073709551616 (omega arith) within)
          ∙ mod-eq_of_lt small
          ∙ sym (difference_whole a b (2 ^ w) ha within)
    ]

-- a flipped bit is 1 less the bit
pub bit_at-flipped : (w n i : ℕ) → n < 2 ^ w → i < w → bit_at (2 ^ w - 1 - n) i ≡ 1 - bit_at n i
bit_at-flipped w n i h within =
    let one : 2 ^ i < 2 ^ w = pow_below i w within in
    let flipped : ℕ = bit_at (2 ^ w - 1 - n) i in
    let both : flipped * 2 ^ i + bit_at n i * 2 ^ i ≡ 2 ^ i =
    omega (arith, and-not w n (2 ^ i) h one, and_pow (2 ^ w - 1 - n) i, and_pow n i) in
    let product : (flipped + bit_at n i) * 2 ^ i ≡ 1 * 2 ^ i = add-mul flipped (bit_at n i) (2 ^ i) ∙ omega arith in
    let total : flipped + bit_at n i ≡ 1 =
    sym (mul-div_cancel (flipped + bit_at n i) (pow_pos i)) ∙ ap (λ k. k / 2 ^ i) product ∙ mul-div_cancel 1 (pow_pos i) in
    omega arith
