-- Words stay words, and the laws of what the operations on them give.
use Rattle.std.proofs.Common.{◌≡◌, ℕ, ◌+◌, ◌-◌, ◌%◌, ◌^◌, ◌<◌, ◌≤◌, max, Bool, true, false, cond, arith, refl, ap, ◌∙◌, inl, inr, ◌*◌}
use Rattle.std.proofs.lemmas.Nat.{pow_pos, mod_below, or_lt, xor_lt, and_le_l, leading_length}
use Rattle.std.proofs.lemmas.Bool.{cases_lt}
use Rattle.std.specs.Int.Count.{count_leading_zeros}
use Rattle.std.proofs.Math.Nat.{mod-eq_of_lt, mod-mod}
use Rattle.std.proofs.Math.Pow.{pow_mono}
use Rattle.value.specs.declared.Comparison.{Comparison}
use Rattle.value.specs.Comparison.{holds}
use Rattle.value.specs.Word.{Word, IsWidth, IsWord, common_width, sum_of, difference_of, and_of, or_of, xor_of, complement_of, comparison_of, resized, least_width_of}
use Rattle.value.proofs.Numbers.{below_max_left, below_max_right, pow-succ_twice, sum_fits, difference_whole, difference_wrapped}

-- ---- what each operation gives is a word

-- a sum of words, where one bit more is still at most 64
pub IsWord-sum_of : (a b : Word) → IsWord a → IsWord b → common_width a b < 64 → IsWord (sum_of a b)
IsWord-sum_of a b ha hb room =
    ((omega arith, omega arith), mod_below (a.bits + b.bits) (2 ^ (common_width a b + 1)) (pow_pos (common_width a b + 1)))

-- a difference of words
pub IsWord-difference_of : (a b : Word) → IsWord a → IsWord b → IsWord (difference_of a b)
IsWord-difference_of a b ha hb = ((omega arith, omega arith), mod_below _ (2 ^ common_width a b) (pow_pos (common_width a b)))

-- the bits that both words have
pub IsWord-and_of : (a b : Word) → IsWord a → IsWord b → IsWord (and_of a b)
IsWord-and_of a b ha hb =
    let fits : a.bits < 2 ^ max a.width b.width = below_max_left a.bits a.width b.width ha.1 in
    ((omega arith, omega arith), omega (arith, and_le_l a.bits b.bits))

-- the bits that one or both words have
pub IsWord-or_of : (a b : Word) → IsWord a → IsWord b → IsWord (or_of a b)
IsWord-or_of a b ha hb =
    ((omega arith, omega arith), or_lt (common_width a b) a.bits b.bits (below_max_left a.bits a.width b.width ha.1) (below_max_right b.bits a.width b.width hb.1))

-- the bits that just one word has
pub IsWord-xor_of : (a b : Word) → IsWord a → IsWord b → IsWord (xor_of a b)
IsWord-xor_of a b ha hb =
    ((omega arith, omega arith), xor_lt (common_width a b) a.bits b.bits (below_max_left a.bits a.width b.width ha.1) (below_max_right b.bits a.width b.width hb.1))

-- a word with each bit flipped
pub IsWord-complement_of : (a : Word) → IsWord a → IsWord (complement_of a)
IsWord-complement_of a h = (h.0, omega (arith, pow_pos a.width))

-- a bit that is 1 or 0 fits one bit
truth_fits : (b : Bool) → cond b 1 0 < 2 ^ 1
truth_fits true = omega arith
truth_fits false = omega arith

-- a comparison, also of operands that are no words
pub IsWord-comparison_of : (op : Comparison) (a b : Word) → IsWord (comparison_of op a b)
IsWord-comparison_of op a b = ((omega arith, omega arith), truth_fits (holds op a.bits b.bits))

-- a resized number, also of a record that is no word
pub IsWord-resized : (v : Word) (w : ℕ) → IsWidth w → IsWord (resized v w)
IsWord-resized v w h = (h, mod_below v.bits (2 ^ w) (pow_pos w))

-- ---- widths

-- a sum is one bit wider than the wider operand
pub width-sum_of : (a b : Word) → (sum_of a b).width ≡ max a.width b.width + 1
width-sum_of a b = refl

-- a difference is as wide as the wider operand
pub width-difference_of : (a b : Word) → (difference_of a b).width ≡ max a.width b.width
width-difference_of a b = refl

-- and so is what both have
pub width-and_of : (a b : Word) → (and_of a b).width ≡ max a.width b.width
width-and_of a b = refl

-- what one or both have
pub width-or_of : (a b : Word) → (or_of a b).width ≡ max a.width b.width
width-or_of a b = refl

-- and what just one has
pub width-xor_of : (a b : Word) → (xor_of a b).width ≡ max a.width b.width
width-xor_of a b = refl

-- to flip the bits keeps the width
pub width-complement_of : (a : Word) → (complement_of a).width ≡ a.width
width-complement_of a = refl

-- a comparison has one bit
pub width-comparison_of : (op : Comparison) (a b : Word) → (comparison_of op a b).width ≡ 1
width-comparison_of op a b = refl

-- a resized number has the width asked for
pub width-resized : (v : Word) (w : ℕ) → (resized v w).width ≡ w
width-resized v w = refl

-- ---- numbers

-- no carry is lost
pub bits-sum_of : (a b : Word) → IsWord a → IsWord b → (sum_of a b).bits ≡ a.bits + b.bits
bits-sum_of a b ha hb = mod-eq_of_lt (sum_fits a.bits b.bits a.width b.width ha.1 hb.1)

-- the difference of words, with no second operand cut
pub bits-difference_of : (a b : Word) → IsWord a → IsWord b → (difference_of a b).bits ≡ (a.bits + (2 ^ common_width a b - b.bits)) % 2 ^ common_width a b
bits-difference_of a b ha hb =
    ap (λ k. (a.bits + (2 ^ common_width a b - k)) % 2 ^ common_width a b) (mod-eq_of_lt (below_max_right b.bits a.width b.width hb.1))

-- a difference that is not below zero is the true difference
pub bits-difference_of_within : (a b : Word) → IsWord a → IsWord b → b.bits ≤ a.bits → (difference_of a b).bits ≡ a.bits - b.bits
bits-difference_of_within a b ha hb within =
    bits-difference_of a b ha hb
    ∙ difference_whole a.bits b.bits (2 ^ common_width a b) (below_max_left a.bits a.width b.width ha.1) within

-- a difference below zero is two to the power of the width more than the true one
pub bits-difference_of_wrapped : (a b : Word) → IsWord a → IsWord b → a.bits < b.bits → (difference_of a b).bits + b.bits ≡ a.bits + 2 ^ common_width a b
bits-difference_of_wrapped a b ha hb below =
    let fits : b.bits < 2 ^ common_width a b = below_max_right b.bits a.width b.width hb.1 in
    let less : b.bits ≤ 2 ^ common_width a b = omega arith in
    let is : (difference_of a b).bits ≡ a.bits + (2 ^ common_width a b - b.bits) =
    bits-difference_of a b ha hb ∙ difference_wrapped a.bits b.bits (2 ^ common_width a b) less below in
    ap (λ k. k + b.bits) is ∙ omega arith

-- to flip each bit twice changes nothing
pub complement_of-complement_of : (a : Word) → IsWord a → complement_of (complement_of a) ≡ a
complement_of-complement_of a h =
    let same : 2 ^ a.width - 1 - (2 ^ a.width - 1 - a.bits) ≡ a.bits = omega arith in
    ap (λ k. record { bits = k; width = a.width }) same

-- a word that is no wider than w keeps its number
pub resized-wider : (v : Word) (w : ℕ) → IsWord v → v.width ≤ w → resized v w ≡ record { bits = v.bits; width = w }
resized-wider v w h wider = ap (λ k. record { bits = k; width = w }) (mod-eq_of_lt (omega (arith, pow_mono wider)))

-- a word at its own width is itself
pub resized-own_width : (v : Word) → IsWord v → resized v v.width ≡ v
resized-own_width v h = ap (λ k. record { bits = k; width = v.width }) (mod-eq_of_lt h.1)

-- to resize twice to one width is to resize once
pub resized-resized : (v : Word) (w : ℕ) → resized (resized v w) w ≡ resized v w
resized-resized v w = ap (λ k. record { bits = k; width = w }) (mod-mod v.bits (2 ^ w))

-- ---- the least width of a number

-- a number of m binary digits is below each power whose exponent is no less, and no others
least_from_digits : (n m w : ℕ) → 2 ^ m ≤ 2 * n + 1 → n < 2 ^ w → m ≤ w
least_from_digits n m w low high =
    elim (cases_lt w m) [
      | inl above ↦
          let next : w + 1 ≤ m = omega arith in
          let twice : 2 ^ (w + 1) ≤ 2 ^ m = pow_mono next in
          absurd (omega (arith, pow-succ_twice w))
      | inr within ↦ within
    ]

-- it is a width
pub least_width_of-range : (n : ℕ) → IsWidth (least_width_of n)
unfolding least_width_of
least_width_of-range n = (omega arith, omega arith)

-- it holds the number
pub least_width_of-fits : (n : ℕ) → n < 2 ^ 64 → n < 2 ^ least_width_of n
unfolding least_width_of
least_width_of-fits n h =
    let (m, digits, fits, low) = leading_length 64 n h in
    let wider : 2 ^ m ≤ 2 ^ max (64 - count_leading_zeros 64 n) 1 = pow_mono (omega arith) in
    omega arith

-- no width of at least 1 that holds the number is less
pub least_width_of-least : (n : ℕ) → n < 2 ^ 64 → (w : ℕ) → 1 ≤ w → n < 2 ^ w → least_width_of n ≤ w
unfolding least_width_of
least_width_of-least n h w positive fits =
    let (m, digits, _, low) = leading_length 64 n h in
    omega (arith, least_from_digits n m w low fits)

-- a number at its least width is a word
pub IsWord-least_width_of : (n : ℕ) → n < 2 ^ 64 → IsWord (record { bits = n; width = least_width_of n })
IsWord-least_width_of n h = (least_width_of-range n, least_width_of-fits n h)
