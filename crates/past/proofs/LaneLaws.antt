-- One lane of a set, through each operation.
use Rattle.std.proofs.Common.{◌≡◌, ◌∙◌, inl, inr, ℕ, zero, suc, ◌-◌, ◌*◌, ◌/◌, ◌%◌, ◌^◌, ◌<◌, min, max, Bool, true, false, not, ◌&&◌, ◌||◌, ◌==◌, refl, sym, ap, arith, w64}
use Rattle.std.specs.Int.{bit_at, bit_not}
use Rattle.std.proofs.lemmas.Bool.{cases_eq}
use Rattle.std.proofs.lemmas.Bool.Decides.{nat_tests}
use Rattle.std.proofs.lemmas.Nat.{shl_whole}
use Rattle.std.proofs.lemmas.Nat.Bits.{bit_at-lt, bit_at-zero, bit_at_and, bit_at_or, bit_at_not, bit_at-pow_same, bit_at-pow_other, shr_and_one}
use lib.Bits.{bit_and, bit_or}
use Rattle.past.specs.internal.Lanes.{has}

bit_cases : (P : ℕ → Type 0) → P 0 → P 1 → (x : ℕ) → x < 2 → P x
bit_cases P p q zero h = p
bit_cases P p q (suc zero) h = q
bit_cases P p q (suc (suc r)) h = absurd (omega arith)

two_bits : (P : ℕ → ℕ → Type 0) → P 0 0 → P 0 1 → P 1 0 → P 1 1 → (a b i : ℕ) → P (bit_at a i) (bit_at b i)
two_bits P p q r s a b i =
    bit_cases (λ x. P x (bit_at b i)) (bit_cases (P 0) p q (bit_at b i) (bit_at-lt b i)) (bit_cases (P 1) r s (bit_at b i) (bit_at-lt b i)) (bit_at a i)
    (bit_at-lt a i)

pub has-shifted : (n i : ℕ) → (bit_and (n / 2 ^ i) 1 == 1) ≡ has n i
has-shifted n i = ap (λ (x : ℕ). x == 1) (shr_and_one n i)

pub has-both : (a b i : ℕ) → has (bit_or a b) i ≡ (has a i || has b i)
has-both a b i = ap (λ (n : ℕ). n == 1) (bit_at_or a b i) ∙ two_bits (λ x y. (max x y == 1) ≡ ((x == 1) || (y == 1))) refl refl refl refl a b i

has-and : (a b i : ℕ) → has (bit_and a b) i ≡ (has a i && has b i)
has-and a b i = ap (λ (n : ℕ). n == 1) (bit_at_and a b i) ∙ two_bits (λ x y. (min x y == 1) ≡ ((x == 1) && (y == 1))) refl refl refl refl a b i

has-not : (a i : ℕ) → a < 2 ^ 64 → i < 64 → has (bit_not w64 a) i ≡ not (has a i)
has-not a i ha hi = ap (λ (n : ℕ). n == 1) (bit_at_not w64 a i ha hi) ∙ bit_cases (λ x. ((1 - x) == 1) ≡ not (x == 1)) refl refl (bit_at a i) (bit_at-lt a i)

pub has-without : (a b i : ℕ) → b < 2 ^ 64 → i < 64 → has (bit_and a (bit_not w64 b)) i ≡ (has a i && not (has b i))
has-without a b i hb hi = has-and a (bit_not w64 b) i ∙ ap (λ (x : Bool). has a i && x) (has-not b i hb hi)

pub has-alone : (k i : ℕ) → has (2 ^ k) i ≡ (i == k)
has-alone k i = elim (cases_eq i k) [
  | inl is ↦
      let one : bit_at (2 ^ k) i ≡ 1 = ap (λ (j : ℕ). bit_at (2 ^ k) j) is ∙ bit_at-pow_same k in
      let on : (i == k) ≡ true = grind (arith, nat_tests) in
      ap (λ (n : ℕ). n == 1) one ∙ sym on
  | inr differs ↦
      let off : (i == k) ≡ false = grind (arith, nat_tests) in
      ap (λ (n : ℕ). n == 1) (bit_at-pow_other k i differs) ∙ sym off
]

pub has-none : (i : ℕ) → has 0 i ≡ false
has-none i = ap (λ (n : ℕ). n == 1) (bit_at-zero i)

-- `1 << k`
pub one-shifted : (k : ℕ) → k < 64 → 1 * 2 ^ k % 2 ^ 64 ≡ 2 ^ k
one-shifted k h = shl_whole 1 1 k 64 (omega arith) (omega arith) ∙ omega arith
