-- How amounts of branches add up: no less than each, more for more, and in either order.
use Rattle.std.proofs.Common.{◌≡◌, ℕ, zero, suc, ◌≤◌, refl, subst, arith, le_trans}
use Rattle.sharing_rule.specs.Measure.{sum_together}
use Rattle.runs.proofs.public.SharingWidths.{variable_together}

-- what the laws need of `together`
pub record AddsUp (together : ℕ → ℕ → ℕ) : Type 0 where
  pub left : (a b : ℕ) → a ≤ together a b
  pub right : (a b : ℕ) → b ≤ together a b
  pub more : (a b c d : ℕ) → a ≤ c → b ≤ d → together a b ≤ together c d
  pub either_order : (a b : ℕ) → together a b ≡ together b a

-- sums add up
pub sums : AddsUp sum_together
sums = record { left = λ a b. omega arith; right = λ a b. omega arith; more = λ a b c d h k. omega arith; either_order = λ a b. omega arith }

-- reads and writes of a variable add up in either order
variable_order : (a b : ℕ) → variable_together a b ≡ variable_together b a
variable_order zero zero = refl
variable_order zero (suc b) = refl
variable_order (suc a) zero = refl
variable_order (suc zero) (suc zero) = refl
variable_order (suc zero) (suc (suc b)) = omega arith
variable_order (suc (suc a)) (suc zero) = omega arith
variable_order (suc (suc a)) (suc (suc b)) = omega arith

-- and are no less than each
variable_left : (a b : ℕ) → a ≤ variable_together a b
variable_left zero b = omega arith
variable_left (suc a) zero = omega arith
variable_left (suc zero) (suc zero) = omega arith
variable_left (suc zero) (suc (suc b)) = omega arith
variable_left (suc (suc a)) (suc b) = omega arith

-- more on the right
variable_more : (a b d : ℕ) → b ≤ d → variable_together a b ≤ variable_together a d
variable_more zero b d h = h
variable_more (suc a) zero d h = variable_left (suc a) d
variable_more (suc a) (suc b) zero h = absurd (omega arith)
variable_more (suc zero) (suc zero) (suc zero) h = omega arith
variable_more (suc zero) (suc zero) (suc (suc d)) h = omega arith
variable_more (suc zero) (suc (suc b)) (suc zero) h = absurd (omega arith)
variable_more (suc zero) (suc (suc b)) (suc (suc d)) h = omega arith
variable_more (suc (suc a)) (suc b) (suc d) h = omega arith

-- reads and writes of a variable add up
pub variables_add_up : AddsUp variable_together
variables_add_up = record {
  left = variable_left;
  right = λ a b. subst (λ n. b ≤ n) (variable_order b a) (variable_left b a);
  more = λ a b c d h k. le_trans (variable_more a b d k)
      (subst (λ n. n ≤ variable_together c d) (variable_order d a) (subst (λ n. variable_together d a ≤ n) (variable_order d c) (variable_more d a c h)));
  either_order = variable_order;
}
