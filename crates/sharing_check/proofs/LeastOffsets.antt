-- Offsets that may be missing, and the lesser of two.
use Rattle.std.proofs.Common.{◌⊎◌, inl, inr, ⊎_elim, ℕ, zero, suc, ◌≤◌, ◌<◌, min, Option, None, Some, arith}
use Rattle.sharing_check.specs.internal.Crossing.{lesser}

pub at_most : (a n : ℕ) → (a ≤ n) ⊎ (n < a)
at_most zero n = inl (omega arith)
at_most (suc a) zero = inr (omega arith)
at_most (suc a) (suc n) = ⊎_elim (λ h. inl (omega (arith, h))) (λ h. inr (omega (arith, h))) (at_most a n)

-- the offset is there and at most n
abbrev pub Reaches : Option ℕ → ℕ → Type 0
Reaches None n = ⊥
Reaches (Some m) n = m ≤ n

pub lesser_left : (l o : Option ℕ) (n : ℕ) → Reaches l n → Reaches (lesser l o) n
lesser_left None o n h = absurd h
lesser_left (Some m) None n h = h
lesser_left (Some m) (Some k) n h = omega arith

pub lesser_right : (l o : Option ℕ) (n : ℕ) → Reaches o n → Reaches (lesser l o) n
lesser_right None o n h = h
lesser_right (Some m) None n h = absurd h
lesser_right (Some m) (Some k) n h = omega arith

pub lesser_either : (l o : Option ℕ) (n : ℕ) → Reaches (lesser l o) n → Reaches l n ⊎ Reaches o n
lesser_either None o n h = inr h
lesser_either (Some m) None n h = inl h
lesser_either (Some m) (Some k) n h = ⊎_elim (λ a. inl a) (λ a. inr (other a h)) (at_most m n)
  where
    other : n < m → min m k ≤ n → k ≤ n
    other a h = omega arith
