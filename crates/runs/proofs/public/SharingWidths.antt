-- The rule on sharing as limits of the widths of a residual, which steps keep.
use Rattle.std.specs.Prelude.{ℕ, zero, suc, max, ◌≡◌, ◌≤◌, Bool, true, false}
use Rattle.system.specs.Residual.{Residual}
use Rattle.sharing_rule.specs.Measure.{amount, sending, receiving, syncing, Measure, only, nothing}

-- readers beside readers count 1, one branch alone counts as it is, and a writer beside another branch that uses the variable counts at least 3
abbrev pub variable_together : ℕ → ℕ → ℕ
variable_together zero b = b
variable_together (suc a) zero = suc a
variable_together (suc zero) (suc zero) = 1
variable_together (suc zero) (suc (suc b)) = max 3 (suc (suc b))
variable_together (suc (suc a)) (suc b) = max 3 (max (suc (suc a)) (suc b))

-- a variable: a read counts 1, a write 2, a clash 3 or more
abbrev pub on_variable : ℕ → Measure
on_variable x = record { together = variable_together; reads = only 1 x; writes = only 2 x; sends = nothing; holds = nothing; receives = nothing; opens = nothing; closes = nothing; syncs = nothing }

-- a data channel has at most one sender and one receiver at a time
pub record SharesChannel (c : ℕ) (r : Residual) : Type 0 where
  pub one_sender : amount (sending c) r ≤ 1
  pub one_receiver : amount (receiving c) r ≤ 1

-- No channel and no variable is used by more branches at one time than may use it.
pub record KeepsSharing (is_sync : ℕ → Bool) (is_shared : ℕ → Bool) (r : Residual) : Type 0 where
  -- a channel with data has one sender and one receiver
  pub data_channels : (c : ℕ) → is_sync c ≡ false → SharesChannel c r
  -- a channel without data has two users
  pub sync_channels : (c : ℕ) → is_sync c ≡ true → amount (syncing c) r ≤ 2
  -- a variable that is not shared has readers alone, or is used in one branch: a read counts 1, a write 2,
  -- and a write beside another use 3
  pub variables : (x : ℕ) → is_shared x ≡ false → amount (on_variable x) r ≤ 2
