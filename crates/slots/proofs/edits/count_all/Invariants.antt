use Rattle.std.proofs.Common.{◌≡◌, ◌+◌, ◌-◌, ◌*◌, ◌<◌, ◌≤◌, ℕ, Some, length}
use Rattle.std.specs.Prelude.{◌⊎◌, slice_get}
use Rattle.slots.proofs.edits.count_all.Given as goal

-- the blocks that are passed are told
abbrev pub invariant-loop-number : goal.invariant-loop-number
invariant-loop-number l = record {
  size : length l.counts ≡ length l.fn.counts;
  left : l.left ≡ l.len - 64 * l.number;
  told : (b n : ℕ) → b < l.number → slice_get l.counts b ≡ Some n → ((64 * b + 64 ≤ l.len) × (n ≡ 64)) ⊎ ((l.len < 64 * b + 64) × (n ≡ l.len - 64 * b));
}
