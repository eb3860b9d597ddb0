use Rattle.std.proofs.Common.{◌≡◌, ◌≤◌, drop, length}
use Rattle.address.proofs.are_same.Given as goal

-- the entries passed are the same in both
abbrev pub invariant-loop-index : goal.invariant-loop-index
invariant-loop-index l = (l.index ≤ length l.one) × (length l.one ≡ length l.other) × (drop l.index l.one ≡ drop l.index l.other)

abbrev pub decreases-loop-index : goal.decreases-loop-index
decreases-loop-index l = l.index
