use Rattle.std.proofs.Common.{◌≡◌, ◌+◌, ◌-◌, ◌*◌, length}
use Rattle.slots.specs.Places.{rank}
use Rattle.slots.proofs.blocks.block_at.Given as goal

-- the items of the blocks that are passed, and those that are left, are those before the index
abbrev pub invariant-loop-number : goal.invariant-loop-number
invariant-loop-number g l = rank l.slots.entries (64 * l.number) + l.left ≡ l.index

abbrev pub decreases-loop-number : goal.decreases-loop-number
decreases-loop-number g l = length l.counts - l.number
