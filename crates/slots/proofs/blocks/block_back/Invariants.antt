use Rattle.std.proofs.Common.{◌≡◌, ◌*◌, ◌≤◌, length}
use Rattle.slots.specs.Places.{rank}
use Rattle.slots.proofs.blocks.block_back.Given as goal

-- the items before the blocks that are passed
abbrev pub invariant-loop-before : goal.invariant-loop-before
invariant-loop-before g l = record {
  within : l.number ≤ length l.counts;
  sum : rank l.slots.entries (64 * l.number) ≡ l.before;
}

abbrev pub decreases-loop-before : goal.decreases-loop-before
decreases-loop-before g l = l.number
