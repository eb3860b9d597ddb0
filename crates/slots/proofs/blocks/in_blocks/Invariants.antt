use Rattle.std.proofs.Common.{◌≡◌, ◌+◌, ◌*◌}
use Rattle.slots.specs.Places.{rank}
use Rattle.slots.proofs.blocks.in_blocks.Given as goal

abbrev pub invariant-loop-at : goal.invariant-loop-at
invariant-loop-at g l = rank l.slots.entries (64 * l.from) + l.sum ≡ rank l.slots.entries (64 * l.at)
