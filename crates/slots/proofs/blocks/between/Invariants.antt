use Rattle.std.proofs.Common.{◌≡◌, ◌+◌}
use Rattle.slots.specs.Places.{rank}
use Rattle.slots.proofs.blocks.between.Given as goal

abbrev pub invariant-loop-place : goal.invariant-loop-place
invariant-loop-place g l = rank l.slots.entries l.start + l.sum ≡ rank l.slots.entries l.place
