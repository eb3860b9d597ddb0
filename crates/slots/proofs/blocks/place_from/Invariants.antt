use Rattle.std.proofs.Common.{◌≡◌, ◌+◌}
use Rattle.slots.specs.Places.{rank}
use Rattle.slots.proofs.blocks.place_from.Given as goal

-- the items that are passed, and those that are left
abbrev pub invariant-loop-place : goal.invariant-loop-place
invariant-loop-place g l = rank l.slots.entries l.place + l.left ≡ rank l.slots.entries l.start + l.before
