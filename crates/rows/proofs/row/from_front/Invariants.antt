use Rattle.std.proofs.Common.{◌≡◌, ◌+◌, length, take}
use Rattle.rows.specs.Flat.{flat}
use Rattle.rows.proofs.row.from_front.Given as goal

-- the items that are passed, and those that are left, are those before the index
abbrev pub invariant-loop-number : goal.invariant-loop-number
invariant-loop-number g l = length (flat (take l.number l.rows)) + l.left ≡ l.index
