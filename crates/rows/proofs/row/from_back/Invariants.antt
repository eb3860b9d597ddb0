use Rattle.std.proofs.Common.{◌≡◌, ◌≤◌, ◌<◌, ◌+◌, length, take}
use Rattle.rows.specs.Flat.{flat}
use Rattle.rows.proofs.row.from_back.Given as goal

-- what is left of those behind lies in the rows that are left
abbrev pub invariant-loop-number : goal.invariant-loop-number
invariant-loop-number g l = record {
  some : 0 < l.left;
  within : l.number ≤ length l.rows;
  sum : length (flat l.rows) + l.left ≡ length (flat (take l.number l.rows)) + l.behind;
}

abbrev pub decreases-loop-number : goal.decreases-loop-number
decreases-loop-number g l = l.number
