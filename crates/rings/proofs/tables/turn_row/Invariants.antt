use Rattle.std.proofs.Common.{◌≤◌}
use Rattle.rings.proofs.Edging.{InRowFrom, Turned}
use Rattle.rings.proofs.tables.turn_row.Given as goal

abbrev pub invariant-rows : goal.invariant-rows
invariant-rows l = (l.below ≤ l.limit) × Turned l.fn.nexts l.nexts l.number (InRowFrom l.edges l.number l.limit l.below)

abbrev pub decreases-rows : goal.decreases-rows
decreases-rows l = l.below
