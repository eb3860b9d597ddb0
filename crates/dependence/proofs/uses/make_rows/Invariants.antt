use Rattle.std.proofs.Common.{◌≡◌, ℕ, ◌+◌, ◌-◌, length, get_or, []}
use Rattle.dependence.specs.internal.Tickets.{rows_of}
use Rattle.dependence.proofs.uses.make_rows.Given as goal

abbrev pub invariant-rows : goal.invariant-rows
invariant-rows l = (x : ℕ) → get_or (rows_of l.rows.items) x [] ≡ get_or (rows_of l.fn.rows.items) x []

abbrev pub decreases-rows : goal.decreases-rows
decreases-rows l = l.number + 1 - length l.rows.items
