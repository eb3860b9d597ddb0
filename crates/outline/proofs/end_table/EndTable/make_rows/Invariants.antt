use Rattle.std.proofs.Common.{◌≡◌, ℕ, ◌+◌, ◌-◌, length}
use Rattle.outline.specs.EndTable.{row_of}
use Rattle.outline.proofs.end_table.EndTable.make_rows.Given as goal

abbrev pub invariant-rows : goal.invariant-rows
invariant-rows l = (c : ℕ) → row_of l.self c ≡ row_of l.fn.self c

abbrev pub decreases-rows : goal.decreases-rows
decreases-rows l = l.number + 1 - length l.self.rows.items
