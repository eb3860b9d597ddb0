use Rattle.rings.proofs.Edging.{RowsBelow}
use Rattle.rings.proofs.tables.above_of.Given as goal

abbrev pub invariant-loop-number : goal.invariant-loop-number
invariant-loop-number l = RowsBelow l.above l.waiters l.actions l.number
