use Rattle.rings.proofs.Edging.{Added, AtPrefix}
use Rattle.rings.proofs.tables.add_rows.Given as goal

abbrev pub invariant-loop-length : goal.invariant-loop-length
invariant-loop-length l = Added l.fn.above l.above l.number (AtPrefix l.waiters l.place l.length)
