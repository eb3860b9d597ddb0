use Rattle.rings.proofs.Edging.{ComesBehind, StandBelow}
use Rattle.rings.proofs.tables.waiters_of.Given as goal

abbrev pub invariant-loop-number : goal.invariant-loop-number
invariant-loop-number l = StandBelow l.waiters l.number (ComesBehind l.partners)
