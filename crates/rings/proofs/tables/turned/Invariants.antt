use Rattle.rings.proofs.Edging.{TurnedBelow}
use Rattle.rings.proofs.tables.turned.Given as goal

abbrev pub invariant-loop-number : goal.invariant-loop-number
invariant-loop-number l = TurnedBelow l.edges l.nexts l.limit l.number
