use Rattle.rings.proofs.Edging.{StandBelow, StandsThere}
use Rattle.rings.proofs.tables.standing_of.Given as goal

abbrev pub invariant-loop-number : goal.invariant-loop-number
invariant-loop-number l = StandBelow l.standing l.number (StandsThere l.actions)
