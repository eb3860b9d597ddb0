use Rattle.rings.proofs.Chosen.{HasFirst}
use Rattle.rings.proofs.wanted.uses_of.Given as goal

abbrev pub invariant-loop-number : goal.invariant-loop-number
invariant-loop-number l = HasFirst l.uses l.ends l.number
