use Rattle.rings.proofs.Trailing.{Nexts}
use Rattle.rings.proofs.ring.next_in.Given as goal

abbrev pub invariant-nexts : goal.invariant-nexts
invariant-nexts l = Nexts l.seen l.fn.left l.left l.row l.below

abbrev pub decreases-nexts : goal.decreases-nexts
decreases-nexts l = l.below
