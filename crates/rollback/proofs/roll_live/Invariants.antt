use Rattle.std.proofs.Common.{length}
use Rattle.rollback.proofs.Rolling.{Rolling}
use Rattle.rollback.proofs.roll_live.Given as goal

abbrev pub invariant-loop-last : goal.invariant-loop-last
invariant-loop-last l = Rolling l.initial.machine l.machine l.fn.ticket

abbrev pub decreases-loop-last : goal.decreases-loop-last
decreases-loop-last l = length l.machine.marked
