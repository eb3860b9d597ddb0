use Rattle.std.proofs.Common.{◌-◌}
use Rattle.dependence.proofs.Along.{Pends}
use Rattle.dependence.proofs.leading.is_alone.Given as goal

abbrev pub invariant-loop-looks : goal.invariant-loop-looks
invariant-loop-looks l = record { pends : Pends l.list.live l.tickets l.ticket l.pending.items }

abbrev pub decreases-loop-looks : goal.decreases-loop-looks
decreases-loop-looks l = 16 - l.looks
