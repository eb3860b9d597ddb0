use Rattle.std.proofs.Common.{◌≤◌}
use Rattle.dependence.proofs.Candidacy.{NoneBetween}
use Rattle.dependence.proofs.accesses.NewEvent.is_read_before.Given as goal

abbrev pub invariant-loop-reader : goal.invariant-loop-reader
invariant-loop-reader l = record { low : l.end ≤ l.below; none : NoneBetween l.self l.variable l.end l.below }

abbrev pub decreases-loop-reader : goal.decreases-loop-reader
decreases-loop-reader l = l.end
