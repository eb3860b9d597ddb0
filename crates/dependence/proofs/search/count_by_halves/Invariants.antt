use Rattle.std.proofs.Common.{◌-◌, map}
use Rattle.dependence.proofs.SearchLaws.{Narrowed}
use Rattle.dependence.proofs.search.count_by_halves.Given as goal

abbrev pub invariant-loop-low : goal.invariant-loop-low
invariant-loop-low g l = record { narrowed : Narrowed (map g.T.Placed.place l.seats) l.place l.low l.high l.low_shared l.high_shared }

abbrev pub decreases-loop-low : goal.decreases-loop-low
decreases-loop-low g l = l.high - l.low
