use Rattle.std.proofs.Common.{◌-◌, ◌≤◌, length, take}
use Rattle.dependence.specs.internal.Seats.{AllOrdered}
use Rattle.dependence.proofs.ways.way_length.Given as goal

abbrev pub invariant-loop-count : goal.invariant-loop-count
invariant-loop-count l = record { within : l.count ≤ length l.place; ordered : AllOrdered (take l.count l.place) }

abbrev pub decreases-loop-count : goal.decreases-loop-count
decreases-loop-count l = length l.place - l.count
