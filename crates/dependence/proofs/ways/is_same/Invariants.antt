-- Behind the index both are the same.
use Rattle.std.proofs.Common.{◌≡◌, ◌≤◌, length, drop}
use Rattle.dependence.proofs.ways.is_same.Given as goal

abbrev pub invariant-loop-index : goal.invariant-loop-index
invariant-loop-index l = record { within : l.index ≤ length l.one; behind : drop l.index l.one ≡ drop l.index l.other }

abbrev pub decreases-loop-index : goal.decreases-loop-index
decreases-loop-index l = l.index
