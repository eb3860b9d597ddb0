use Rattle.std.proofs.Common.{take}
use Rattle.run_depths.specs.internal.Held.{GreatestBefore}
use Rattle.run_depths.proofs.held.since_now.Given as goal

abbrev pub invariant-loop-index : goal.invariant-loop-index
invariant-loop-index l = GreatestBefore l.held.places.items (take l.index l.way) l.since
