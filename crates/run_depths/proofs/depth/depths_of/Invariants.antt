use Rattle.std.proofs.Common.{length}
use Rattle.run_depths.proofs.public.Deepening.{KnownTo}
use Rattle.run_depths.proofs.depth.depths_of.Given as goal

abbrev pub invariant-loop-ticket : goal.invariant-loop-ticket
invariant-loop-ticket l = KnownTo l.live.live l.depths.items (length l.yielded)
