use Rattle.std.proofs.Common.{take}
use Rattle.run_depths.proofs.public.Deepening.{AheadTo}
use Rattle.run_depths.proofs.ahead.ahead_of.Given as goal

abbrev pub invariant-loop-follower : goal.invariant-loop-follower
invariant-loop-follower l = AheadTo l.live.live l.index (take l.follower-index l.followers) l.ahead
