use Rattle.std.proofs.Common.{◌≤◌, length, take}
use Rattle.run_depths.proofs.public.Deepening.{DepthTo}
use Rattle.run_depths.proofs.depth.depth_of.Given as goal

abbrev pub invariant-loop-lead : goal.invariant-loop-lead
invariant-loop-lead l = record {
  to : DepthTo l.live.live l.depths (take l.lead-index l.leads) l.depth;
  small : l.depth ≤ length l.depths;
}
