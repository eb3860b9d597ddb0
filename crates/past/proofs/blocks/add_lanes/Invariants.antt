use Rattle.std.proofs.Common.{◌≤◌}
use Rattle.past.proofs.BlockLaws.{LanesFrom}
use Rattle.past.proofs.blocks.add_lanes.Given as goal

abbrev pub invariant-loop-place : goal.invariant-loop-place
invariant-loop-place l = record {
  high : l.place ≤ l.end;
  listed : LanesFrom l.lanes l.first l.end l.place l.fn.places l.places;
}

abbrev pub decreases-loop-place : goal.decreases-loop-place
decreases-loop-place l = l.place
