use Rattle.std.proofs.Common.{◌≡◌, vec_len}
use Rattle.branch_lanes.specs.Lanes.{trimmed}
use Rattle.branch_lanes.proofs.trim.Given as goal

abbrev pub invariant-zeros : goal.invariant-zeros
invariant-zeros l = trimmed l.lane.items ≡ trimmed l.initial.lane.items

abbrev pub decreases-zeros : goal.decreases-zeros
decreases-zeros l = vec_len l.lane
