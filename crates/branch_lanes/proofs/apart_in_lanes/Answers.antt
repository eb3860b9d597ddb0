use Rattle.branch_lanes.proofs.public.Trimming.{apart-in-lanes}
use Rattle.branch_lanes.proofs.apart_in_lanes.Goals as goal

pub returns : goal.returns
returns c = apart-in-lanes
