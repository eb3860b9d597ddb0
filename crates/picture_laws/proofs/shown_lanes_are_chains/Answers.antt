use Rattle.picture_laws.proofs.InShownLanes.{shown-lanes-are-chains}
use Rattle.picture_laws.proofs.shown_lanes_are_chains.Goals as goal

pub returns : goal.returns
returns c = shown-lanes-are-chains c.lanes_are_chains.ensures
