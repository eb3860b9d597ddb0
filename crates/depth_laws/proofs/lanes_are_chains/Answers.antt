use Rattle.depth_laws.proofs.InLanes.{lanes-are-chains}
use Rattle.depth_laws.proofs.lanes_are_chains.Goals as goal

pub returns : goal.returns
returns c = lanes-are-chains
