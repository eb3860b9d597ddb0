use Rattle.depth_laws.proofs.CauseChains.{depth-is-longest-of-causes}
use Rattle.depth_laws.proofs.depth_is_longest_of_causes.Goals as goal

pub returns : goal.returns
returns c = depth-is-longest-of-causes
