use Rattle.depth_laws.proofs.public.Chains.{depth-is-longest}
use Rattle.depth_laws.proofs.depth_is_longest.Goals as goal

pub returns : goal.returns
returns c = depth-is-longest
