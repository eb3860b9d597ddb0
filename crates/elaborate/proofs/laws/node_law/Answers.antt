-- The nodes of a system.
use Rattle.elaborate.proofs.Expanded.{counted_is}
use Rattle.elaborate.proofs.laws.node_law.Goals as goal

pub returns : goal.returns
returns c = counted_is
