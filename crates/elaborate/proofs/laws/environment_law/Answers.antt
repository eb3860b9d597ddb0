-- The branches of the environment.
use Rattle.elaborate.proofs.PortBranches.{in_port_order}
use Rattle.elaborate.proofs.laws.environment_law.Goals as goal

pub returns : goal.returns
returns c = in_port_order
