-- The shape of a system.
use Rattle.elaborate.proofs.KeptRoot.{shape_kept}
use Rattle.elaborate.proofs.laws.shape_law.Goals as goal

pub returns : goal.returns
returns c = shape_kept
