-- What is accepted becomes the same.
use Rattle.types.proofs.SameProcedures.{tree_same}
use Rattle.types.proofs.laws.tree_stays_the_same.Goals as goal

pub returns : goal.returns
returns c = tree_same
