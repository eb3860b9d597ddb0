-- The names of an accepted system.
use Rattle.elaborate.proofs.DistinctNames.{names_distinct}
use Rattle.elaborate.proofs.laws.name_law.Goals as goal

pub returns : goal.returns
returns c = names_distinct
