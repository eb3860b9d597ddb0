-- The names of an accepted system are distinct.
use Rattle.front_end.proofs.SystemLaws.{names_distinct}
use Rattle.front_end.proofs.laws.names_are_distinct.Goals as goal

pub returns : goal.returns
returns c = names_distinct c.names_are_own.ensures c.name_law.ensures
