-- The nodes of an accepted system are within the limits.
use Rattle.front_end.proofs.SystemLaws.{small}
use Rattle.front_end.proofs.laws.system_is_small.Goals as goal

pub returns : goal.returns
returns c = small
