-- Related events of a run are ordered by their addresses.
use Rattle.runs.proofs.public.FromOpening.{ordered}
use Rattle.runs.proofs.laws.ordered.Goals as goal

pub returns : goal.returns
returns c = ordered
