-- No two events of a run have one acting address.
use Rattle.runs.proofs.public.FromOpening.{acting_once}
use Rattle.runs.proofs.laws.acting_once.Goals as goal

pub returns : goal.returns
returns c = acting_once
