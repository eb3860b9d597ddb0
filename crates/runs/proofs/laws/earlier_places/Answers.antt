-- Addresses of a run are before or apart.
use Rattle.runs.proofs.public.FromOpening.{earlier_places}
use Rattle.runs.proofs.laws.earlier_places.Goals as goal

pub returns : goal.returns
returns c = earlier_places
