-- Events of a run are distinct.
use Rattle.runs.proofs.public.FromOpening.{events_are_distinct}
use Rattle.runs.proofs.laws.events_are_distinct.Goals as goal

pub returns : goal.returns
returns c = events_are_distinct
