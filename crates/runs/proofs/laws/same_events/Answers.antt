-- Lists with the same events are respecting orders of each other.
use Rattle.runs.proofs.public.FromOpening.{same_events}
use Rattle.runs.proofs.laws.same_events.Goals as goal

pub returns : goal.returns
returns c = same_events
