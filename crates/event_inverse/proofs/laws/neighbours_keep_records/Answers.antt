-- Two events made the other way round.
use Rattle.event_inverse.proofs.public.Neighbours.{neighbours}
use Rattle.event_inverse.proofs.laws.neighbours_keep_records.Goals as goal

pub returns : goal.returns
returns c = neighbours
