use Rattle.acting_places.proofs.Lying.{events-lie}
use Rattle.acting_places.proofs.laws.events_lie_in_branches.Goals as goal

pub returns : goal.returns
returns c = events-lie
