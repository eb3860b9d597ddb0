-- The places of a system.
use Rattle.elaborate.proofs.CallPlaces.{no_place}
use Rattle.elaborate.proofs.laws.place_law.Goals as goal

pub returns : goal.returns
returns c = no_place
