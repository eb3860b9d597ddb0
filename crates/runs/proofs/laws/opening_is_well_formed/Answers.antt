-- What every system opens with is well formed, and so are the states of runs.
use Rattle.runs.proofs.public.Opening.{opening-formed}
use Rattle.runs.proofs.public.FromOpening.{states_are_well_formed}
use Rattle.runs.proofs.laws.opening_is_well_formed.Goals as goal

pub returns : goal.returns
returns c = record { opening = opening-formed; states = states_are_well_formed }
