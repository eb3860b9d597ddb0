-- A list leads to one state.
use Rattle.runs.proofs.public.FromOpening.{one_state}
use Rattle.runs.proofs.laws.one_state.Goals as goal

pub returns : goal.returns
returns c = one_state
