-- A list runs without an event.
use Rattle.runs.proofs.public.FromOpening.{runs_without}
use Rattle.runs.proofs.laws.runs_without.Goals as goal

pub returns : goal.returns
returns c = runs_without
