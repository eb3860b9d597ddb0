-- A list runs without an event and its consequences.
use Rattle.runs.proofs.public.FromOpening.{runs_without_consequences}
use Rattle.runs.proofs.laws.runs_without_consequences.Goals as goal

pub returns : goal.returns
returns c = runs_without_consequences
