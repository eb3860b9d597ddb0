-- The run as a function is the run.
use Rattle.runs.proofs.public.FromOpening.{run_as_function}
use Rattle.runs.proofs.laws.run_as_function.Goals as goal

pub returns : goal.returns
returns c = run_as_function
