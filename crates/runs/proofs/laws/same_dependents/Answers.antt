-- Lists with the same events have the same dependents.
use Rattle.runs.proofs.public.FromOpening.{orders_depend_alike, runs_depend_alike}
use Rattle.runs.proofs.laws.same_dependents.Goals as goal

pub returns : goal.returns
returns c = record { orders = orders_depend_alike; runs = runs_depend_alike }
