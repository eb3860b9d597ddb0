-- The value after a rollback.
use Rattle.runs.proofs.public.ObjectLaws.{rolled-value}
use Rattle.runs.proofs.object_laws.rolled_value_law.Goals as goal

pub returns : goal.returns
returns c = rolled-value
