-- Least rollback.
use Rattle.runs.proofs.public.ObjectLaws.{least-rollback-law}
use Rattle.runs.proofs.object_laws.least_rollback_law.Goals as goal

pub returns : goal.returns
returns c = least-rollback-law
