-- Dependence by tickets, and consequences.
use Rattle.runs.proofs.public.ObjectLaws.{depends-on-is-causes, consequences-exactly}
use Rattle.runs.proofs.object_laws.dependence_laws.Goals as goal

pub returns : goal.returns
returns c = record { same = depends-on-is-causes; listed = consequences-exactly }
