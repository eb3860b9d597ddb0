-- Steps.
use Rattle.runs.proofs.public.ObjectLaws.{step-makes, not-ready-exactly, limits-exactly}
use Rattle.runs.proofs.public.SomeReplies.{steps-exactly}
use Rattle.runs.proofs.object_laws.step_laws.Goals as goal

pub returns : goal.returns
returns c = record { taken = steps-exactly; makes = step-makes; not_ready = not-ready-exactly; limits = limits-exactly }
