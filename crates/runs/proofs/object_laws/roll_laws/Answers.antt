-- Rollback.
use Rattle.runs.proofs.public.ObjectLaws.{rolls-exactly, rolls-value-exactly}
use Rattle.runs.proofs.public.SomeReplies.{rolls-where-live, rolls-value-where-written}
use Rattle.runs.proofs.object_laws.roll_laws.Goals as goal

pub returns : goal.returns
returns c = record { live = rolls-where-live; exactly = rolls-exactly; written = rolls-value-where-written; value = rolls-value-exactly }
