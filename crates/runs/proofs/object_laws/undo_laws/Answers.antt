-- Undo.
use Rattle.runs.proofs.public.ObjectLaws.{step-then-undo, undoes-exactly, undo-takes-one, needed-exactly}
use Rattle.runs.proofs.object_laws.undo_laws.Goals as goal

pub returns : goal.returns
returns c = record { restores = step-then-undo; exactly = undoes-exactly; one = undo-takes-one; needed = needed-exactly }
