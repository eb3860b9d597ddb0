-- The first event of the ready list with a choice.
use Rattle.runs.proofs.public.ReadyLists.{first-chosen}
use Rattle.runs.proofs.object_laws.ready_law.Goals as goal

pub returns : goal.returns
returns c = first-chosen
