-- A process is finished where nothing is left of it.
use Rattle.process_tree.proofs.public.Formed.{finished-done}
use Rattle.process_tree.proofs.laws.finished_is_done.Goals as goal

pub returns : goal.returns
returns c = finished-done
