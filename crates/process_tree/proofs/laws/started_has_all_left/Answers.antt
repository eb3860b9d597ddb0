-- Before the first move all is left.
use Rattle.process_tree.proofs.public.Puts.{left-started}
use Rattle.process_tree.proofs.laws.started_has_all_left.Goals as goal

pub returns : goal.returns
returns c = left-started
