-- What is left is well formed.
use Rattle.process_tree.proofs.public.Formed.{left-formed}
use Rattle.process_tree.proofs.laws.left_is_formed.Goals as goal

pub returns : goal.returns
returns c = left-formed
