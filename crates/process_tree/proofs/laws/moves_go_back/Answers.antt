-- A move taken back.
use Rattle.process_tree.proofs.public.Back.{back}
use Rattle.process_tree.proofs.laws.moves_go_back.Goals as goal

pub returns : goal.returns
returns c = back
