-- Two moves made the other way round.
use Rattle.process_tree.proofs.public.Swap.{swap}
use Rattle.process_tree.proofs.laws.moves_swap.Goals as goal

pub returns : goal.returns
returns c = swap
