-- Neighbours of a run swap.
use Rattle.runs.proofs.public.FromOpening.{neighbours_swap}
use Rattle.runs.proofs.laws.neighbours_swap.Goals as goal

pub returns : goal.returns
returns c = neighbours_swap
