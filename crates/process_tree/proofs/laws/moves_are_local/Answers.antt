-- The moves of the tree are those of what is left of it.
use Rattle.process_tree.proofs.public.Simulation.{does, did}
use Rattle.process_tree.proofs.laws.moves_are_local.Goals as goal

pub returns : goal.returns
returns c = record { made = does; offered = did }
