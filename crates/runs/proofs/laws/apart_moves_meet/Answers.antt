-- Moves at places apart can be made one after the other, and were both offered.
use Rattle.runs.proofs.public.Together.{together}
use Rattle.runs.proofs.public.AtOnce.{was_offered}
use Rattle.runs.proofs.laws.apart_moves_meet.Goals as goal

pub returns : goal.returns
returns c = record { made = together; offered = was_offered }
