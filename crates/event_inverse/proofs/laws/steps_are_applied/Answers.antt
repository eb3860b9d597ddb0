-- Steps are made by the tree.
use Rattle.event_inverse.proofs.public.FromOpening.{trees-open-alike}
use Rattle.event_inverse.proofs.public.Neighbours.{applies}
use Rattle.event_inverse.proofs.laws.steps_are_applied.Goals as goal

pub returns : goal.returns
returns c = record { opening = trees-open-alike; step = applies }
