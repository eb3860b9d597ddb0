-- A record takes its event back.
use Rattle.event_inverse.proofs.public.Neighbours.{reverts}
use Rattle.event_inverse.proofs.laws.records_revert.Goals as goal

pub returns : goal.returns
returns c = reverts
