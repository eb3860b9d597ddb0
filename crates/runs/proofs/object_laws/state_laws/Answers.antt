-- The state in every order.
use Rattle.runs.proofs.public.ObjectLaws.{state-in-every-order, state-after-any-commands}
use Rattle.runs.proofs.object_laws.state_laws.Goals as goal

pub returns : goal.returns
returns c = record { sound = state-in-every-order; after = state-after-any-commands }
