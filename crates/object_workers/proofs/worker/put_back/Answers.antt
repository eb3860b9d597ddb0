use Rattle.object_workers.proofs.Numbers.{gives_one, has_room}
use Rattle.object_workers.proofs.worker.put_back.Goals as goal

pub push_as-requires-clause-rule : goal.push_as-requires-clause-rule
push_as-requires-clause-rule g c = (gives_one _ _ _ _ _ c.requires.held.0 c.requires.held.1, has_room _ _ _)
