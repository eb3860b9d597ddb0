use Rattle.object_workers.proofs.Numbers.{begins}
use Rattle.object_workers.proofs.threads.room_for.Goals as goal

pub ruled-requires-clause-rule : goal.ruled-requires-clause-rule
ruled-requires-clause-rule g c = begins g.B.Branching.count
