use Rattle.object_workers.proofs.Numbers.{takes_one}
use Rattle.object_workers.proofs.public.Turns.{first_branch}
use Rattle.object_workers.proofs.worker.Worker.turn.Goals as goal

pub pop_as-requires-clause-rule : goal.pop_as-requires-clause-rule
pop_as-requires-clause-rule g c = (takes_one _ _ _, λ _ _ _ _. tt)

pub call-requires-in-None-clause-branch : goal.call-requires-in-None-clause-branch
call-requires-in-None-clause-branch g c κs within = first_branch g.B.Branching.count
