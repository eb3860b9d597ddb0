use Rattle.machine.proofs.public.Branches.{stepped-is-step, others-leave}
use Rattle.machine.proofs.laws.branch_laws.Goals as goal

pub returns : goal.returns
returns c = record { steps = stepped-is-step; others = others-leave }
