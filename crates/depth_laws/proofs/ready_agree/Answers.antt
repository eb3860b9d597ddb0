use Rattle.depth_laws.proofs.public.OneState.{ready-agree}
use Rattle.depth_laws.proofs.ready_agree.Goals as goal

pub returns : goal.returns
returns c = ready-agree
