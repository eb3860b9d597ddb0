use Rattle.depth_laws.proofs.public.OneState.{lines-agree}
use Rattle.depth_laws.proofs.lines_agree.Goals as goal

pub returns : goal.returns
returns c = lines-agree
