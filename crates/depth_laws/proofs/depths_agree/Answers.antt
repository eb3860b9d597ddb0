use Rattle.depth_laws.proofs.public.EqualRuns.{depths-agree}
use Rattle.depth_laws.proofs.depths_agree.Goals as goal

pub returns : goal.returns
returns c = depths-agree
