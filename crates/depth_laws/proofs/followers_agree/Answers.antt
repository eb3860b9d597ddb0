use Rattle.depth_laws.proofs.public.EqualRuns.{followers-agree}
use Rattle.depth_laws.proofs.followers_agree.Goals as goal

pub returns : goal.returns
returns c = followers-agree
