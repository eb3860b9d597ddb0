use Rattle.depth_laws.proofs.public.EqualRaces.{races-agree}
use Rattle.depth_laws.proofs.races_agree.Goals as goal

pub returns : goal.returns
returns c = races-agree
