use Rattle.dependence.proofs.public.FollowerLaws.{no-new-follower}
use Rattle.dependence.proofs.laws.no_new_follower.Goals as goal

pub returns : goal.returns
returns c = no-new-follower
