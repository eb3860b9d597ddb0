use Rattle.dependence.proofs.public.FollowerLaws.{least-is-follower}
use Rattle.dependence.proofs.laws.least_is_follower.Goals as goal

pub returns : goal.returns
returns c = least-is-follower
