use Rattle.dependence.proofs.public.FollowerLaws.{reached-through-followers}
use Rattle.dependence.proofs.laws.reached_through_followers.Goals as goal

pub returns : goal.returns
returns c = reached-through-followers
