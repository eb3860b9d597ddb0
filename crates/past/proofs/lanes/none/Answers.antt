use Rattle.past.proofs.LaneLaws.{has-none}
use Rattle.past.proofs.lanes.none.Goals as goal

pub returns : goal.returns
returns c = λ k. has-none k
