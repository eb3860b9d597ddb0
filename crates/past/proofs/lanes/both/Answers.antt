use Rattle.past.proofs.LaneLaws.{has-both}
use Rattle.past.proofs.lanes.both.Goals as goal

pub returns : goal.returns
returns c = λ k. has-both c.args.one c.args.other k
