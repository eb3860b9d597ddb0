use Rattle.past.proofs.LaneLaws.{has-without}
use Rattle.past.proofs.lanes.without.Goals as goal

pub returns : goal.returns
returns c = λ k low. has-without c.args.one c.args.other k c.ranges.other.fits low
