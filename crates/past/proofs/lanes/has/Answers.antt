use Rattle.past.proofs.LaneLaws.{has-shifted}
use Rattle.past.proofs.lanes.has.Goals as goal

pub returns : goal.returns
returns c = has-shifted c.args.lanes c.args.lane
