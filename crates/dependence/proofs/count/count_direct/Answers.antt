use Rattle.dependence.proofs.Counting.{counts-none}
use Rattle.dependence.proofs.count.count_direct.Goals as goal

pub returns-in-None : goal.returns-in-None
returns-in-None c = counts-none c.args.list.now.live c.args.ticket c.in-None.ensures
