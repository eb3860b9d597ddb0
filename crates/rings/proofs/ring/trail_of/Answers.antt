use Rattle.rings.proofs.Trailing.{opens-all}
use Rattle.rings.proofs.ring.trail_of.Goals as goal

pub returns-clause-left : goal.returns-clause-left
returns-clause-left c = opens-all c.args.tables.now.waiters c.args.actions.now c.in_ok-left.left c.in_ok-seen.seen.items c.in_ok-left.ensures
