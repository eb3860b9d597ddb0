use Rattle.picture_laws.proofs.SameShown.{show-the-same}
use Rattle.picture_laws.proofs.equal_runs_show_the_same.Goals as goal

pub returns : goal.returns
returns c = show-the-same c.waiters_have_one_order.ensures c.one_ring_is_told.ensures
