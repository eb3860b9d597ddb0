use Rattle.picture_laws.proofs.OnePage.{one-page}
use Rattle.picture_laws.proofs.equal_runs_have_one_page.Goals as goal

pub returns : goal.returns
returns c = one-page c.waiters_have_one_order.ensures c.one_ring_is_told.ensures
