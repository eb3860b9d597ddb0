use Rattle.picture_laws.proofs.OnePicture.{one-picture}
use Rattle.picture_laws.proofs.one_run_shows_the_same.Goals as goal

pub returns : goal.returns
returns c = λ m. one-picture c.waiters_have_one_order.ensures c.one_ring_is_told.ensures m m.marked
