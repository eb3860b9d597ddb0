use Rattle.waiting.proofs.OneTold.{one-ring}
use Rattle.waiting.proofs.laws.one_ring_is_told.Goals as goal

pub returns : goal.returns
returns c = one-ring c.first_rings_are_one.ensures
