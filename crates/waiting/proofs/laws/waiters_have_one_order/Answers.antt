use Rattle.waiting.proofs.InOneOrder.{one-list}
use Rattle.waiting.proofs.laws.waiters_have_one_order.Goals as goal

pub returns : goal.returns
returns c = one-list
