-- Respecting orders grow the same.
use Rattle.event_inverse.proofs.public.FromOpening.{orders-have-one-tree}
use Rattle.event_inverse.proofs.laws.orders_have_one_tree.Goals as goal

pub returns : goal.returns
returns c = orders-have-one-tree
