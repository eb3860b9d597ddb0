-- Respecting orders run.
use Rattle.runs.proofs.public.FromOpening.{respecting_orders}
use Rattle.runs.proofs.laws.respecting_orders.Goals as goal

pub returns : goal.returns
returns c = respecting_orders
