use Rattle.std.proofs.Common.{inr, refl}
use Rattle.idle_branches.proofs.glance.taker.Goals as goal

pub returns-else-is_given : goal.returns-else-is_given
returns-else-is_given c = inr (refl, λ tidy h values are run. c.is_given.ensures c.if-is_given.false tidy h values are run)
