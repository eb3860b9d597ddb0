use Rattle.idle_branches.proofs.IdleLemmas.{stays-idle}
use Rattle.idle_branches.proofs.laws.stays_idle.Goals as goal

pub returns : goal.returns
returns c = stays-idle
