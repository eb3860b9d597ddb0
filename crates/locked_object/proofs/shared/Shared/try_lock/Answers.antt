use Rattle.std.proofs.Common.{◌∙◌, arith}
use Rattle.locked_object.proofs.Locking.{looks, takes}
use Rattle.locked_object.proofs.shared.Shared.try_lock.Goals as goal

pub load-requires : goal.load-requires
load-requires g c = (c.requires, looks _ _)

pub swap-requires : goal.swap-requires
swap-requires g c = (omega arith, c.load.ensures.0 ∙ c.requires, takes _ _)
