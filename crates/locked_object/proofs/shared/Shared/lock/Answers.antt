use Rattle.std.proofs.Common.{arith}
use Rattle.locked_object.proofs.Locking.{locks}
use Rattle.locked_object.proofs.shared.Shared.lock.Goals as goal

pub swap_new_mark-found-requires : goal.swap_new_mark-found-requires
swap_new_mark-found-requires g c = (omega arith, locks)
