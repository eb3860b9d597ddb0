use Rattle.std.proofs.Common.{refl}
use Rattle.dap.proofs.launch.launched_on.Goals as goal

pub returns-in-Err : goal.returns-in-Err
returns-in-Err c = c.note.ensures.memory refl
