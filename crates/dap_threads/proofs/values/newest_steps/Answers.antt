use Rattle.dap_threads.proofs.Unfolding.{leaves_none}
use Rattle.dap_threads.proofs.values.newest_steps.Goals as goal

pub loop-init : goal.loop-init
loop-init c = leaves_none c.new-list.result c.new-list.ensures
