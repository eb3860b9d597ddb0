use Rattle.dap_threads.proofs.Unfolding.{adds_none}
use Rattle.dap_threads.proofs.values.add_calls.Goals as goal

pub loop-index-init : goal.loop-index-init
loop-index-init c = adds_none c.args.list.now

pub loop-index-preserved : goal.loop-index-preserved
loop-index-preserved c = c.add_call.ensures c.args.list.now c.loop-index.invariant
