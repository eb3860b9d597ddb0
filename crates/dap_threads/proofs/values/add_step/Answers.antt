use Rattle.dap_threads.proofs.Unfolding.{leaves_more}
use Rattle.dap_threads.proofs.values.add_step.Goals as goal

pub returns-in-Some : goal.returns-in-Some
returns-in-Some c = leaves_more c.args.list.now c.push.new.self c.step.result c.step.ensures c.push.ensures
