use Rattle.dap_threads.proofs.Unfolding.{leaves_more}
use Rattle.dap_threads.proofs.values.steps_of.Goals as goal

pub returns-then-is_empty : goal.returns-then-is_empty
returns-then-is_empty c = leaves_more c.newest_steps-list.result c.push.new.self c.plain.result c.plain.ensures.leaf c.push.ensures c.newest_steps-list.ensures
