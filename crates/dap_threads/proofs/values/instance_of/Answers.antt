use Rattle.dap_threads.proofs.Unfolding.{instance_shown}
use Rattle.dap_threads.proofs.values.instance_of.Goals as goal

pub returns : goal.returns
returns c =
    instance_shown c.args.program.now.index c.args.instance c.variables_of-list.result c.add_calls.new.list c.variables_of-list.ensures
    c.add_calls.ensures
