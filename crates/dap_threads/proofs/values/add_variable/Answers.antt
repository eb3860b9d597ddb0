use Rattle.dap_threads.specs.Variables.{is_variable_of}
use Rattle.dap_threads.proofs.Unfolding.{named_one, named_same}
use Rattle.dap_threads.proofs.values.add_variable.Goals as goal

pub returns-in-Some : goal.returns-in-Some
returns-in-Some c =
    named_one c.args.list.now c.push.new.self c.variable.result c.args.named.now (is_variable_of c.args.instance c.args.named.now) c.in-Some.ensures
    c.variable.ensures.name_is c.variable.ensures.leaf c.push.ensures

pub returns-in-None : goal.returns-in-None
returns-in-None c = named_same c.args.list.now c.args.named.now (is_variable_of c.args.instance c.args.named.now) c.in-None.ensures
