use Rattle.dap.proofs.Machines.{fresh_on, loads_on}
use Rattle.dap.proofs.launch.machine_on.Goals as goal

pub returns-in-Some : goal.returns-in-Some
returns-in-Some c =
    loads_on c.loaded.result c.args.checked c.args.trace.now c.in-Some.text c.as_slice.result.now c.args.answer.now c.loaded.new.answer
    c.in-Some.is c.as_slice.ensures.value c.loaded.ensures

pub returns-in-None : goal.returns-in-None
returns-in-None c = fresh_on c.fresh.result c.args.checked c.args.trace.now c.args.answer.now c.in-None.is c.fresh.ensures
