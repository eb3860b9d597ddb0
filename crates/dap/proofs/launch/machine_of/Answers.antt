use Rattle.dap.specs.Files.{text_of}
use Rattle.dap.proofs.Machines.{begins_at, unaccepted_at}
use Rattle.dap.proofs.launch.machine_of.Goals as goal

pub returns-in-Ok : goal.returns-in-Ok
returns-in-Ok c =
    begins_at c.args.texts.now.source.items c.as_slice-source.result.now c.args.texts.now.stimulus.items c.as_slice-stimulus.result.now
    c.in-Ok.checked (text_of c.args.texts.now.trace) c.machine_on.result c.args.answer.now c.checked.new.answer c.machine_on.new.answer
    c.as_slice-source.ensures.value c.as_slice-stimulus.ensures.value c.in-Ok.ensures c.machine_on.ensures

pub returns-in-Err : goal.returns-in-Err
returns-in-Err c =
    unaccepted_at c.args.texts.now.source.items c.as_slice-source.result.now c.args.texts.now.stimulus.items c.as_slice-stimulus.result.now
    (text_of c.args.texts.now.trace) c.in-Err.failed c.checked.new.answer c.as_slice-source.ensures.value c.as_slice-stimulus.ensures.value
    c.in-Err.ensures
