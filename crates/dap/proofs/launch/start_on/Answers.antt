use Rattle.dap.specs.Asking.{asked_by}
use Rattle.dap.specs.Files.{text_of}
use Rattle.dap.specs.Unlaunched.{BeginsNone}
use Rattle.dap.proofs.Machines.{begun_on}
use Rattle.dap.proofs.Refusing.{noted}
use Rattle.dap.proofs.launch.start_on.Goals as goal

pub returns-in-Ok : goal.returns-in-Ok
returns-in-Ok c =
    begun_on c.launched_on.result c.args.counting (asked_by c.args.asked) c.args.texts.source.items c.args.texts.stimulus.items
    (text_of c.args.texts.trace) c.in-Ok.machine c.args.answer.now c.machine_of.new.answer c.launched_on.new.answer c.in-Ok.ensures
    c.launched_on.ensures

pub returns-in-Err : goal.returns-in-Err
returns-in-Err c =
    let none = BeginsNone c.args.texts.source.items c.args.texts.stimulus.items (text_of c.args.texts.trace) in
    noted none none c.in-Err.failed c.machine_of.new.answer c.note.new.answer c.note.ensures.memory c.note.ensures.told (λ n it. it)
    c.in-Err.ensures
