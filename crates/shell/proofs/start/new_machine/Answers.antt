use Rattle.shell.proofs.BeginLemmas.{new-machine}
use Rattle.shell.proofs.start.new_machine.Goals as goal

pub returns-in-Ok : goal.returns-in-Ok
returns-in-Ok c =
    new-machine c.args.texts.now.source.now c.args.texts.now.stimulus.now c.in-Ok.checked c.new.result c.or_memory.result
    c.in-Ok.ensures.system c.or_memory.ensures c.new.ensures
