use Rattle.shell.proofs.BeginLemmas.{machine-of}
use Rattle.shell.proofs.load.machine_of.Goals as goal

pub returns-in-Ok : goal.returns-in-Ok
returns-in-Ok c =
    machine-of c.args.texts.now.source.now c.args.texts.now.stimulus.now c.args.trace.now c.in-Ok.checked c.load_text.result
    c.or_refused.result c.in-Ok.ensures.system c.or_refused.ensures c.load_text.ensures
