use Rattle.dap.specs.Asking.{asked_by}
use Rattle.dap.proofs.Reading.{texts_more}
use Rattle.dap.proofs.texts.texts_beside.Goals as goal

pub returns-in-Ok : goal.returns-in-Ok
returns-in-Ok g c =
    texts_more (g.F.Sources.reads c.args.files.now) (asked_by c.args.asked.now) c.texts_with.result c.args.source c.in-Ok.stimulus
    c.args.answer.now c.stimulus.new.answer c.texts_with.new.answer c.in-Ok.ensures c.texts_with.ensures
