use Rattle.dap.specs.Asking.{asked_by}
use Rattle.dap.proofs.Reading.{source_missing, texts_all}
use Rattle.dap.proofs.texts.texts_of.Goals as goal

pub returns-in-Ok : goal.returns-in-Ok
returns-in-Ok g c =
    texts_all (g.F.Sources.reads c.args.files.now) (asked_by c.args.asked.now) c.texts_beside.result c.in-Ok.source c.as_str.result.now
    c.args.answer.now c.file.new.answer c.texts_beside.new.answer c.as_str.ensures.value c.in-Ok.ensures c.texts_beside.ensures

pub returns-in-Err : goal.returns-in-Err
returns-in-Err g c =
    source_missing (g.F.Sources.reads c.args.files.now) (asked_by c.args.asked.now) c.in-Err.failed c.as_str.result.now c.file.new.answer
    c.as_str.ensures.value c.in-Err.ensures
