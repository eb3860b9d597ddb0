use Rattle.std.proofs.Common.{◌∙◌}
use Rattle.dap.specs.Asking.{beside}
use Rattle.dap.proofs.Reading.{stimulus_from}
use Rattle.dap.proofs.texts.stimulus_beside.Goals as goal

pub returns-in-Ok : goal.returns-in-Ok
returns-in-Ok g c =
    stimulus_from (g.F.Sources.reads c.args.files.now) c.stimulus_at.result c.as_str.result.now (beside c.args.program.now) c.args.answer.now
    c.stimulus_at.new.answer (c.as_str.ensures.value ∙ c.in-Ok.ensures) c.stimulus_at.ensures
