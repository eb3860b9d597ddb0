use Rattle.std.proofs.Common.{refl, sym, ◌∙◌}
use Rattle.machine.proofs.public.MarkLaws.{step-marks}
use Rattle.trace_file.proofs.LoadLemmas.{stepped-as}
use Rattle.trace_file.proofs.reader.take_step.Goals as goal

pub returns-clause-step : goal.returns-clause-step
returns-clause-step c =
    stepped-as c.args.machine.now c.step-stepped.new.self c.args.choice.now c.args.number c.step-stepped.result c.outcome.result
    c.outcome.ensures c.step-stepped.ensures.answers

pub returns-clause-marked : goal.returns-clause-marked
returns-clause-marked c =
    c.step-stepped.ensures.marked ∙ sym (step-marks c.step-stepped.result c.args.machine.now.marked c.args.machine.now.marked refl)
