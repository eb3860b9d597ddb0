use Rattle.calculus.proofs.OneRunLaws.{runs-answer}
use Rattle.calculus.proofs.one_run.does_run.Goals as goal

pub returns : goal.returns
returns c = runs-answer c.args.system.now c.args.events.now c.in_ok-replay.field-0 c.is_some.result c.is_some.ensures c.in_ok-replay.ensures.run
