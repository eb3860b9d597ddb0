use Rattle.runs.specs.Live.{events}
use Rattle.calculus.proofs.Replayed.{replayed}
use Rattle.calculus.proofs.slow.replay_live.Goals as goal

pub returns-clause-run : goal.returns-clause-run
returns-clause-run c =
    replayed c.args.system.now c.system.result.now (events c.args.live.now) c.state_after_live.result c.system.ensures c.state_after_live.ensures
