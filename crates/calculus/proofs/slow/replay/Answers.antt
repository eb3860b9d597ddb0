use Rattle.calculus.proofs.Replayed.{replayed, ruled}
use Rattle.calculus.proofs.slow.replay.Goals as goal

pub returns-clause-run : goal.returns-clause-run
returns-clause-run c =
    replayed c.args.system.now c.system.result.now c.args.events.now c.state_after.result c.system.ensures c.state_after.ensures

pub returns-clause-ruled : goal.returns-clause-ruled
returns-clause-ruled c =
    ruled c.args.system.now c.args.events.now c.state_after.result c.shares_well.ensures
    (replayed c.args.system.now c.system.result.now c.args.events.now c.state_after.result c.system.ensures c.state_after.ensures)
