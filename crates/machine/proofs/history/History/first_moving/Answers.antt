use Rattle.machine.specs.AtMachine.{at_machine}
use Rattle.machine.specs.internal.Choosing.{moves}
use Rattle.machine.proofs.public.Branches.{fails-more}
use Rattle.machine.proofs.history.History.first_moving.Goals as goal

pub loop-i-preserved : goal.loop-i-preserved
loop-i-preserved c =
    fails-more (moves (at_machine c.args.system.now c.args.self.now) c.args.branch c.args.breaks.now) c.args.events.now c.loop-i.i _ _ c.loop-i.invariant
    c.loop-i-test.true c.index-events-i.is c.moves.ensures c.if-moves.false
