use Rattle.dap_moves.proofs.Nearest.{so_far_all, so_far_more, so_far_none}
use Rattle.dap_moves.proofs.run.nearest.Goals as goal

pub loop-event-init : goal.loop-event-init
loop-event-init c =
    so_far_none c.args.system.now c.args.only c.args.turn c.args.count c.args.events.now c.args.first.0 c.args.first.1.now c.requires

pub loop-event-preserved : goal.loop-event-preserved
loop-event-preserved c =
    so_far_more c.args.system.now c.args.only c.args.turn c.args.count c.args.events.now c.loop-event.event-index c.loop-event.found.0
    c.nearer-found.result.0 c.loop-event.found.1.now c.nearer-found.result.1.now c.event-item.result c.loop-event-test.true c.event-item.is
    c.loop-event.invariant c.nearer-found.ensures

pub returns : goal.returns
returns c =
    so_far_all c.args.system.now c.args.only c.args.turn c.args.count c.args.events.now c.loop-event.event-index c.loop-event.found.0
    c.loop-event.found.1.now c.loop-event-test.false c.loop-event.invariant
