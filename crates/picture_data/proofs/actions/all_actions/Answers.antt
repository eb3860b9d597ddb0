use Rattle.picture_data.proofs.EachStands.{next-stands}
use Rattle.picture_data.proofs.actions.all_actions.Goals as goal

pub loop-event-preserved : goal.loop-event-preserved
loop-event-preserved c =
    next-stands c.args.machine.now c.args.table.now c.args.events.now c.loop-event.event-index c.event-item.result
    c.loop-event.actions.items c.push.new.self.items c.in_ok-actions_of.field-0 c.loop-event-test.true c.event-item.is
    c.loop-event.invariant c.in_ok-actions_of.ensures c.in_ok-push.ensures.items
