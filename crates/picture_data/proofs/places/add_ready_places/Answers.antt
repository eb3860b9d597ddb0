use Rattle.picture_data.specs.internal.SpotsSoFar.{deep_in, seen_in}
use Rattle.picture_data.proofs.SpotLaws.{ready-all, ready-next, ready-none}
use Rattle.picture_data.proofs.places.add_ready_places.Goals as goal

pub loop-index-init : goal.loop-index-init
loop-index-init c = ready-none (seen_in c.args.machine.now c.args.now.now) (deep_in c.args.now.now) c.args.now.now.ready.now c.args.places.now.items

pub loop-index-preserved : goal.loop-index-preserved
loop-index-preserved c =
    ready-next (seen_in c.args.machine.now c.args.now.now) (deep_in c.args.now.now) c.args.now.now.ready.now c.loop-index.index c.event-item.result c.args.places.now.items
    c.loop-index.places.items c.add_event_places.new.places.items c.loop-index-test.true c.event-item.is c.loop-index.invariant
    c.in_ok-add_event_places.ensures

pub returns : goal.returns
returns c =
    ready-all (seen_in c.args.machine.now c.args.now.now) (deep_in c.args.now.now) c.args.now.now.ready.now c.loop-index.index c.args.places.now.items c.loop-index.places.items
    c.loop-index-test.false c.loop-index.invariant
