use Rattle.std.proofs.Common.{drop, take}
use Rattle.dependence.proofs.public.Tabling.{ok-weaker}
use Rattle.picture_data.specs.internal.SpotsSoFar.{deep_in, seen_in}
use Rattle.picture_data.proofs.SpotLaws.{event-one, event-two}
use Rattle.picture_data.proofs.places.add_event_places.Goals as goal

pub returns-in-Some : goal.returns-in-Some
returns-in-Some c =
    ok-weaker c.add_ready_place-in-Some.result
    (event-two (seen_in c.args.machine.now c.args.now.now) (deep_in c.args.now.now) (take c.args.index c.args.now.now.ready.now)
    (drop c.args.index c.args.now.now.ready.now) c.args.event.now c.in-Some.second c.first_role.result c.second_role.result
    c.args.places.now.items c.add_ready_place.new.places.items c.add_ready_place-in-Some.new.places.items c.in-Some.is
    c.first_role.ensures c.second_role.ensures c.in_ok-add_ready_place.ensures) c.add_ready_place-in-Some.ensures

pub returns-in-None : goal.returns-in-None
returns-in-None c =
    event-one (seen_in c.args.machine.now c.args.now.now) (deep_in c.args.now.now) (take c.args.index c.args.now.now.ready.now)
    (drop c.args.index c.args.now.now.ready.now) c.args.event.now c.first_role.result c.args.places.now.items c.add_ready_place.new.places.items
    c.in-None.is c.first_role.ensures c.in_ok-add_ready_place.ensures
