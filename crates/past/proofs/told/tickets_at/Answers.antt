use Rattle.std.proofs.Common.{◌<◌, get_or, length, rules}
use Rattle.dependence.proofs.public.ListPlaces.{in-read}
use Rattle.past.proofs.told.tickets_at.Goals as goal

pub bounds-tickets-place : goal.bounds-tickets-place
bounds-tickets-place c = c.requires _ (in-read c.args.places.now c.loop-place.place-index c.loop-place-test.true)

pub offset_bounds-tickets-place : goal.offset_bounds-tickets-place
offset_bounds-tickets-place c =
    let within : get_or c.args.places.now c.loop-place.place-index 0 < length c.args.tickets.now =
    c.requires _ (in-read c.args.places.now c.loop-place.place-index c.loop-place-test.true) in
    search rules
