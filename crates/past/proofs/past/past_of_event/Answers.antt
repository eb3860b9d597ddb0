use Rattle.dependence.proofs.public.ListPlaces.{in-at}
use Rattle.past.proofs.past.past_of_event.Goals as goal

pub past_of-requires : goal.past_of-requires
past_of-requires c = (c.in-Some.ensures.0, in-at c.args.live.now.live c.in-Some.field-0 (c.args.ticket, c.in-Some.ensures.0) c.in-Some.ensures.1)
