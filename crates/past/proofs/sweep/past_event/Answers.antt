use Rattle.dependence.proofs.public.ListPlaces.{in-at}
use Rattle.past.proofs.sweep.past_event.Goals as goal

pub leads-requires : goal.leads-requires
leads-requires c = (c.args.event.now, in-at c.args.live.now.live c.args.index (c.args.ticket, c.args.event.now) c.requires)
