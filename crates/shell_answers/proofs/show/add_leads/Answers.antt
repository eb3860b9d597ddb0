use Rattle.dependence.proofs.public.ListPlaces.{in-at}
use Rattle.shell_answers.proofs.show.add_leads.Goals as goal

pub leads_of-leads-requires : goal.leads_of-leads-requires
leads_of-leads-requires c = (c.in-Some.field-0-1.now, in-at c.args.live.now.live c.args.index _ c.in-Some.ensures)
