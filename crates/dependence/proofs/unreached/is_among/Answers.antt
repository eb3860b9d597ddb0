use Rattle.dependence.proofs.public.ListPlaces.{in-at}
use Rattle.dependence.proofs.unreached.is_among.Goals as goal

pub returns-in-Some : goal.returns-in-Some
returns-in-Some c = λ yes. in-at c.args.followers.now c.in-Some.field-0 c.args.ticket c.in-Some.ensures
