use Rattle.local_actions.proofs.public.PlacedActions.{told-same}
use Rattle.rings.proofs.waits.is_same.Goals as goal

pub returns : goal.returns
returns c = told-same c.args.place.now c.args.other.now c.equals.result c.equals.ensures
