use Rattle.local_actions.proofs.public.PlacedActions.{told-same}
use Rattle.picture_data.proofs.places.is_place.Goals as goal

pub returns : goal.returns
returns c = told-same c.args.one.now c.args.other.now c.equals.result c.equals.ensures
