use Rattle.local_actions.proofs.public.Sites.{not-act}
use Rattle.local_actions.proofs.place.is_act.Goals as goal

pub returns-in-None : goal.returns-in-None
returns-in-None c = not-act c.args.place.now c.args.number c.in-None.ensures
