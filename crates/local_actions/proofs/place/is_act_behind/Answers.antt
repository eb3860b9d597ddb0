use Rattle.std.proofs.Common.{◌+◌, ◌*◌}
use Rattle.local_actions.proofs.public.Sites.{not-act}
use Rattle.local_actions.proofs.place.is_act_behind.Goals as goal

pub returns-in-None : goal.returns-in-None
returns-in-None c = not-act c.args.place.now (2 * (c.args.turn + 1)) (λ b. c.in-None.ensures (2 * (c.args.turn + 1)) b)
