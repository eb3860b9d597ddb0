use Rattle.local_actions.proofs.public.Endings.{arms-are-over}
use Rattle.local_actions.proofs.over.arms_over.Goals as goal

pub returns-in-Opened : goal.returns-in-Opened
returns-in-Opened c s env ds cs = arms-are-over s env ds cs c.args.gate.now _ _ c.in-Opened.over _ c.in-Opened.is
