use Rattle.local_actions.proofs.public.Endings.{loop-is-over}
use Rattle.local_actions.proofs.over.loop_over.Goals as goal

pub returns-in-Turn : goal.returns-in-Turn
returns-in-Turn c s env g d = loop-is-over s env g d c.args.turns.now _ c.in-Turn.over _ c.in-Turn.is
