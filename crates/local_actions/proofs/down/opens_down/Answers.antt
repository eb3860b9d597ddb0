use Rattle.process_tree.specs.View.{await_view}
use Rattle.local_actions.proofs.public.Sites.{opens-here, opens-elsewhere}
use Rattle.local_actions.proofs.down.opens_down.Goals as goal

pub returns-then-is_act : goal.returns-then-is_act
returns-then-is_act c = λ s env. opens-here c.args.place.now 0 (await_view c.args.waiting.now).0 c.is_act.result c.requires c.is_act.ensures c.if-is_act.true

pub returns : goal.returns
returns c = λ s env. opens-elsewhere c.args.place.now 0 (await_view c.args.waiting.now).0 c.is_act.result c.requires c.is_act.ensures c.if-is_act.false
