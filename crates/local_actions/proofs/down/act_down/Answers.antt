use Rattle.local_actions.specs.internal.At.{only_kind}
use Rattle.local_actions.proofs.public.Sites.{act-here, act-elsewhere}
use Rattle.local_actions.proofs.down.act_down.Goals as goal

pub returns-then-is_act : goal.returns-then-is_act
returns-then-is_act c = λ s env. act-here c.args.place.now c.args.act (only_kind s env c.args.only) c.is_act.result c.requires c.is_act.ensures c.if-is_act.true

pub returns : goal.returns
returns c = λ s env. act-elsewhere c.args.place.now c.args.act (only_kind s env c.args.only) c.is_act.result c.requires c.is_act.ensures c.if-is_act.false
