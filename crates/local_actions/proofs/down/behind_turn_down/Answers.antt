use Rattle.std.proofs.Common.{◌+◌, ◌*◌}
use Rattle.local_actions.specs.declared.site.Only.TheVariants.{Again}
use Rattle.local_actions.specs.internal.At.{only_kind}
use Rattle.local_actions.proofs.public.Sites.{act-here, act-elsewhere}
use Rattle.local_actions.proofs.down.behind_turn_down.Goals as goal

pub returns-then-is_act_behind : goal.returns-then-is_act_behind
returns-then-is_act_behind c = λ s env. act-here c.args.place.now (2 * (c.args.turn + 1)) (only_kind s env (Again c.args.repeat)) c.is_act_behind.result c.requires c.is_act_behind.ensures c.if-is_act_behind.true

pub returns : goal.returns
returns c = λ s env. act-elsewhere c.args.place.now (2 * (c.args.turn + 1)) (only_kind s env (Again c.args.repeat)) c.is_act_behind.result c.requires c.is_act_behind.ensures c.if-is_act_behind.false
