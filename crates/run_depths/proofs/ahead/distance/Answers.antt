use Rattle.run_depths.proofs.public.Deepening.{stands-ahead}
use Rattle.run_depths.proofs.ahead.distance.Goals as goal

pub overflow_sub-result : goal.overflow_sub-result
overflow_sub-result c =
    let r = c.is_sound.ensures.rising in
    (stands-ahead 0 r.0 c.args.live.now.live c.args.index c.in-Some.other c.args.ticket c.args.follower r.1 c.requires.stands c.in-Some.ensures c.requires.later).0

pub returns : goal.returns
returns c =
    let r = c.is_sound.ensures.rising in
    (stands-ahead 0 r.0 c.args.live.now.live c.args.index c.in-Some.other c.args.ticket c.args.follower r.1 c.requires.stands c.in-Some.ensures c.requires.later).1
