use Rattle.past.proofs.Telling.{whole-past}
use Rattle.past.proofs.past.past_of.Goals as goal

pub returns-then-all : goal.returns-then-all
returns-then-all c =
    whole-past 0 c.is_sound.ensures.rising.0 c.args.live.now.live c.args.ticket c.requires.0 c.is_sound.ensures.rising.1 c.requires.1
    c.in_ok-whole.whole c.in_ok-whole.ensures c.args.all c.all_of.result c.if-all.true c.all_of.ensures
