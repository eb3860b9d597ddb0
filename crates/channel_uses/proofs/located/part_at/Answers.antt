use Rattle.channel_uses.proofs.Locations.{child-unknown, child-known}
use Rattle.channel_uses.proofs.located.part_at.Goals as goal

pub returns-in-None : goal.returns-in-None
returns-in-None c = λ table cs h. child-unknown table c.args.part cs c.args.child h

pub returns-in-Some : goal.returns-in-Some
returns-in-Some c = λ table cs h. child-known table c.args.part c.in-Some.part cs c.args.child c.get.result c.in-Some.is c.get.ensures.value h
