use Rattle.channel_uses.proofs.Locations.{child-unknown}
use Rattle.channel_uses.proofs.located.part_of_only.Goals as goal

pub returns-in-None : goal.returns-in-None
returns-in-None c = λ table cs j h one. child-unknown table c.args.part cs j h
