use Rattle.std.proofs.Common.{refl}
use Rattle.machine.proofs.public.Standing.{live-at}
use Rattle.machine.proofs.public.MarkLaws.{without-left}
use Rattle.machine.proofs.history.History.undo_at.Goals as goal

pub first_dependent-requires : goal.first_dependent-requires
first_dependent-requires c = (c.requires.at.0, live-at c.args.self.now.live.live c.args.ticket c.args.index c.requires.at.0 c.requires.at.1)

pub returns-in-Some-clause-answers : goal.returns-in-Some-clause-answers
returns-in-Some-clause-answers c = λ system. (
  ((c.requires.at.0, live-at c.args.self.now.live.live c.args.ticket c.args.index c.requires.at.0 c.requires.at.1), c.in-Some.ensures),
  refl,
)

pub returns-in-None-clause-marked : goal.returns-in-None-clause-marked
returns-in-None-clause-marked c =
    without-left c.args.ticket c.args.self.now.live.marked c.take_back.new.self.live.marked c.take_back.ensures.marked
