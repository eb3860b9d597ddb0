use Rattle.std.proofs.Common.{◌<◌, arith}
use Rattle.dependence.proofs.Candidacy.{from-last, from-first}
use Rattle.dependence.proofs.accesses.NewEvent.last_write.Goals as goal

pub returns-in-Some : goal.returns-in-Some
returns-in-Some c =
    let less : c.in-Some.writer < c.args.self.now.ticket = c.in-Some.ensures.less in
    record { below = omega arith; last = from-last c.args.self.now c.requires c.args.variable c.in-Some.writer c.in-Some.ensures }

pub returns-in-None : goal.returns-in-None
returns-in-None c = record { below = omega arith; last = from-first c.args.self.now c.requires c.args.variable c.in-None.ensures }
