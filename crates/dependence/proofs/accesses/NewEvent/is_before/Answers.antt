use Rattle.dependence.proofs.Candidacy.{one-before}
use Rattle.dependence.proofs.accesses.NewEvent.is_before.Goals as goal

pub returns : goal.returns
returns c =
    one-before c.args.self.now c.requires.new c.args.ticket c.event_of.result.now c.some_before.result c.event_of.ensures c.some_before.ensures
