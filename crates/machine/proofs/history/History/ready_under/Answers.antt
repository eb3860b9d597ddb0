use Rattle.machine.proofs.history.History.ready_under.Goals as goal

pub returns : goal.returns
returns c = c.ready_below.ensures c.requires.code c.requires.table c.requires.stems c.requires.tidy
