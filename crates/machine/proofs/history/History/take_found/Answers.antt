use Rattle.machine.proofs.history.History.take_found.Goals as goal

pub add-requires-clause-allowed : goal.add-requires-clause-allowed
add-requires-clause-allowed c = c.requires.allowed c.in-Some.event c.in-Some.is
