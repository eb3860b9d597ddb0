use Rattle.front_end.proofs.acceptance.accept_leaving.Goals as goal

pub returns-clause-fault : goal.returns-clause-fault
returns-clause-fault c = c.checked-made.ensures.fault c.args.source.now c.in_ok-typed.ensures.typed
