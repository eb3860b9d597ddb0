use Rattle.dap.proofs.dispatch.watch.Goals as goal

pub returns-clause-sets : goal.returns-clause-sets
returns-clause-sets c = c.set_data.ensures
