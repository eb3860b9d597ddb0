use Rattle.dap.proofs.dispatch.filter.Goals as goal

pub returns-clause-answers : goal.returns-clause-answers
returns-clause-answers c = c.set_exceptions.ensures.answers
