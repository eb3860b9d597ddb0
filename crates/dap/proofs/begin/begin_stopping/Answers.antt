use Rattle.std.proofs.Common.{inl, inr, refl}
use Rattle.dap_messages.specs.declared.told.Stop.{Stop}
use Rattle.dap.proofs.begin.begin_stopping.Goals as goal

pub returns-then-program-clause-begins : goal.returns-then-program-clause-begins
returns-then-program-clause-begins c = (Stop.Entry, 0, c.stop.ensures, (c.requires, inl (c.if-program.true, refl, refl, refl, refl)))

pub returns-else-program-clause-begins : goal.returns-else-program-clause-begins
returns-else-program-clause-begins c =
    (c.run.ensures.goes.0, c.run.ensures.goes.1, c.run.ensures.goes.2, (c.requires, inr (c.if-program.false, c.run.ensures.goes.3)))
