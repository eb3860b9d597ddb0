use Rattle.std.proofs.Common.{inl, inr, refl}
use Rattle.dap.proofs.begin.begin_once.Goals as goal

pub returns-then-launched-clause-begins : goal.returns-then-launched-clause-begins
returns-then-launched-clause-begins c = inl (c.refuse.ensures.refused, c.refuse.ensures.same, refl, c.if-launched.true)

pub returns-else-launched-clause-begins : goal.returns-else-launched-clause-begins
returns-else-launched-clause-begins c = inr (c.begin.ensures.begins, c.if-launched.false, c.begin.ensures.sets)
