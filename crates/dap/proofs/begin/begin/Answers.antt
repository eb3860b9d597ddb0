use Rattle.std.proofs.Common.{inl, inr, refl}
use Rattle.dap.proofs.Going.{begun_debugged, begun_free}
use Rattle.dap.proofs.begin.begin.Goals as goal

pub returns-then-launched-clause-sets : goal.returns-then-launched-clause-sets
returns-then-launched-clause-sets c = begun_free c.args.launched.now.program c.if-launched.true

pub returns-else-launched-clause-sets : goal.returns-else-launched-clause-sets
returns-else-launched-clause-sets c = begun_debugged c.args.launched.now.program c.if-launched.false

pub returns-then-launched-clause-begins : goal.returns-then-launched-clause-begins
returns-then-launched-clause-begins c = inr (c.if-launched.true, c.begin_free.ensures.ends, c.begin_free.ensures.runs, refl)

pub returns-else-launched-clause-begins : goal.returns-else-launched-clause-begins
returns-else-launched-clause-begins c = inl c.begin_stopping.ensures.begins
