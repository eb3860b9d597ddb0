use Rattle.std.proofs.Common.{sym, ◌∙◌}
use Rattle.dap_moves.proofs.Passing.{none_left}
use Rattle.dap_moves.proofs.run.take_turn.Goals as goal

pub step_freely-requires-clause-free : goal.step_freely-requires-clause-free
step_freely-requires-clause-free c = none_left c.args.plan.now.lines.now (sym c.is_empty.ensures ∙ c.if-is_empty.true)

pub returns-then-is_empty-clause-takes : goal.returns-then-is_empty-clause-takes
returns-then-is_empty-clause-takes c = c.step_freely.ensures.takes c.args.seen.now.items
