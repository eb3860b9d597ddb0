use Rattle.std.proofs.Common.{◌≡◌, None}
use Rattle.dap_moves.specs.internal.Turning.{AllBefore, branch_for}
use Rattle.dap_moves.proofs.run.first_that_goes.Given as goal

abbrev pub invariant-loop-event : goal.invariant-loop-event
invariant-loop-event l = AllBefore (λ f. branch_for l.system l.only f ≡ None) l.events l.event-index
