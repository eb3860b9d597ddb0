use Rattle.std.proofs.Common.{◌≡◌, ◌++◌}
use Rattle.machine.proofs.question.copy_live.Given as goal

abbrev pub invariant-loop-ticket : goal.invariant-loop-ticket
invariant-loop-ticket l = l.copies ++ l.ticket-iterator ≡ l.live.live
