use Rattle.std.proofs.Common.{length}
use Rattle.trace_file.proofs.Waits.{Counted}
use Rattle.trace_file.proofs.queue.leads_of_all.Given as goal

-- how many events those passed follow
abbrev pub invariant-loop-ticket : goal.invariant-loop-ticket
invariant-loop-ticket l = Counted l.live.live l.left.items (length l.yielded)
