use Rattle.std.proofs.Common.{take}
use Rattle.dependence.specs.internal.Found.{FirstBehind}
use Rattle.dependence.proofs.accesses.behind_all.Given as goal

abbrev pub invariant-loop-ticket : goal.invariant-loop-ticket
invariant-loop-ticket l = FirstBehind (take l.ticket-index l.tickets) l.end
