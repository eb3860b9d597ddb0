use Rattle.std.proofs.Common.{take}
use Rattle.calculus.proofs.Alikeness.{Follows}
use Rattle.calculus.proofs.alike.are_alike.Given as goal

abbrev pub invariant-loop-event : goal.invariant-loop-event
invariant-loop-event l = Follows (take l.event-index l.a) l.b l.uses
