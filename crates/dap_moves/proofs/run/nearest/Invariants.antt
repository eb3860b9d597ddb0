use Rattle.dap_moves.proofs.Nearest.{IsSoFar}
use Rattle.dap_moves.proofs.run.nearest.Given as goal

abbrev pub invariant-loop-event : goal.invariant-loop-event
invariant-loop-event l = IsSoFar l.system l.only l.turn l.count l.events l.event-index l.found.0 l.found.1.now
