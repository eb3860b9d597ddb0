use Rattle.dap_moves.specs.Stops.{NoneStops}
use Rattle.dap_moves.proofs.stops.first_stop.Given as goal

abbrev pub invariant-loop-line : goal.invariant-loop-line
invariant-loop-line l = NoneStops l.system.main l.from l.line
