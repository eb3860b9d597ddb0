-- What is found from here on is what is found in all.
use Rattle.std.proofs.Common.{◌≡◌, drop, map, false}
use Rattle.system_places.specs.LinesBegun.{any_onto}
use Rattle.dap_moves.specs.Stops.{stops}
use Rattle.dap_moves.specs.internal.StopParts.{guarded_stops, labelled_stops, arm_stops}
use Rattle.dap_moves.proofs.stops.+stop.Given as goal

abbrev pub invariant-commands_stop-loop-command : goal.invariant-commands_stop-loop-command
invariant-commands_stop-loop-command l =
    any_onto l.found (map (stops l.line) (drop l.command-index l.commands)) ≡ any_onto false (map (stops l.line) l.commands)

abbrev pub invariant-guarded_stop-loop-arm : goal.invariant-guarded_stop-loop-arm
invariant-guarded_stop-loop-arm l =
    any_onto l.found (map (guarded_stops l.line) (drop l.arm-index l.arms)) ≡ any_onto false (map (guarded_stops l.line) l.arms)

abbrev pub invariant-labelled_stop-loop-arm : goal.invariant-labelled_stop-loop-arm
invariant-labelled_stop-loop-arm l =
    any_onto l.found (map (labelled_stops l.line) (drop l.arm-index l.arms)) ≡ any_onto false (map (labelled_stops l.line) l.arms)

abbrev pub invariant-arms_stop-loop-arm : goal.invariant-arms_stop-loop-arm
invariant-arms_stop-loop-arm l =
    any_onto l.found (map (arm_stops l.line) (drop l.arm-index l.arms)) ≡ any_onto false (map (arm_stops l.line) l.arms)
