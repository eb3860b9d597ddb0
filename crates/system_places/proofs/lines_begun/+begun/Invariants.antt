-- What is found from here on is what is found in all.
use Rattle.std.proofs.Common.{◌≡◌, drop, map, false}
use Rattle.system_places.specs.LinesBegun.{any_onto, begins}
use Rattle.system_places.specs.internal.Parts.{guarded_begins, labelled_begins, arm_begins}
use Rattle.system_places.proofs.lines_begun.+begun.Given as goal

abbrev pub invariant-commands_begin-loop-command : goal.invariant-commands_begin-loop-command
invariant-commands_begin-loop-command l =
    any_onto l.found (map (begins l.line) (drop l.command-index l.commands)) ≡ any_onto false (map (begins l.line) l.commands)

abbrev pub invariant-guarded_begin-loop-arm : goal.invariant-guarded_begin-loop-arm
invariant-guarded_begin-loop-arm l =
    any_onto l.found (map (guarded_begins l.line) (drop l.arm-index l.arms)) ≡ any_onto false (map (guarded_begins l.line) l.arms)

abbrev pub invariant-labelled_begin-loop-arm : goal.invariant-labelled_begin-loop-arm
invariant-labelled_begin-loop-arm l =
    any_onto l.found (map (labelled_begins l.line) (drop l.arm-index l.arms)) ≡ any_onto false (map (labelled_begins l.line) l.arms)

abbrev pub invariant-arms_begin-loop-arm : goal.invariant-arms_begin-loop-arm
invariant-arms_begin-loop-arm l =
    any_onto l.found (map (arm_begins l.line) (drop l.arm-index l.arms)) ≡ any_onto false (map (arm_begins l.line) l.arms)
