-- What is found from here on is what is found in all.
use Rattle.std.proofs.Common.{◌≡◌, drop, map, None}
use Rattle.system_places.specs.CommandPlaces.{first_onto}
use Rattle.system_places.specs.internal.Parts.{found_in_guarded, found_in_labelled, found_in_arm}
use Rattle.system_places.proofs.command_places.+places.Given as goal

abbrev pub invariant-first_guarded-loop-arm : goal.invariant-first_guarded-loop-arm
invariant-first_guarded-loop-arm l =
    first_onto l.found (map (found_in_guarded l.all) (drop l.arm-index l.arms)) l.way ≡ first_onto None (map (found_in_guarded l.all) l.arms) l.way

abbrev pub invariant-first_labelled-loop-arm : goal.invariant-first_labelled-loop-arm
invariant-first_labelled-loop-arm l =
    first_onto l.found (map (found_in_labelled l.all) (drop l.arm-index l.arms)) l.way ≡ first_onto None (map (found_in_labelled l.all) l.arms) l.way

abbrev pub invariant-first_arm-loop-arm : goal.invariant-first_arm-loop-arm
invariant-first_arm-loop-arm l =
    first_onto l.found (map (found_in_arm l.all) (drop l.arm-index l.arms)) l.way ≡ first_onto None (map (found_in_arm l.all) l.arms) l.way
