-- With the parts that are left, what is found is what is found in all.
use Rattle.std.proofs.Common.{◌≡◌, drop, map}
use Rattle.sharing_check.specs.internal.Gathering.{gathering, gathering_guarded, gathering_labelled, gathering_arm, in_turn, all_beside}
use Rattle.sharing_check.proofs.clashes.+gathering.Given as goal

abbrev pub invariant-add_sequence-loop-child : goal.invariant-add_sequence-loop-child
invariant-add_sequence-loop-child l =
    in_turn (map (gathering l.variables) (drop l.child-index l.children)) l.found
    ≡ in_turn (map (gathering l.variables) l.children) l.initial.found

abbrev pub invariant-add_guarded-loop-arm : goal.invariant-add_guarded-loop-arm
invariant-add_guarded-loop-arm l =
    in_turn (map (gathering_guarded l.variables) (drop l.arm-index l.arms)) l.found
    ≡ in_turn (map (gathering_guarded l.variables) l.arms) l.initial.found

abbrev pub invariant-add_labelled-loop-arm : goal.invariant-add_labelled-loop-arm
invariant-add_labelled-loop-arm l =
    in_turn (map (gathering_labelled l.variables) (drop l.arm-index l.arms)) l.found
    ≡ in_turn (map (gathering_labelled l.variables) l.arms) l.initial.found

abbrev pub invariant-add_arms-loop-arm : goal.invariant-add_arms-loop-arm
invariant-add_arms-loop-arm l =
    in_turn (map (gathering_arm l.variables) (drop l.arm-index l.arms)) l.found
    ≡ in_turn (map (gathering_arm l.variables) l.arms) l.initial.found

abbrev pub invariant-add_branches-loop-child : goal.invariant-add_branches-loop-child
invariant-add_branches-loop-child l =
    all_beside l.variables (map (gathering l.variables) (drop l.child-index l.children)) l.found
    ≡ all_beside l.variables (map (gathering l.variables) l.children) l.initial.found
