-- With the parts that are left, what is found is that of all.
use Rattle.std.proofs.Common.{◌≡◌, drop, map}
use Rattle.picture_lanes.specs.Walk.{arms_in_turn, in_branches, in_turn, walked}
use Rattle.picture_lanes.specs.internal.Parts.{walked_arm, walked_guarded, walked_labelled}
use Rattle.picture_lanes.proofs.walk.+walk.Given as goal

abbrev pub invariant-walk_guarded-loop-number : goal.invariant-walk_guarded-loop-number
invariant-walk_guarded-loop-number l =
    in_turn l.number (map (walked_guarded l.procedures) (drop l.number l.made)) l.written l.path l.block l.found
    ≡ in_turn 0 (map (walked_guarded l.procedures) l.made) l.written l.path l.block l.initial.found

abbrev pub invariant-walk_labelled-loop-number : goal.invariant-walk_labelled-loop-number
invariant-walk_labelled-loop-number l =
    in_turn l.number (map (walked_labelled l.procedures) (drop l.number l.made)) l.written l.path l.block l.found
    ≡ in_turn 0 (map (walked_labelled l.procedures) l.made) l.written l.path l.block l.initial.found

abbrev pub invariant-walk_arms-loop-number : goal.invariant-walk_arms-loop-number
invariant-walk_arms-loop-number l =
    arms_in_turn l.number (map (walked_arm l.procedures) (drop l.number l.made)) l.written l.path l.block l.found
    ≡ arms_in_turn 0 (map (walked_arm l.procedures) l.made) l.written l.path l.block l.initial.found

abbrev pub invariant-walk_children-loop-number : goal.invariant-walk_children-loop-number
invariant-walk_children-loop-number l =
    in_turn l.number (map (walked l.procedures) (drop l.number l.made)) l.written l.path l.block l.found
    ≡ in_turn 0 (map (walked l.procedures) l.made) l.written l.path l.block l.initial.found

abbrev pub invariant-walk_branches-loop-number : goal.invariant-walk_branches-loop-number
invariant-walk_branches-loop-number l =
    in_branches l.number (map (walked l.procedures) (drop l.number l.made)) l.written l.path l.block l.found
    ≡ in_branches 0 (map (walked l.procedures) l.made) l.written l.path l.block l.initial.found
