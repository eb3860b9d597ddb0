-- With the parts that are left, the calls are those of all.
use Rattle.std.proofs.Common.{◌≡◌, drop, map}
use Rattle.described.specs.Calls.{calls_onto, in_turns, in_sequence, in_branches}
use Rattle.described.specs.internal.CallParts.{calls_onto_arm, calls_onto_guarded, calls_onto_labelled}
use Rattle.described.proofs.body_calls.+calls.Given as goal

abbrev pub invariant-add_guarded-loop-arm : goal.invariant-add_guarded-loop-arm
invariant-add_guarded-loop-arm l =
    in_turns (map calls_onto_guarded (drop l.arm-index l.arms)) l.place l.calls ≡ in_turns (map calls_onto_guarded l.arms) l.place l.initial.calls

abbrev pub invariant-add_labelled-loop-arm : goal.invariant-add_labelled-loop-arm
invariant-add_labelled-loop-arm l =
    in_turns (map calls_onto_labelled (drop l.arm-index l.arms)) l.place l.calls ≡ in_turns (map calls_onto_labelled l.arms) l.place l.initial.calls

abbrev pub invariant-add_arms-loop-arm : goal.invariant-add_arms-loop-arm
invariant-add_arms-loop-arm l =
    in_turns (map calls_onto_arm (drop l.arm-index l.arms)) l.place l.calls ≡ in_turns (map calls_onto_arm l.arms) l.place l.initial.calls

abbrev pub invariant-add_sequence-loop-index : goal.invariant-add_sequence-loop-index
invariant-add_sequence-loop-index l =
    in_sequence l.index (map calls_onto (drop l.index l.children)) l.place l.calls ≡ in_sequence 0 (map calls_onto l.children) l.place l.initial.calls

abbrev pub invariant-add_branches-loop-index : goal.invariant-add_branches-loop-index
invariant-add_branches-loop-index l =
    in_branches l.index (map calls_onto (drop l.index l.children)) l.place l.calls ≡ in_branches 0 (map calls_onto l.children) l.place l.initial.calls
