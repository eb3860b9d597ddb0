use Rattle.std.proofs.Common.{◌≡◌, ◌+◌, ◌≤◌, [], length, drop, map}
use Rattle.elaborate.proofs.Weights.{total, weight, weight_of_guarded, weight_of_labelled, weight_of_arm, weights, last_weight}
use Rattle.std.specs.Option.{option_map}
use Rattle.elaborate.specs.internal.Makers.{maker_of, makers, all_onto, called, after_call}
use Rattle.elaborate.specs.internal.BodyParts.{maker_of_guarded, maker_of_labelled, maker_of_arm}
use Rattle.elaborate.proofs.body.+body.Given as goal

abbrev pub decreases-command_of : goal.decreases-command_of
decreases-command_of l = weight l.command.now + weights l.earlier.now

abbrev pub decreases-loop_of : goal.decreases-loop_of
decreases-loop_of l = weight l.inside.now + weights l.earlier.now + 1

abbrev pub decreases-sequence_of : goal.decreases-sequence_of
decreases-sequence_of l = total (map weight l.children.now) + weights l.earlier.now + 2

abbrev pub decreases-parallel_of : goal.decreases-parallel_of
decreases-parallel_of l = total (map weight l.children.now) + weights l.earlier.now + 2

abbrev pub decreases-while_of : goal.decreases-while_of
decreases-while_of l = weight l.inside.now + weights l.earlier.now + 1

abbrev pub decreases-if_of : goal.decreases-if_of
decreases-if_of l = total (map weight_of_guarded l.arms.now) + last_weight (option_map weight l.last.now) + weights l.earlier.now + 2

abbrev pub decreases-case_of : goal.decreases-case_of
decreases-case_of l = total (map weight_of_labelled l.arms.now) + last_weight (option_map weight l.last.now) + weights l.earlier.now + 2

abbrev pub decreases-input_of : goal.decreases-input_of
decreases-input_of l = weight l.inside.now + weights l.earlier.now + 1

abbrev pub decreases-select_of : goal.decreases-select_of
decreases-select_of l = total (map weight_of_arm l.arms.now) + weights l.earlier.now + 2

abbrev pub decreases-arbitrate_of : goal.decreases-arbitrate_of
decreases-arbitrate_of l = total (map weight_of_arm l.arms.now) + weights l.earlier.now + 2

abbrev pub decreases-commands_of : goal.decreases-commands_of
decreases-commands_of l = total (map weight l.commands.now) + weights l.earlier.now + 1

abbrev pub decreases-guarded_of : goal.decreases-guarded_of
decreases-guarded_of l = total (map weight_of_guarded l.arms.now) + weights l.earlier.now + 1

abbrev pub decreases-labelled_of : goal.decreases-labelled_of
decreases-labelled_of l = total (map weight_of_labelled l.arms.now) + weights l.earlier.now + 1

abbrev pub decreases-arms_of : goal.decreases-arms_of
decreases-arms_of l = total (map weight_of_arm l.arms.now) + weights l.earlier.now + 1

abbrev pub decreases-last_of : goal.decreases-last_of
decreases-last_of l = last_weight (option_map weight l.last.now) + weights l.earlier.now + 1

abbrev pub decreases-called_body : goal.decreases-called_body
decreases-called_body l = weights l.earlier.now + 1

-- what is made from here on is what is made of all
abbrev pub invariant-commands_of-loop-command : goal.invariant-commands_of-loop-command
invariant-commands_of-loop-command l =
    all_onto l.children (map (maker_of (makers l.earlier)) (drop l.command-index l.commands)) l.instance l.made
    ≡ all_onto [] (map (maker_of (makers l.earlier)) l.commands) l.instance l.initial.made

abbrev pub invariant-guarded_of-loop-arm : goal.invariant-guarded_of-loop-arm
invariant-guarded_of-loop-arm l =
    all_onto l.children (map (maker_of_guarded (makers l.earlier)) (drop l.arm-index l.arms)) l.instance l.made
    ≡ all_onto [] (map (maker_of_guarded (makers l.earlier)) l.arms) l.instance l.initial.made

abbrev pub invariant-labelled_of-loop-arm : goal.invariant-labelled_of-loop-arm
invariant-labelled_of-loop-arm l =
    all_onto l.children (map (maker_of_labelled (makers l.earlier)) (drop l.arm-index l.arms)) l.instance l.made
    ≡ all_onto [] (map (maker_of_labelled (makers l.earlier)) l.arms) l.instance l.initial.made

abbrev pub invariant-arms_of-loop-arm : goal.invariant-arms_of-loop-arm
invariant-arms_of-loop-arm l =
    all_onto l.children (map (maker_of_arm (makers l.earlier)) (drop l.arm-index l.arms)) l.instance l.made
    ≡ all_onto [] (map (maker_of_arm (makers l.earlier)) l.arms) l.instance l.initial.made

-- the procedure that is gone along to makes what the first one makes
abbrev pub invariant-called_body-loop-procedure : goal.invariant-called_body-loop-procedure
invariant-called_body-loop-procedure l = record {
  less : weights l.earlier ≤ weights l.fn.earlier;
  same : after_call 0 (called (makers l.earlier) l.called l.entrance l.made)
      ≡ after_call 0 (called (makers l.fn.earlier) l.fn.procedure l.fn.entrance l.fn.made);
}

abbrev pub decreases-called_body-loop-procedure : goal.decreases-called_body-loop-procedure
decreases-called_body-loop-procedure l = length l.earlier
