-- With the parts that are left, the table says what it says of all.
use Rattle.std.proofs.Common.{◌≡◌, drop, map}
use Rattle.system.specs.Translation.{residual_of}
use Rattle.system.specs.internal.ArmParts.{guarded_of, labelled_of, arm_of}
use Rattle.sharing_check.specs.internal.Counting.{nothing, table_of_widths, in_turn, arms_in_turn, side_by_side}
use Rattle.sharing_check.proofs.widths.+widths.Given as goal

abbrev pub invariant-add_commands-loop-command : goal.invariant-add_commands-loop-command
invariant-add_commands-loop-command l =
    in_turn (table_of_widths l.widths) (map residual_of (drop l.command-index l.commands)) ≡ in_turn (table_of_widths l.initial.widths) (map residual_of l.commands)

abbrev pub invariant-add_guarded-loop-arm : goal.invariant-add_guarded-loop-arm
invariant-add_guarded-loop-arm l =
    in_turn (table_of_widths l.widths) (map (λ a. a.body) (map guarded_of (drop l.arm-index l.arms)))
    ≡ in_turn (table_of_widths l.initial.widths) (map (λ a. a.body) (map guarded_of l.arms))

abbrev pub invariant-add_labelled-loop-arm : goal.invariant-add_labelled-loop-arm
invariant-add_labelled-loop-arm l =
    in_turn (table_of_widths l.widths) (map (λ a. a.body) (map labelled_of (drop l.arm-index l.arms)))
    ≡ in_turn (table_of_widths l.initial.widths) (map (λ a. a.body) (map labelled_of l.arms))

abbrev pub invariant-add_arms-loop-arm : goal.invariant-add_arms-loop-arm
invariant-add_arms-loop-arm l =
    arms_in_turn (table_of_widths l.widths) (map arm_of (drop l.arm-index l.arms)) ≡ arms_in_turn (table_of_widths l.initial.widths) (map arm_of l.arms)

abbrev pub invariant-add_branches-loop-child : goal.invariant-add_branches-loop-child
invariant-add_branches-loop-child l = record {
  both : side_by_side (table_of_widths l.widths) (map residual_of (drop l.child-index l.children))
      ≡ side_by_side (table_of_widths l.initial.widths) (map residual_of l.children);
  empty : table_of_widths l.branch ≡ nothing;
}
