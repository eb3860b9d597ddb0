-- What the parts of a command are that are no commands themselves.
-- No reader has to believe it: these are the folds of `judged_command` in `Commands.antt` at other parts.
use Rattle.types.specs.Arms.{GuardedArm, LabelledArm}
use Rattle.types.specs.Commands.{Judged, action_layer, arm_layer, case_arm_layer, command_layer, guarded_layer}
use Rattle.types.specs.Findings.{Keeping}
use Rattle.types.specs.declared.tree.Action.{Action}
use Rattle.types.specs.declared.tree.Arm.{Arm}
use Rattle.types.specs.declared.tree.Command.{Command}
use Rattle.syntax.specs.declared.command.Action as syntax_action
use Rattle.syntax.specs.declared.command.Action.TheFolds.{fold-Action, fold-Arm, fold-CaseArm, fold-Guarded}
use Rattle.syntax.specs.declared.command.Arm as arm_of_select
use Rattle.syntax.specs.declared.command.CaseArm as arm_of_case
use Rattle.syntax.specs.declared.command.Guarded as arm_of_if

module _ (k : Keeping) where
  -- what a command does
  abbrev pub judged_action : syntax_action.Action → Judged k Action
  judged_action =
      fold-Action (Judged k Action) (Judged k Arm) (Judged k LabelledArm) (Judged k Command) (Judged k GuardedArm)
      (action_layer k) (arm_layer k) (case_arm_layer k) (command_layer k) (guarded_layer k)

  -- an arm of `if`
  abbrev pub judged_guarded : arm_of_if.Guarded → Judged k GuardedArm
  judged_guarded =
      fold-Guarded (Judged k Action) (Judged k Arm) (Judged k LabelledArm) (Judged k Command) (Judged k GuardedArm)
      (action_layer k) (arm_layer k) (case_arm_layer k) (command_layer k) (guarded_layer k)

  -- an arm of `case`
  abbrev pub judged_labelled : arm_of_case.CaseArm → Judged k LabelledArm
  judged_labelled =
      fold-CaseArm (Judged k Action) (Judged k Arm) (Judged k LabelledArm) (Judged k Command) (Judged k GuardedArm)
      (action_layer k) (arm_layer k) (case_arm_layer k) (command_layer k) (guarded_layer k)

  -- an arm of `select` or `arbitrate`
  abbrev pub judged_arm : arm_of_select.Arm → Judged k Arm
  judged_arm =
      fold-Arm (Judged k Action) (Judged k Arm) (Judged k LabelledArm) (Judged k Command) (Judged k GuardedArm)
      (action_layer k) (arm_layer k) (case_arm_layer k) (command_layer k) (guarded_layer k)
