-- What is made of the parts of a command that are no commands themselves.
-- No reader has to believe it: these are the folds of `maker_of` in `internal/Makers.antt` at other parts.
use Rattle.std.specs.Prelude.{ℕ, List}
use Rattle.elaborate.specs.internal.Makers.{Maker, ProcedureMaker, action_maker, arm_maker, command_maker, guarded_maker, labelled_maker}
use Rattle.system.specs.declared.command.Arm as tree_arm
use Rattle.system.specs.declared.command.Command as tree_command
use Rattle.system.specs.declared.command.Guarded as tree_guarded
use Rattle.system.specs.declared.command.Labelled as tree_labelled
use Rattle.types.specs.declared.tree.Guarded.{Guarded}
use Rattle.types.specs.declared.tree.Labelled.{Labelled}
use Rattle.types.specs.declared.tree.Arm.{Arm}
use Rattle.types.specs.declared.tree.Action.TheFolds.{fold-Guarded, fold-Labelled, fold-Arm}

-- an arm of `if`
abbrev pub maker_of_guarded : List ProcedureMaker → Guarded → Maker tree_guarded.Guarded
maker_of_guarded ps =
    fold-Guarded (ℕ → Maker tree_command.Command) (Maker tree_arm.Arm) (Maker tree_command.Command)
    (Maker tree_guarded.Guarded) (Maker tree_labelled.Labelled)
    (action_maker ps) arm_maker command_maker guarded_maker labelled_maker

-- an arm of `case`
abbrev pub maker_of_labelled : List ProcedureMaker → Labelled → Maker tree_labelled.Labelled
maker_of_labelled ps =
    fold-Labelled (ℕ → Maker tree_command.Command) (Maker tree_arm.Arm) (Maker tree_command.Command)
    (Maker tree_guarded.Guarded) (Maker tree_labelled.Labelled)
    (action_maker ps) arm_maker command_maker guarded_maker labelled_maker

-- an arm of `select` or `arbitrate`
abbrev pub maker_of_arm : List ProcedureMaker → Arm → Maker tree_arm.Arm
maker_of_arm ps =
    fold-Arm (ℕ → Maker tree_command.Command) (Maker tree_arm.Arm) (Maker tree_command.Command)
    (Maker tree_guarded.Guarded) (Maker tree_labelled.Labelled)
    (action_maker ps) arm_maker command_maker guarded_maker labelled_maker
