-- What arms of commands are to do, which are no commands themselves.
-- No reader has to believe it: these are the folds of `residual_of` in `Translation.antt` at other parts.
use Rattle.system.specs.Residual.{Residual}
use Rattle.system.specs.Translation.{OnChannel, OnGuard, OnLabels, action_layer, arm_layer, command_layer, guarded_layer, labelled_layer}
use Rattle.system.specs.declared.command.Action.TheFolds.{fold-Arm, fold-Guarded, fold-Labelled}
use Rattle.system.specs.declared.command.Arm.{Arm}
use Rattle.system.specs.declared.command.Guarded.{Guarded}
use Rattle.system.specs.declared.command.Labelled.{Labelled}

-- what an arm of `if` is to do
abbrev pub guarded_of : Guarded → OnGuard
guarded_of =
    fold-Guarded Residual OnChannel Residual OnGuard OnLabels action_layer arm_layer command_layer guarded_layer
    labelled_layer

-- what an arm of `case` is to do
abbrev pub labelled_of : Labelled → OnLabels
labelled_of =
    fold-Labelled Residual OnChannel Residual OnGuard OnLabels action_layer arm_layer command_layer guarded_layer
    labelled_layer

-- what an arm of `select` or `arbitrate` is to do
abbrev pub arm_of : Arm → OnChannel
arm_of = fold-Arm Residual OnChannel Residual OnGuard OnLabels action_layer arm_layer command_layer guarded_layer
    labelled_layer
