-- The arms of a command as the code makes them, one by one: its channel, guard or labels, and what it does.
-- No reader has to believe it: `proofs/public/Translated.antt` ties them, in `code_of`, to the arms of the system's
-- residual.
use Rattle.system.specs.declared.command.Arm.{Arm}
use Rattle.system.specs.declared.command.Guarded.{Guarded}
use Rattle.system.specs.declared.command.Labelled.{Labelled}
use Rattle.system.specs.declared.command.Action.TheFolds.{fold-Arm, fold-Guarded, fold-Labelled}
use Rattle.process_tree.specs.Code.{Code}
use Rattle.process_tree.specs.Translation.{OnChannel, OnGuard, OnLabels, action_code, arm_code, command_code, guarded_code, labelled_code}

-- an arm of `if`
abbrev pub guarded_of : Guarded → OnGuard
guarded_of =
    fold-Guarded Code OnChannel Code OnGuard OnLabels action_code arm_code command_code guarded_code labelled_code

-- an arm of `case`
abbrev pub labelled_of : Labelled → OnLabels
labelled_of =
    fold-Labelled Code OnChannel Code OnGuard OnLabels action_code arm_code command_code guarded_code labelled_code

-- an arm of `select` or `arbitrate`
abbrev pub arm_of : Arm → OnChannel
arm_of = fold-Arm Code OnChannel Code OnGuard OnLabels action_code arm_code command_code guarded_code labelled_code
