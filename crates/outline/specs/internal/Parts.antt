-- What the fold over commands gives of arms, which are no commands themselves.
-- No reader has to believe it: these are the folds of `ends_in` in `Ends.antt`.
use Rattle.system.specs.declared.command.Arm.{Arm}
use Rattle.system.specs.declared.command.Guarded.{Guarded}
use Rattle.system.specs.declared.command.Labelled.{Labelled}
use Rattle.system.specs.declared.command.Action.TheFolds.{fold-Arm, fold-Guarded, fold-Labelled}
use Rattle.outline.specs.Ends.{Onto, OnLine, OfArm, ends_layer, ends_arm, ends_command, ends_guarded, ends_labelled}

-- the same of an arm of `select` or `arbitrate`
abbrev pub ends_in_arm : Arm → OfArm
ends_in_arm = fold-Arm OnLine OfArm Onto Onto Onto ends_layer ends_arm ends_command ends_guarded ends_labelled

-- the same of an arm of `if`
abbrev pub ends_in_guarded : Guarded → Onto
ends_in_guarded = fold-Guarded OnLine OfArm Onto Onto Onto ends_layer ends_arm ends_command ends_guarded ends_labelled

-- the same of an arm of `case`
abbrev pub ends_in_labelled : Labelled → Onto
ends_in_labelled = fold-Labelled OnLine OfArm Onto Onto Onto ends_layer ends_arm ends_command ends_guarded ends_labelled
