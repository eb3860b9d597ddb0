-- What the fold over commands gives of arms, which are no commands themselves.
-- No reader has to believe it: these are the folds of `calls_onto` in `Calls.antt`.
use Rattle.types.specs.declared.tree.Arm.{Arm}
use Rattle.types.specs.declared.tree.Guarded.{Guarded}
use Rattle.types.specs.declared.tree.Labelled.{Labelled}
use Rattle.types.specs.declared.tree.Action.TheFolds.{fold-Arm, fold-Guarded, fold-Labelled}
use Rattle.described.specs.Calls.{Onto, OnLine, calls_layer, calls_arm, calls_command, calls_guarded, calls_labelled}

-- the same of an arm of `select` or `arbitrate`
abbrev pub calls_onto_arm : Arm → Onto
calls_onto_arm = fold-Arm OnLine Onto Onto Onto Onto calls_layer calls_arm calls_command calls_guarded calls_labelled

-- the same of an arm of `if`
abbrev pub calls_onto_guarded : Guarded → Onto
calls_onto_guarded =
    fold-Guarded OnLine Onto Onto Onto Onto calls_layer calls_arm calls_command calls_guarded calls_labelled

-- the same of an arm of `case`
abbrev pub calls_onto_labelled : Labelled → Onto
calls_onto_labelled =
    fold-Labelled OnLine Onto Onto Onto Onto calls_layer calls_arm calls_command calls_guarded calls_labelled
