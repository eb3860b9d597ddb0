-- What the fold over commands gives of arms, which are no commands themselves.
-- No reader has to believe it: these are the folds of `walked` in `Walk.antt`.
use Rattle.std.specs.Prelude.{List}
use Rattle.system.specs.declared.command.Arm.{Arm}
use Rattle.system.specs.declared.command.Guarded.{Guarded}
use Rattle.system.specs.declared.command.Labelled.{Labelled}
use Rattle.system.specs.declared.command.Action.TheFolds.{fold-Arm, fold-Guarded, fold-Labelled}
use Rattle.types.specs.declared.tree.Procedure.{Procedure}
use Rattle.picture_lanes.specs.Walk.{OfArm, OnLine, Walk, walk_arm, walk_command, walk_guarded, walk_labelled, walk_layer}

-- the same of an arm of `select` or `arbitrate`
abbrev pub walked_arm : List Procedure → Arm → OfArm
walked_arm procedures =
    fold-Arm OnLine OfArm Walk Walk Walk walk_layer walk_arm (walk_command procedures) walk_guarded walk_labelled

-- the same of an arm of `if`
abbrev pub walked_guarded : List Procedure → Guarded → Walk
walked_guarded procedures =
    fold-Guarded OnLine OfArm Walk Walk Walk walk_layer walk_arm (walk_command procedures) walk_guarded walk_labelled

-- the same of an arm of `case`
abbrev pub walked_labelled : List Procedure → Labelled → Walk
walked_labelled procedures =
    fold-Labelled OnLine OfArm Walk Walk Walk walk_layer walk_arm (walk_command procedures) walk_guarded walk_labelled
