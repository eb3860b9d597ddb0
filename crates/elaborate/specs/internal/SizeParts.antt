-- The size of the parts of a command that are no commands themselves.
-- No reader has to believe it: these are the folds of `size_of` in `SourceSize.antt` at other parts.
use Rattle.elaborate.specs.declared.count.Size.{Size}
use Rattle.elaborate.specs.SourceSize.{Cut, action_size, arm_size, command_size, guarded_size, labelled_size}
use Rattle.std.specs.Prelude.{List}
use Rattle.types.specs.declared.tree.Guarded.{Guarded}
use Rattle.types.specs.declared.tree.Labelled.{Labelled}
use Rattle.types.specs.declared.tree.Arm.{Arm}
use Rattle.types.specs.declared.tree.Action.TheFolds.{fold-Guarded, fold-Labelled, fold-Arm}

-- an arm of `if`
abbrev pub size_of_guarded : Cut → List Size → Guarded → Size
size_of_guarded cut called =
    fold-Guarded Size Size Size Size Size (action_size cut called) arm_size command_size
    (guarded_size cut) labelled_size

-- an arm of `case`
abbrev pub size_of_labelled : Cut → List Size → Labelled → Size
size_of_labelled cut called =
    fold-Labelled Size Size Size Size Size (action_size cut called) arm_size command_size
    (guarded_size cut) labelled_size

-- an arm of `select` or `arbitrate`
abbrev pub size_of_arm : Cut → List Size → Arm → Size
size_of_arm cut called =
    fold-Arm Size Size Size Size Size (action_size cut called) arm_size command_size (guarded_size cut) labelled_size
