-- What the folds over commands give of arms, which are no commands themselves.
-- No reader has to believe it: these are the folds of `found_in` in `CommandPlaces.antt` and `begins` in
-- `LinesBegun.antt`.
use Rattle.std.specs.Prelude.{ℕ, Bool}
use Rattle.system.specs.declared.command.Arm.{Arm}
use Rattle.system.specs.declared.command.Guarded.{Guarded}
use Rattle.system.specs.declared.command.Labelled.{Labelled}
use Rattle.system.specs.declared.command.Action.TheFolds.{fold-Arm, fold-Guarded, fold-Labelled}
use Rattle.system_places.specs.CommandPlaces.{Found, FoundOn, found_layer, found_arm, found_command, found_guarded, found_labelled}
use Rattle.system_places.specs.LinesBegun.{begun_layer, begun_arm, begun_command, begun_guarded, begun_labelled}

-- the same in an arm of `select` or `arbitrate`
abbrev pub found_in_arm : Bool → Arm → Found
found_in_arm all =
    fold-Arm FoundOn Found Found Found Found (found_layer all) found_arm found_command found_guarded found_labelled

-- the same in an arm of `if`
abbrev pub found_in_guarded : Bool → Guarded → Found
found_in_guarded all =
    fold-Guarded FoundOn Found Found Found Found (found_layer all) found_arm found_command found_guarded found_labelled

-- the same in an arm of `case`
abbrev pub found_in_labelled : Bool → Labelled → Found
found_in_labelled all =
    fold-Labelled FoundOn Found Found Found Found (found_layer all) found_arm found_command found_guarded found_labelled

-- the same of an arm of `select` or `arbitrate`
abbrev pub arm_begins : ℕ → Arm → Bool
arm_begins line =
    fold-Arm Bool Bool Bool Bool Bool begun_layer begun_arm (begun_command line) begun_guarded begun_labelled

-- the same of an arm of `if`
abbrev pub guarded_begins : ℕ → Guarded → Bool
guarded_begins line =
    fold-Guarded Bool Bool Bool Bool Bool begun_layer begun_arm (begun_command line) begun_guarded begun_labelled

-- the same of an arm of `case`
abbrev pub labelled_begins : ℕ → Labelled → Bool
labelled_begins line =
    fold-Labelled Bool Bool Bool Bool Bool begun_layer begun_arm (begun_command line) begun_guarded begun_labelled
