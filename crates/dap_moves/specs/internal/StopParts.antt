-- What the fold over commands gives of arms, which are no commands themselves. No reader has to believe it: it is the
-- fold of `stops` in `Stops.antt`.
use Rattle.std.specs.Prelude.{ℕ, Bool}
use Rattle.system.specs.declared.command.Arm.{Arm}
use Rattle.system.specs.declared.command.Guarded.{Guarded}
use Rattle.system.specs.declared.command.Labelled.{Labelled}
use Rattle.system.specs.declared.command.Action.TheFolds.{fold-Arm, fold-Guarded, fold-Labelled}
use Rattle.dap_moves.specs.Stops.{stop_layer, stop_arm, stop_command, stop_guarded, stop_labelled}

-- of an arm of `select` or `arbitrate`
abbrev pub arm_stops : ℕ → Arm → Bool
arm_stops line =
    fold-Arm (Bool → Bool) Bool Bool Bool Bool stop_layer stop_arm (stop_command line) stop_guarded stop_labelled

-- of an arm of `if`
abbrev pub guarded_stops : ℕ → Guarded → Bool
guarded_stops line =
    fold-Guarded (Bool → Bool) Bool Bool Bool Bool stop_layer stop_arm (stop_command line) stop_guarded stop_labelled

-- of an arm of `case`
abbrev pub labelled_stops : ℕ → Labelled → Bool
labelled_stops line =
    fold-Labelled (Bool → Bool) Bool Bool Bool Bool stop_layer stop_arm (stop_command line) stop_guarded stop_labelled
