-- What the fold over commands gives of arms, which are no commands themselves.
-- No reader has to believe it: these are the folds of `calls_in` in `Counts.antt`.
use Rattle.std.specs.Prelude.{ℕ}
use Rattle.types.specs.declared.tree.Arm.{Arm}
use Rattle.types.specs.declared.tree.Guarded.{Guarded}
use Rattle.types.specs.declared.tree.Labelled.{Labelled}
use Rattle.types.specs.declared.tree.Action.TheFolds.{fold-Arm, fold-Guarded, fold-Labelled}
use Rattle.source_calls.specs.Counts.{counts_layer, counts_arm, counts_command, counts_guarded, counts_labelled}

-- how many calls stand in an arm of `select` or `arbitrate`
abbrev pub calls_in_arm : Arm → ℕ
calls_in_arm = fold-Arm ℕ ℕ ℕ ℕ ℕ counts_layer counts_arm counts_command counts_guarded counts_labelled

-- how many stand in an arm of `if`
abbrev pub calls_in_guarded : Guarded → ℕ
calls_in_guarded = fold-Guarded ℕ ℕ ℕ ℕ ℕ counts_layer counts_arm counts_command counts_guarded counts_labelled

-- how many stand in an arm of `case`
abbrev pub calls_in_labelled : Labelled → ℕ
calls_in_labelled = fold-Labelled ℕ ℕ ℕ ℕ ℕ counts_layer counts_arm counts_command counts_guarded counts_labelled
