use Rattle.std.proofs.Common.{◌≡◌, ◌++◌, drop}
use Rattle.system.proofs.decision.copy_labels.Given as goal

-- the copies are the labels that are passed
abbrev pub invariant-loop-of_arm : goal.invariant-loop-of_arm
invariant-loop-of_arm l = l.copies ++ drop l.of_arm-index l.labels ≡ l.labels
