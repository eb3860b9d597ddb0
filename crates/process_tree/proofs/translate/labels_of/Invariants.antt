use Rattle.std.proofs.Common.{◌≡◌, ◌++◌, drop, map}
use Rattle.process_tree.specs.internal.Arms.{labelled_of}
use Rattle.process_tree.proofs.translate.labels_of.Given as goal

abbrev pub invariant-loop-arm : goal.invariant-loop-arm
invariant-loop-arm l = l.labels ++ map (λ a. a.0) (map labelled_of (drop l.arm-index l.arms)) ≡ map (λ a. a.0) (map labelled_of l.arms)
