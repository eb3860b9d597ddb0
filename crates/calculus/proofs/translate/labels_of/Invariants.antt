use Rattle.std.proofs.Common.{◌≡◌, ◌++◌, drop, map}
use Rattle.system.specs.internal.ArmParts.{labelled_of}
use Rattle.calculus.proofs.translate.labels_of.Given as goal

abbrev pub invariant-loop-arm : goal.invariant-loop-arm
invariant-loop-arm l =
    l.labels ++ map (λ a. a.labels) (map labelled_of (drop l.arm-index l.arms)) ≡ map (λ a. a.labels) (map labelled_of l.arms)
