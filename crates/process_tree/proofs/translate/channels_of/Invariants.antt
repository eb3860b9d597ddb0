use Rattle.std.proofs.Common.{◌≡◌, ◌++◌, drop, map}
use Rattle.process_tree.specs.internal.Arms.{arm_of}
use Rattle.process_tree.proofs.translate.channels_of.Given as goal

abbrev pub invariant-loop-arm : goal.invariant-loop-arm
invariant-loop-arm l = l.channels ++ map (λ a. a.0) (map arm_of (drop l.arm-index l.arms)) ≡ map (λ a. a.0) (map arm_of l.arms)
