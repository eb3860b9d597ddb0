use Rattle.std.proofs.Common.{◌≡◌, ◌++◌, drop, map}
use Rattle.system.specs.internal.ArmParts.{arm_of}
use Rattle.calculus.proofs.translate.channels_of.Given as goal

abbrev pub invariant-loop-arm : goal.invariant-loop-arm
invariant-loop-arm l =
    l.channels ++ map (λ a. a.channel) (map arm_of (drop l.arm-index l.arms)) ≡ map (λ a. a.channel) (map arm_of l.arms)
