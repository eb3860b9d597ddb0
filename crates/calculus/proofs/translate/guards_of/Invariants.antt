use Rattle.std.proofs.Common.{◌≡◌, ◌++◌, drop, map}
use Rattle.system.specs.Translation.{expression_of}
use Rattle.system.specs.internal.ArmParts.{guarded_of}
use Rattle.calculus.proofs.translate.guards_of.Given as goal

abbrev pub invariant-loop-arm : goal.invariant-loop-arm
invariant-loop-arm l =
    map expression_of l.guards ++ map (λ a. a.guard) (map guarded_of (drop l.arm-index l.arms)) ≡ map (λ a. a.guard) (map guarded_of l.arms)
