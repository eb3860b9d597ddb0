use Rattle.std.proofs.Common.{◌≡◌, ◌++◌, drop, map}
use Rattle.system.specs.Translation.{expression_of}
use Rattle.process_tree.specs.internal.Arms.{guarded_of}
use Rattle.process_tree.proofs.translate.guards_of.Given as goal

abbrev pub invariant-loop-arm : goal.invariant-loop-arm
invariant-loop-arm l =
    map expression_of l.guards ++ map (λ a. a.0) (map guarded_of (drop l.arm-index l.arms)) ≡ map (λ a. a.0) (map guarded_of l.arms)
