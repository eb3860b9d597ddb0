use Rattle.std.proofs.Common.{◌≡◌, ◌++◌, drop, map}
use Rattle.system.specs.Translation.{residual_of}
use Rattle.system.specs.internal.ArmParts.{guarded_of, labelled_of, arm_of}
use Rattle.calculus.specs.ResidualTree.{residual_of_tree}
use Rattle.calculus.proofs.translate.+tree_of.Given as goal

abbrev pub invariant-trees_of-loop-command : goal.invariant-trees_of-loop-command
invariant-trees_of-loop-command l =
    map residual_of_tree l.lefts ++ map residual_of (drop l.command-index l.commands) ≡ map residual_of l.commands

abbrev pub invariant-bodies_of_if-loop-arm : goal.invariant-bodies_of_if-loop-arm
invariant-bodies_of_if-loop-arm l =
    map residual_of_tree l.lefts ++ map (λ a. a.body) (map guarded_of (drop l.arm-index l.arms)) ≡ map (λ a. a.body) (map guarded_of l.arms)

abbrev pub invariant-bodies_of_case-loop-arm : goal.invariant-bodies_of_case-loop-arm
invariant-bodies_of_case-loop-arm l =
    map residual_of_tree l.lefts ++ map (λ a. a.body) (map labelled_of (drop l.arm-index l.arms)) ≡ map (λ a. a.body) (map labelled_of l.arms)

abbrev pub invariant-bodies_of_arms-loop-arm : goal.invariant-bodies_of_arms-loop-arm
invariant-bodies_of_arms-loop-arm l =
    map residual_of_tree l.lefts ++ map (λ a. a.body) (map arm_of (drop l.arm-index l.arms)) ≡ map (λ a. a.body) (map arm_of l.arms)
