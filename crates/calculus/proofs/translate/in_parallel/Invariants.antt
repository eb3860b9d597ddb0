use Rattle.std.proofs.Common.{◌≡◌, length, map}
use Rattle.system.specs.Translation.{in_parallel}
use Rattle.calculus.specs.ResidualTree.{residual_of_tree}
use Rattle.calculus.proofs.Children.{parallel_onto}
use Rattle.calculus.proofs.translate.in_parallel.Given as goal

abbrev pub invariant-loop-child : goal.invariant-loop-child
invariant-loop-child l =
    parallel_onto 0 (map residual_of_tree l.children) (residual_of_tree l.left) ≡ in_parallel 0 (map residual_of_tree l.initial.children)

abbrev pub decreases-loop-child : goal.decreases-loop-child
decreases-loop-child l = length l.children
