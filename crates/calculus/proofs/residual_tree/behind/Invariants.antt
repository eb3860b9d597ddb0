use Rattle.std.proofs.Common.{◌≡◌, length}
use Rattle.calculus.specs.ResidualTree.{residual_of_tree}
use Rattle.calculus.specs.internal.Passed.{behind}
use Rattle.calculus.proofs.residual_tree.behind.Given as goal

-- those that are left before what is made so far
abbrev pub invariant-loop-child : goal.invariant-loop-child
invariant-loop-child l = behind l.passed (residual_of_tree l.left) ≡ behind l.initial.passed (residual_of_tree l.initial.left)

abbrev pub decreases-loop-child : goal.decreases-loop-child
decreases-loop-child l = length l.passed
