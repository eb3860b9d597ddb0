use Rattle.std.proofs.Common.{◌≡◌, length}
use Rattle.calculus.specs.ResidualTree.{residual_of_tree}
use Rattle.calculus.specs.internal.Passed.{along_all}
use Rattle.calculus.proofs.residual_tree.along_all.Given as goal

-- those that are left beside what is made so far
abbrev pub invariant-loop-number : goal.invariant-loop-number
invariant-loop-number l = along_all l.passed (residual_of_tree l.left) ≡ along_all l.initial.passed (residual_of_tree l.initial.left)

abbrev pub decreases-loop-number : goal.decreases-loop-number
decreases-loop-number l = length l.passed
