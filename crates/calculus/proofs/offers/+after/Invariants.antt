use Rattle.std.proofs.Common.{◌≡◌, ◌≤◌}
use Rattle.runs.specs.internal.After.{around, after}
use Rattle.calculus.specs.ResidualTree.{residual_of_tree}
use Rattle.calculus.specs.internal.Passed.{along_all}
use Rattle.calculus.proofs.residual_tree.ResidualTree.TheLaws.{the_size}
use Rattle.calculus.proofs.offers.+after.Given as goal

-- what is left is no larger than the whole, and its answer beside those that were passed is that of the whole
abbrev pub invariant-after-passing : goal.invariant-after-passing
invariant-after-passing l =
    (the_size l.left ≤ the_size l.initial.left)
    × (around (along_all l.passed) (after l.ask (residual_of_tree l.left) l.place) ≡ after l.ask (residual_of_tree l.initial.left) l.place)
