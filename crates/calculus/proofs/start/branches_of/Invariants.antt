use Rattle.std.proofs.Common.{◌≡◌, ◌∷◌, ◌++◌, drop, map}
use Rattle.system.specs.Translation.{residual_of, branch_of}
use Rattle.calculus.specs.ResidualTree.{residual_of_tree}
use Rattle.calculus.proofs.start.branches_of.Given as goal

abbrev pub invariant-loop-branch : goal.invariant-loop-branch
invariant-loop-branch l =
    map residual_of_tree l.lefts ++ map branch_of (drop l.branch-index l.branch-items) ≡ residual_of l.system.main ∷ map branch_of l.branch-items
