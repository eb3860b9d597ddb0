use Rattle.std.proofs.Common.{◌≡◌, ◌++◌, drop, map}
use Rattle.system.specs.Expression.{constant}
use Rattle.system.specs.Residual.{send}
use Rattle.calculus.specs.ResidualTree.{residual_of_tree}
use Rattle.calculus.proofs.start.sends_of.Given as goal

abbrev pub invariant-loop-value : goal.invariant-loop-value
invariant-loop-value l =
    map residual_of_tree l.sends ++ map (λ v. send l.channel l.width (constant v)) (drop l.value-index l.values)
    ≡ map (λ v. send l.channel l.width (constant v)) l.values
