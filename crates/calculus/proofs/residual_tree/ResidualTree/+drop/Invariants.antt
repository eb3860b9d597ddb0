use Rattle.std.proofs.Common.{◌≤◌}
use Rattle.calculus.proofs.residual_tree.ResidualTree.TheLaws.{the_size}
use Rattle.calculus.proofs.residual_tree.ResidualTree.+drop.Given as goal

-- what is left to drop is no larger than the whole
abbrev pub invariant-loop-self : goal.invariant-loop-self
invariant-loop-self l = the_size l.self ≤ the_size l.initial.self
