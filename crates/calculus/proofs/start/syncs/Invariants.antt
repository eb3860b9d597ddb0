use Rattle.std.proofs.Common.{◌≡◌, ◌≤◌, ◌-◌}
use Rattle.system.specs.Translation.{syncs_from}
use Rattle.calculus.specs.ResidualTree.{residual_of_tree}
use Rattle.calculus.proofs.start.syncs.Given as goal

abbrev pub invariant-loop-number : goal.invariant-loop-number
invariant-loop-number l = (l.number ≤ l.count) × (residual_of_tree l.left ≡ syncs_from l.number l.channel (l.count - l.number))

abbrev pub decreases-loop-number : goal.decreases-loop-number
decreases-loop-number l = l.number
