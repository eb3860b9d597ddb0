-- The values that are left to put.
use Rattle.std.proofs.Common.{◌≡◌, ◌≤◌, length, take}
use Rattle.calculus.specs.ResidualTree.{residual_of_tree}
use Rattle.process_tree.specs.Remaining.{puts}
use Rattle.rendezvous.proofs.process.put_all.Given as goal

abbrev pub invariant-arms : goal.invariant-arms
invariant-arms l =
    (l.count ≤ length l.received)
    × (puts (take l.count l.received) (residual_of_tree l.left) ≡ puts l.received (residual_of_tree l.fn.left))

abbrev pub decreases-arms : goal.decreases-arms
decreases-arms l = l.count
