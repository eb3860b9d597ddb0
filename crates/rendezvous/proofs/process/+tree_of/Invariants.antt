-- What is left of so many processes is listed.
use Rattle.std.proofs.Common.{◌≡◌, ◌≤◌, ◌-◌, map, take}
use Rattle.calculus.specs.ResidualTree.{residual_of_tree}
use Rattle.process_tree.specs.Remaining.{remaining}
use Rattle.process_tree.specs.View.{proc_view}
use Rattle.rendezvous.proofs.process.+tree_of.Given as goal

abbrev pub invariant-trees_of-children : goal.invariant-trees_of-children
invariant-trees_of-children l =
    (l.number ≤ l.end) × (map residual_of_tree l.lefts ≡ map (λ p. remaining l.received (proc_view p)) (take l.number l.procs))

abbrev pub decreases-trees_of-children : goal.decreases-trees_of-children
decreases-trees_of-children l = l.end - l.number
