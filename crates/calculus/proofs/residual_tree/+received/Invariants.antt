use Rattle.std.proofs.Common.{◌≡◌, ◌≤◌, ◌++◌, drop, map}
use Rattle.system.specs.Residual.{put_residual}
use Rattle.calculus.specs.ResidualTree.{residual_of_tree}
use Rattle.calculus.specs.internal.Passed.{behind}
use Rattle.calculus.proofs.residual_tree.ResidualTree.TheLaws.{the_size}
use Rattle.calculus.proofs.residual_tree.+received.Given as goal

-- the copies are the arms that are passed, with the value put
abbrev pub invariant-all_with_received-loop-arm : goal.invariant-all_with_received-loop-arm
invariant-all_with_received-loop-arm l =
    map residual_of_tree l.copies ++ map (put_residual l.channel l.value) (map residual_of_tree (drop l.arm-index l.arms))
    ≡ map (put_residual l.channel l.value) (map residual_of_tree l.arms)

-- what is left is no larger than the whole, and with what was passed before it, it is the whole with the value put
abbrev pub invariant-with_received-passing : goal.invariant-with_received-passing
invariant-with_received-passing l =
    (the_size l.left ≤ the_size l.initial.left)
    × (behind l.passed (put_residual l.channel l.value (residual_of_tree l.left)) ≡ put_residual l.channel l.value (residual_of_tree l.initial.left))
