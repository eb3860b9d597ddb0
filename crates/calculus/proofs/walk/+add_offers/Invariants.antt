use Rattle.std.proofs.Common.{◌≡◌, ◌≤◌, ◌++◌, map}
use Rattle.runs.specs.internal.AllowedEvents.{offers}
use Rattle.calculus.specs.ResidualTree.{residual_of_tree}
use Rattle.calculus.specs.internal.Walk.{located_of, below}
use Rattle.calculus.proofs.residual_tree.ResidualTree.TheLaws.{the_size}
use Rattle.calculus.proofs.walk.+add_offers.Given as goal

-- what is left is no larger than the whole, and what it offers is all that is still to be added
abbrev pub invariant-passing : goal.invariant-passing
invariant-passing l =
    (the_size l.left ≤ the_size l.initial.left)
    × (map located_of l.found ++ below l.place (offers l.values (residual_of_tree l.left))
    ≡ map located_of l.initial.found ++ below l.place (offers l.values (residual_of_tree l.initial.left)))
