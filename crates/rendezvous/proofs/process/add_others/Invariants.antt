-- What the first commands are to do stands behind the others.
use Rattle.std.proofs.Common.{◌≡◌, ◌++◌, map, take}
use Rattle.calculus.specs.ResidualTree.{residual_of_tree}
use Rattle.rendezvous.proofs.Rows.{to_do_with}
use Rattle.rendezvous.proofs.process.add_others.Given as goal

abbrev pub invariant-loop-code : goal.invariant-loop-code
invariant-loop-code l =
    map residual_of_tree l.lefts ≡ map residual_of_tree l.initial.lefts ++ map (to_do_with l.received) (take l.code-index l.codes)
