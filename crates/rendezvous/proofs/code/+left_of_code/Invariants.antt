-- What the first commands are to do is listed.
use Rattle.std.proofs.Common.{◌≡◌, map, take}
use Rattle.calculus.specs.ResidualTree.{residual_of_tree}
use Rattle.rendezvous.proofs.Rows.{to_do}
use Rattle.rendezvous.proofs.code.+left_of_code.Given as goal

abbrev pub invariant-lefts_of_codes-loop-code : goal.invariant-lefts_of_codes-loop-code
invariant-lefts_of_codes-loop-code l = map residual_of_tree l.lefts ≡ map to_do (take l.code-index l.codes)
