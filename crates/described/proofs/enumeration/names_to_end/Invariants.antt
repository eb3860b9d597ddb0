-- With those of the tokens that are left, they are those of all.
use Rattle.std.proofs.Common.{◌≡◌, ◌++◌, drop}
use Rattle.described.specs.Enumerations.{names_to_end}
use Rattle.described.proofs.enumeration.names_to_end.Given as goal

abbrev pub invariant-loop-token : goal.invariant-loop-token
invariant-loop-token l = l.names ++ names_to_end (drop l.token-index l.tokens) ≡ names_to_end l.tokens
