-- With those of the tokens that are left, they are those of all.
use Rattle.std.proofs.Common.{◌≡◌, ◌++◌, drop}
use Rattle.described.specs.Enumerations.{enumerations_of}
use Rattle.described.proofs.enumeration.enumerations_of.Given as goal

abbrev pub invariant-loop-index : goal.invariant-loop-index
invariant-loop-index l = l.found ++ enumerations_of (drop l.index l.tokens) ≡ enumerations_of l.tokens
