-- What is found and what is still to be told lead to all that is to be found.
use Rattle.std.proofs.Common.{◌≡◌, reverse}
use Rattle.described.specs.Telling.{found_in}
use Rattle.described.specs.internal.Pendings.{leads}
use Rattle.described.proofs.walk.walk.Given as goal

abbrev pub invariant-loop : goal.invariant-loop
invariant-loop l = leads l.procedures (reverse l.work) l.found ≡ found_in l.procedures
