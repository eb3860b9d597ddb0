use Rattle.std.proofs.Common.{length}
use Rattle.trace_file.proofs.LongLemmas.{Passed}
use Rattle.trace_file.proofs.long.is_place.Given as goal

-- entries were passed, and an address with this text goes on from them with the rest
abbrev pub invariant-loop-rest : goal.invariant-loop-rest
invariant-loop-rest l = Passed l.fn.text l.rest

-- each entry takes from the rest
abbrev pub decreases-loop-rest : goal.decreases-loop-rest
decreases-loop-rest l = length l.rest
