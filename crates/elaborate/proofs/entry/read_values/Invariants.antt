use Rattle.std.proofs.Common.{length}
use Rattle.elaborate.proofs.Readings.{Pending}
use Rattle.elaborate.proofs.entry.read_values.Given as goal

-- what is read so far and the rest are the text, and numbers with this text go on from it
abbrev pub invariant-loop-rest : goal.invariant-loop-rest
invariant-loop-rest l = Pending l.fn.text l.values l.rest

abbrev pub decreases-loop-rest : goal.decreases-loop-rest
decreases-loop-rest l = length l.rest
