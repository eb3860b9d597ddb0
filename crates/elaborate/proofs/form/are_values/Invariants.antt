use Rattle.std.proofs.Common.{ℕ, List, length}
use Rattle.elaborate.proofs.Readings.{Pending}
use Rattle.elaborate.proofs.form.are_values.Given as goal

-- some numbers and the rest are the text, and numbers with this text go on from them
abbrev pub invariant-loop-rest : goal.invariant-loop-rest
invariant-loop-rest l = (found : List ℕ) × Pending l.text found l.rest

abbrev pub decreases-loop-rest : goal.decreases-loop-rest
decreases-loop-rest l = length l.rest
