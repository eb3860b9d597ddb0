use Rattle.std.proofs.Common.{length}
use Rattle.address.proofs.public.Finds.{Pending}
use Rattle.address.proofs.text.read.Given as goal

-- what is read so far and the rest are the text, and an address with this text goes on from it
abbrev pub invariant-loop-rest : goal.invariant-loop-rest
invariant-loop-rest l = Pending l.fn.text l.entries.items l.rest

-- each entry takes from the rest
abbrev pub decreases-loop-rest : goal.decreases-loop-rest
decreases-loop-rest l = length l.rest
