-- Both operands fit the wider width, and so do the bits of either.
use Rattle.value.proofs.Words.{IsWord-or_of}
use Rattle.value.proofs.bit_or.Goals as goal

pub invariant_of-result : goal.invariant_of-result
invariant_of-result c = rw c.max.ensures (IsWord-or_of _ _ c.a.invariant c.b.invariant)
