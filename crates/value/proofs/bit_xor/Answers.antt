-- Both operands fit the wider width, and so do the bits of just one.
use Rattle.value.proofs.Words.{IsWord-xor_of}
use Rattle.value.proofs.bit_xor.Goals as goal

pub invariant_of-result : goal.invariant_of-result
invariant_of-result c = rw c.max.ensures (IsWord-xor_of _ _ c.a.invariant c.b.invariant)
