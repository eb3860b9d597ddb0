use Rattle.std.proofs.Common.{◌≡◌, take}
use Rattle.address.proofs.inlined.Given as goal

-- the entries passed stand in it, and it took no memory
abbrev pub invariant-loop-entry : goal.invariant-loop-entry
invariant-loop-entry l = (l.made.items ≡ take l.entry-index l.entries) × (l.made.capacity ≡ 5)
