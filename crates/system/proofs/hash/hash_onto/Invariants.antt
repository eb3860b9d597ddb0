use Rattle.std.proofs.Common.{◌≡◌, drop}
use Rattle.system.specs.internal.Hashing as hashing
use Rattle.system.proofs.hash.hash_onto.Given as goal

abbrev pub invariant-loop-byte : goal.invariant-loop-byte
invariant-loop-byte l = hashing.hash_onto l.mixed (drop l.byte-index l.bytes) ≡ hashing.hash_onto l.hash l.bytes
