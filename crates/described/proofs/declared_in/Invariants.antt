-- With those of the channels that are left, they are those of all.
use Rattle.std.proofs.Common.{◌≡◌, ◌++◌, drop, map}
use Rattle.system.specs.declared.system.Channel.{Channel}
use Rattle.described.proofs.declared_in.Given as goal

abbrev pub invariant-loop-channel : goal.invariant-loop-channel
invariant-loop-channel l =
    l.declared.items ++ map (λ (c : Channel). c.declared) (drop l.channel-index l.channels) ≡ map (λ (c : Channel). c.declared) l.channels
