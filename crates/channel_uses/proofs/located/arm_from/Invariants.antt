use Rattle.std.proofs.Common.{◌-◌, length}
use Rattle.channel_uses.specs.internal.Located.{NoneBetween}
use Rattle.channel_uses.proofs.located.arm_from.Given as goal

abbrev pub invariant-arms : goal.invariant-arms
invariant-arms l = NoneBetween l.channel l.channels l.from l.arm

abbrev pub decreases-arms : goal.decreases-arms
decreases-arms l = length l.channels - l.arm
