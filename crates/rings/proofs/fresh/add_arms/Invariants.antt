use Rattle.std.proofs.Common.{◌≡◌, ◌++◌, drop}
use Rattle.rings.specs.internal.Ends.{arm_ends}
use Rattle.rings.proofs.fresh.add_arms.Given as goal

-- with those that are left, they are all
abbrev pub invariant-loop-channel : goal.invariant-loop-channel
invariant-loop-channel l = l.ends.items ++ arm_ends l.wanted (drop l.channel-index l.channels) ≡ l.initial.ends.items ++ arm_ends l.wanted l.channels
