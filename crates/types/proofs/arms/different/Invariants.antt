use Rattle.std.proofs.Common.{◌≡◌, drop, map}
use Rattle.types.specs.Arms.{new_channels, channel_of_arm}
use Rattle.types.specs.Findings.{and_all, demands}
use Rattle.types.specs.internal.Least.{least}
use Rattle.types.proofs.arms.different.Given as goal

-- with the arms that are left, the outcome is that of all
abbrev pub invariant-loop-arm : goal.invariant-loop-arm
invariant-loop-arm l =
    and_all least l.outcome (new_channels l.seen.keys (map channel_of_arm (drop l.arm-index l.arms)))
    ≡ demands least (new_channels l.fn.seen.keys (map channel_of_arm l.arms))
