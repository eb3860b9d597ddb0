use Rattle.std.proofs.Common.{◌≡◌, None}
use Rattle.sharing_check.specs.internal.Counting.{least_onto}
use Rattle.sharing_check.proofs.widths.least_of.Given as goal

abbrev pub invariant-loop-channel : goal.invariant-loop-channel
invariant-loop-channel l = least_onto l.system l.least l.channel-iterator ≡ least_onto l.system None l.widths.by_channel.entries
