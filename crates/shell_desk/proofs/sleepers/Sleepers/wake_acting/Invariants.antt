use Rattle.std.proofs.Common.{drop}
use Rattle.shell_desk.proofs.SleepLemmas.{KeptActing}
use Rattle.shell_desk.proofs.sleepers.Sleepers.wake_acting.Given as goal

-- who sleeps slept before, and if it acts on one of the channels, it does on one of those that are left
abbrev pub invariant-loop-channel : goal.invariant-loop-channel
invariant-loop-channel l =
    KeptActing l.ends l.channels (drop l.channel-index l.channels) l.initial.self.asleep l.self.asleep
