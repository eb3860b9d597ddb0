use Rattle.std.proofs.Common.{drop}
use Rattle.shell_desk.proofs.SleepLemmas.{KeptFaced}
use Rattle.shell_desk.proofs.sleepers.Sleepers.wake_faced.Given as goal

-- who sleeps slept before, and if one of the actions faces it, so does one of those that are left
abbrev pub invariant-loop-offer : goal.invariant-loop-offer
invariant-loop-offer l =
    KeptFaced l.ends l.offers (drop l.offer-index l.offers) l.initial.self.asleep l.self.asleep
