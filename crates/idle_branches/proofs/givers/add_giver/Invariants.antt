use Rattle.std.proofs.Common.{drop}
use Rattle.idle_branches.proofs.GiverLemmas.{Given}
use Rattle.idle_branches.proofs.givers.add_giver.Given as goal

-- of the channels those are left that are still to be looked at
abbrev pub invariant-loop-channel : goal.invariant-loop-channel
invariant-loop-channel l = Given l.channels (drop l.channel-index l.channels) l.branch l.initial.givers l.givers
