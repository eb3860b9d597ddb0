use Rattle.std.proofs.Common.{◌≡◌, drop}
use Rattle.local_actions.specs.Walk.{added}
use Rattle.local_actions.specs.internal.At.{opens_here}
use Rattle.local_actions.proofs.site.list_opens.Given as goal

abbrev pub invariant-loop-arm : goal.invariant-loop-arm
invariant-loop-arm l = added (opens_here l.arm (drop l.arm l.channels)) l.cursor ≡ added (opens_here 0 l.channels) l.initial.cursor
